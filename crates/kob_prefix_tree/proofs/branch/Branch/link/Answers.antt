use Rattle.kob_prefix_tree.proofs.Words.{common_steps, arith, ChangedAt, Contents, Held, LeadsNowhere, [], ap, bare, contents, end_of, key_of, led_by, siblings, subst, sym, trie_of, unwrap_or, with_serial, ◌++◌, ◌∙◌, ◌∷◌}
use Rattle.kob_prefix_tree.proofs.WayLemmas.{changed_here, linked_front, done_behind, neat_inside, some_put}
use Rattle.kob_prefix_tree.proofs.branch.Branch.link.Goals as goal

pub returns-then-is_null : goal.returns-then-is_null
returns-then-is_null c =
    let b = c.args.self.now in let now = c.put.new.self in let f : Held → Held = with_serial c.args.kind c.args.serial in
    let here = changed_here f (end_of b).0 (end_of b).1 (neat_inside b.tail (end_of b) c.requires.neat) in
    let none = c.is_null.ensures.0 c.if-is_null.true in
    let all = done_behind f b.tail [] (end_of b) (end_of now) c.requires.neat in
    grind (arith, common_steps, some_put c.args.kind c.args.serial [] (end_of b).0)

pub returns : goal.returns
returns c =
    let b = c.args.self.now in let f : Held → Held = with_serial c.args.kind c.args.serial in
    let item = c.take-node.result.0.item in let rest = item.tail ++ key_of c.replace-rest.result.nodes in
    let now : Contents = ((end_of b).0, trie_of c.put_front.new.self.nodes) in
    let key_is =
    ap key_of c.take-node.ensures ∙ ap (λ l. item.byte ∷ (item.tail ++ key_of l.nodes)) (sym c.replace-rest.ensures.value) in
    let done : ChangedAt rest f bare (contents c.along-branch.result) =
    subst (λ tail. ChangedAt (tail ++ key_of c.replace-rest.result.nodes) f bare (contents c.along-branch.result))
    c.replace-tail.ensures.value c.along-branch.ensures in
    let absent = subst (λ k. LeadsNowhere k (end_of b)) key_is c.requires.nowhere in
    let below = linked_front f item.byte rest (end_of b).0 (end_of b).1 now.1
    (neat_inside b.tail (end_of b) c.requires.neat) (ap (λ o. unwrap_or o bare) (sym absent)) done absent
    (some_put c.args.kind c.args.serial rest _ done.at) (ap siblings c.put_front.ensures) in
    subst (λ k. ChangedAt (b.tail ++ k) f (contents b) (led_by b.tail now)) (sym key_is)
    (done_behind f b.tail (item.byte ∷ rest) (end_of b) now c.requires.neat below
    (some_put c.args.kind c.args.serial (item.byte ∷ rest) _ below.at))
