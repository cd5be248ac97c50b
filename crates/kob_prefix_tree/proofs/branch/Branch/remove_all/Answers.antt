use Rattle.kob_prefix_tree.proofs.Words.{ChangedAt, Contents, ap, contents, kept_behind, led_by, refl, subst, sym, trie_of, without_serials, ◌++◌, ◌∙◌, ◌∷◌}
use Rattle.kob_prefix_tree.specs.Contents.{first_byte}
use Rattle.kob_prefix_tree.proofs.InPlaceLemmas.{left_behind, neat_in_front}
use Rattle.kob_prefix_tree.proofs.WayLemmas.{kept_here}
use Rattle.kob_prefix_tree.proofs.branch.Branch.remove_all.Goals as goal

pub remove_in_place-requires-clause-neat : goal.remove_in_place-requires-clause-neat
remove_in_place-requires-clause-neat c =
    let b = c.args.self.now in let now = c.follow.new.self.nodes in
    neat_in_front b.tail c.in-Some.rest.now (without_serials c.args.kind c.args.serials.now)
    (b.literal, b.prefixed) b.below.nodes now now c.requires.neat c.in-Some.ensures.1

pub returns-in-Some-clause-taken : goal.returns-in-Some-clause-taken
returns-in-Some-clause-taken c =
    let b = c.args.self.now in let f = without_serials c.args.kind c.args.serials.now in
    let now = c.follow.new.self.nodes in let there = c.in-Some.ensures in let left = c.remove_in_place.new.self in
    let none = c.if-not-is_empty.ensures.0 refl in let after : Contents = ((b.literal, b.prefixed), trie_of left.nodes) in
    let all = left_behind b.tail c.in-Some.rest.now f (b.literal, b.prefixed) b.below.nodes now left.nodes
    c.requires.neat there.1 c.remove_in_place.ensures.taken in
    let key_is = ap (λ tail. tail ++ first_byte now ∷ c.in-Some.rest.now) none ∙ sym there.0 in
    let left_is =
    ap (λ tail. kept_behind tail after) none ∙ kept_here after ∙ ap (λ tail. led_by tail after) (sym none) in
    subst (λ key. ChangedAt key f (contents b) (contents (record b { below = left }))) key_is
    (subst (ChangedAt (b.tail ++ first_byte now ∷ c.in-Some.rest.now) f (contents b)) left_is all)
