use Rattle.kob_prefix_tree.proofs.Words.{Branch, ChangedAt, Held, Link, ap, bare, end_of, key_of, led_by, subst, sym, trie_of, unwound, with_serial, ◌++◌, ◌∙◌, ◌∷◌}
use Rattle.kob_prefix_tree.specs.declared.siblings.Item.{Item}
use Rattle.kob_prefix_tree.proofs.WayLemmas.{some_put, behind_tail, along_on, put_alone}
use Rattle.kob_prefix_tree.proofs.branch.Branch.along.Goals as goal

pub loop-path-init : goal.loop-path-init
loop-path-init c = record {
  inner = sym (ap (λ tail. led_by tail (end_of c.new-here.result)) c.new-here.ensures.no_tail) ∙ c.new-here.ensures.bare;
  changed = λ f d done some. subst
      (λ above. ChangedAt (c.args.tail ++ key_of c.args.path.nodes) f bare (unwound above (led_by c.args.tail d)))
      (sym c.null-above.ensures) (behind_tail f c.args.tail (key_of c.args.path.nodes) done some).0;
}

pub loop-path-preserved : goal.loop-path-preserved
loop-path-preserved c =
    let here = c.loop-path.here in let node = c.take-node.result.0 in let made = c.new-branch.result in
    let key = c.args.tail ++ key_of c.args.path.nodes in let rest = key_of c.replace-path.result.nodes in
    let key_is =
    ap key_of c.take-node.ensures
    ∙ ap (λ l. node.item.byte ∷ (node.item.tail ++ key_of l.nodes)) (sym c.replace-path.ensures.value) in
    let on = along_on key here.tail node.item.tail rest node.item.byte (here.literal, here.prefixed)
    (trie_of here.below.nodes) c.loop-path.above.nodes c.go_on.new.above.nodes c.loop-path.invariant.inner
    c.go_on.ensures.way
    (λ f d done. c.loop-path.invariant.changed f d (subst (λ k. ChangedAt k f bare d) (sym key_is) done)) in
    let tail_is = ap (λ (b : Branch). b.tail) c.go_on.ensures.here ∙ c.swap.ensures.x_after in
    record {
      inner = ap end_of c.go_on.ensures.here
          ∙ sym (ap (λ tail. led_by tail (end_of made)) c.new-branch.ensures.no_tail) ∙ c.new-branch.ensures.bare;
      changed = λ f d done some. subst
          (λ tail. ChangedAt key f bare (unwound c.go_on.new.above.nodes (led_by tail d))) (sym tail_is) (on f d done some);
    }

pub returns : goal.returns
returns c =
    let here = c.loop-path.here in let now = c.put.new.self in let f : Held → Held = with_serial c.args.kind c.args.serial in
    let key = c.args.tail ++ key_of c.args.path.nodes in
    let put = put_alone c.args.kind c.args.serial c.loop-path.invariant.inner c.put.ensures.held
    (ap (λ (l : Link Item). trie_of l.nodes) c.put.ensures.below) in
    let done : ChangedAt (key_of c.loop-path.path.nodes) f bare (end_of now) =
    subst (λ k. ChangedAt k f bare (end_of now)) (sym (ap key_of (c.is_null.ensures.0 c.loop-path-test.false))) put in
    subst (ChangedAt key f bare)
    (sym (c.ascend.ensures
    ∙ ap (λ tail. unwound c.loop-path.above.nodes (led_by tail (end_of now))) c.put.ensures.tail))
    (c.loop-path.invariant.changed f (end_of now) done (some_put c.args.kind c.args.serial _ _ done.at))
