use Rattle.kob_prefix_tree.proofs.Words.{IsWay, ap, arith, contents, length, subst, sym, take_all, trie_of, ◌++◌, ◌∷◌, ◌∙◌, kept_behind, unwound, with_child}
use Rattle.kob_prefix_tree.proofs.WayLemmas.{goes_on}
use Rattle.kob_prefix_tree.proofs.branch.Branch.enter.Goals as goal

pub returns-clause-way : goal.returns-clause-way
returns-clause-way c rest key root on way =
    let b = c.args.self.now in let found = c.in-Some.ensures in
    subst (IsWay c.go_down.new.above.nodes rest key root) (sym c.go_down.ensures.here)
    (goes_on b.tail c.args.byte (b.literal, b.prefixed) (trie_of b.below.nodes) (trie_of c.take_out.new.self.nodes) found.1.1.0 found.1.1.1
    (λ d. c.go_down.ensures.way d ∙ ap (λ byte. unwound c.args.above.now.nodes (kept_behind b.tail (
      (b.literal, b.prefixed),
      with_child byte d (trie_of c.take_out.new.self.nodes),
    ))) found.1.0) rest key root
    (subst (λ bytes. IsWay c.args.above.now.nodes (bytes ++ (c.args.byte ∷ rest)) key root (contents b))
    (take_all c.args.count b.tail (let same = ap length c.as_slice.ensures.bytes in
    omega (arith, c.if-count-as_slice.false))) way))
