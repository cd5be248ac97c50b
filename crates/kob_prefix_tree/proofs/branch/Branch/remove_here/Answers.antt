use Rattle.kob_prefix_tree.proofs.Words.{ap, arith, eqb-true, has_serials, length, nat_tests, sym, trie_of, without_serials, ◌∙◌}
use Rattle.kob_prefix_tree.proofs.PartsLemmas.{none_here, held_at_end, changed_at_end}
use Rattle.kob_prefix_tree.proofs.branch.Branch.remove_here.Goals as goal

pub returns-then-not-is_empty : goal.returns-then-not-is_empty
returns-then-not-is_empty c =
    let none = none_here c.args.count c.args.key.now c.args.self.now c.requires c.args.kind c.args.serials.now in
    grind (arith, nat_tests)

pub returns-then-count-as_slice : goal.returns-then-count-as_slice
returns-then-count-as_slice c =
    let none = none_here c.args.count c.args.key.now c.args.self.now c.requires c.args.kind c.args.serials.now in
    grind (arith, nat_tests, c.requires.within)

pub returns : goal.returns
returns c =
    let b = c.args.self.now in let kind = c.args.kind in let serials = c.args.serials.now in
    let none = eqb-true (length c.args.key.now) 0 (sym c.if-not-is_empty.ensures) in
    let all = c.if-count-as_slice.false ∙ ap length c.as_slice.ensures.bytes in
    let taken = c.take_out-found.new.self in
    record {
      found = c.take_out-found.ensures.found
          ∙ ap (has_serials kind serials) (sym (held_at_end c.args.count c.args.key.now b c.requires none all));
      taken = changed_at_end c.args.count c.args.key.now b c.requires (without_serials kind serials) none all
          c.take_out-found.ensures.tail
          (λ i. (c.take_out-found.ensures.taken i, trie_of (c.take_out-found.ensures.below i).nodes)) c.settle.ensures;
    }
