use Rattle.std.proofs.Common.{Contains, List, eqb, subst, sym, ℕ}
use Rattle.std.proofs.lemmas.List.Filters.{dedup_is}
use Rattle.std.proofs.lemmas.List.Kept.{Contains-dedup_nat}
use Rattle.std.proofs.lemmas.List.Sorted.{Contains-permutation}
use Rattle.kob_authorizer.proofs.Leading.{sorted_rises}
use Rattle.kob_authorizer.specs.Leading.{RiseFrom}
use Rattle.kob_authorizer.proofs.patterns.in_order.Goals as goal

pub returns-clause-rising : goal.returns-clause-rising
returns-clause-rising c =
    subst (RiseFrom 0) (sym (dedup_is eqb c.sort_unstable.new.self.items c.dedup.new.self.items
    c.dedup.ensures.filtered))
    (sorted_rises c.sort_unstable.new.self.items c.sort_unstable.ensures.sorted)

pub returns-clause-all : goal.returns-clause-all
returns-clause-all c serial there =
    subst (λ (xs : List ℕ). Contains xs serial)
    (sym (dedup_is eqb c.sort_unstable.new.self.items c.dedup.new.self.items c.dedup.ensures.filtered))
    (Contains-dedup_nat c.sort_unstable.new.self.items serial
    (Contains-permutation c.args.serials.items c.sort_unstable.new.self.items serial
    c.sort_unstable.ensures.permutation there))
