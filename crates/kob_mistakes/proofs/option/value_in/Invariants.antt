-- What the option has among those that are left, it has among all.
use Rattle.std.proofs.Common.{drop, map, ◌≡◌}
use Rattle.kob_mistakes.specs.Options.{value_in}
use Rattle.kob_mistakes.proofs.option.value_in.Given as goal

abbrev pub invariant-loop-one : goal.invariant-loop-one
invariant-loop-one l =
    value_in (map (λ one. (one.0.now, one.1)) (drop l.one-index l.known)) l.name
    ≡ value_in (map (λ one. (one.0.now, one.1)) l.known) l.name
