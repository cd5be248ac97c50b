use Rattle.std.proofs.Common.{◌≡◌, take}
use Rattle.std.specs.List.{fold}
use Rattle.kob.specs.Standing.{after_step, seen}
use Rattle.kob.proofs.standing.take_steps.Given as goal

abbrev pub invariant-loop-step : goal.invariant-loop-step
invariant-loop-step l =
    seen l.end ≡ fold after_step (seen l.initial.end) (take l.step-index l.steps)
