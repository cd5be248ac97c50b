-- The parts that were passed have the form, the others are as they were.
use Rattle.std.proofs.Common.{Some, drop, map, take, ◌++◌, ◌≡◌}
use Rattle.kob.specs.Options.{with_form}
use Rattle.kob.proofs.policy_options.share_form.Given as goal

abbrev pub invariant-loop-place : goal.invariant-loop-place
invariant-loop-place l =
    l.parts ≡ map (with_form (Some l.form)) (take l.place l.initial.parts) ++ drop l.place l.initial.parts
