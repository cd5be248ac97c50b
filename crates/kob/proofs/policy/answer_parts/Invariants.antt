-- The parts that were passed did not end with answers that differ, unless one of them can.
use Rattle.std.proofs.Common.{false, take, ◌≡◌, ◌≢◌}
use Rattle.std.specs.List.{list_any}
use Rattle.kob.specs.Options.{can_differ_by}
use Rattle.kob.specs.declared.ending.Ending.TheVariants.{Differs}
use Rattle.kob.proofs.policy.answer_parts.Given as goal

abbrev pub invariant-loop-part : goal.invariant-loop-part
invariant-loop-part g l = list_any can_differ_by (take l.part-index l.parts) ≡ false → l.ending ≢ Differs
