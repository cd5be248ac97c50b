-- The files that were passed did not end with answers that differ, unless they were played.
use Rattle.std.proofs.Common.{false, ◌≡◌, ◌≢◌}
use Rattle.kob.specs.Headings.{can_differ}
use Rattle.kob.specs.declared.ending.Ending.TheVariants.{Differs}
use Rattle.kob.proofs.play.do_files.Given as goal

abbrev pub invariant-loop-file : goal.invariant-loop-file
invariant-loop-file g l = can_differ l.fn.work ≡ false → l.ending ≢ Differs
