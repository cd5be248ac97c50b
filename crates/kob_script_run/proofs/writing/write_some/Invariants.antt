-- The calls so far were interrupted, and took nothing.
use Rattle.kob_script_run.proofs.Words.{Keeps}
use Rattle.kob_script_run.proofs.writing.write_some.Given as goal

abbrev pub invariant-loop : goal.invariant-loop
invariant-loop g l = Keeps (g.W.Write.contents l.initial.writer) (g.W.Write.contents l.writer)
