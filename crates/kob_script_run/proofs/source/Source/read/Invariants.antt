-- The calls so far were interrupted, and gave nothing.
use Rattle.kob_script_run.proofs.Words.{Keeps, ◌≤◌}
use Rattle.kob_script_run.proofs.source.Source.read.Given as goal

abbrev pub invariant-loop-self : goal.invariant-loop-self
invariant-loop-self g l = record {
  fewer : l.self.calls_left ≤ l.initial.self.calls_left;
  kept : Keeps (g.R.Read.remaining l.initial.self.reader.now) (g.R.Read.remaining l.self.reader.now);
}

abbrev pub decreases-loop-self : goal.decreases-loop-self
decreases-loop-self g l = l.self.calls_left
