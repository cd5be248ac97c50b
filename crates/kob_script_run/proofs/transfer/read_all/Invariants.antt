-- What was read stands in the input, and the rest of the limit is left.
use Rattle.kob_script_run.proofs.Words.{Consumes, EndLines, bytes_in, length, script_limit, ◌+◌, ◌≡◌}
use Rattle.kob_script_run.proofs.transfer.read_all.Given as goal

abbrev pub invariant-loop-input : goal.invariant-loop-input
invariant-loop-input g l = record {
  within : l.left + length (bytes_in l.input) ≡ script_limit;
  lines : EndLines l.input.blocks.items;
  read : Consumes (g.R.Read.remaining l.initial.source.reader.now)
      (g.R.Read.remaining l.source.reader.now) (bytes_in l.input);
}

abbrev pub decreases-loop-input : goal.decreases-loop-input
decreases-loop-input g l = l.source.calls_left
