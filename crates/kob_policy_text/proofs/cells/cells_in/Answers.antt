use Rattle.kob_policy_text.proofs.Words.{arith, refl}
use Rattle.kob_policy_text.proofs.Passing.{reads_cells}
use Rattle.kob_policy_text.proofs.cells.cells_in.Goals as goal

pub loop-byte-preserved : goal.loop-byte-preserved
loop-byte-preserved c =
    reads_cells _ _ _ c.args.line.now c.loop-byte.byte-index _ _ c.loop-byte.invariant (omega arith) refl
    c.in_ok-read.ensures
