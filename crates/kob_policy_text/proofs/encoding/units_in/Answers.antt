use Rattle.kob_policy_text.proofs.Words.{arith, refl}
use Rattle.kob_policy_text.proofs.Numbering.{units_end, units_read}
use Rattle.kob_policy_text.proofs.encoding.units_in.Goals as goal

pub loop-byte-preserved : goal.loop-byte-preserved
loop-byte-preserved c =
    units_read _ _ _ _ c.args.bytes.now c.loop-byte.byte-index _ _ c.loop-byte.invariant (omega arith) refl
    c.in_ok-read.ensures

pub returns : goal.returns
returns c = units_end _ _ _ c.args.bytes.now c.loop-byte.byte-index c.loop-byte.invariant (omega arith)
