use Rattle.kob_policy_text.proofs.Words.{arith, refl}
use Rattle.kob_policy_text.proofs.Numbering.{bytes_end, bytes_read}
use Rattle.kob_policy_text.proofs.objects.Objects.read_bytes.Goals as goal

pub loop-byte-preserved : goal.loop-byte-preserved
loop-byte-preserved c =
    bytes_read _ _ _ _ c.args.text.now c.loop-byte.byte-index _ _ c.loop-byte.invariant (omega arith) refl
    c.in_ok-read.ensures

pub returns : goal.returns
returns c = bytes_end _ _ _ c.args.text.now c.loop-byte.byte-index c.loop-byte.invariant (omega arith)
