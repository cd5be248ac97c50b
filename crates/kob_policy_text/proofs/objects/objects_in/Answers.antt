use Rattle.kob_policy_text.proofs.Words.{ap, arith, length, suc, ◌+◌, ◌≡◌}
use Rattle.kob_policy_text.proofs.Numbering.{lines_read, objects_end}
use Rattle.kob_policy_text.proofs.objects.objects_in.Goals as goal

pub loop-line-preserved : goal.loop-line-preserved
loop-line-preserved c =
    let split = c.in-Some.ensures.steps in
    let fewer : length c.loop-line.line-iterator ≡ suc (length c.next.new.self) = ap length split in
    record {
      few = omega (arith, fewer, c.loop-line.invariant.few);
      kept = lines_read _ _ _ (c.loop-line.number + 1) _ _ _ c.loop-line.invariant.kept split
          c.in_ok-read_line.ensures;
    }

pub returns : goal.returns
returns c =
    rw (objects_end c.loop-line.objects (c.loop-line.number + 1) _ _ c.loop-line.invariant.kept
    c.in-None.ensures.steps.0)
    c.finish.ensures
