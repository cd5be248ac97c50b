use Rattle.kob_policy_text.proofs.Words.{ap, arith, length, refl, suc, ◌+◌, ◌≡◌}
use Rattle.kob_policy_text.proofs.Recording.{log_ends, log_keeps}
use Rattle.kob_policy_text.proofs.log_reading.read_log.Goals as goal

pub loop-line-init : goal.loop-line-init
loop-line-init c =
    let same = c.into_iter-line-iterator.ensures.into_iter_gives in
    record {
      few = rw same (omega (arith, c.lines-line-items.ensures.len));
      rest = rw (same, c.lines-line-items.ensures.value, c.new-log.ensures) refl;
    }

pub loop-line-preserved : goal.loop-line-preserved
loop-line-preserved c =
    let split = c.in-Some.ensures.steps in
    let fewer : length c.loop-line.line-iterator ≡ suc (length c.next.new.self) = ap length split in
    record {
      few = omega (arith, fewer, c.loop-line.invariant.few);
      rest = log_keeps c.loop-line.log _ _ (c.loop-line.number + 1) _ _ _ c.loop-line.invariant.rest split
          c.in_ok-add_line.ensures;
    }

pub returns : goal.returns
returns c =
    log_ends c.loop-line.log _ (c.loop-line.number + 1) _ c.loop-line.invariant.rest c.in-None.ensures.steps.0
