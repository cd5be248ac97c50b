use Rattle.kob_policy_text.proofs.Words.{ap, arith, length, refl, suc, ◌+◌, ◌≡◌}
use Rattle.kob_policy_text.proofs.Asking.{line_keeps, line_stops, lines_end}
use Rattle.kob_policy_text.proofs.question.read_lines.Goals as goal

pub loop-line-init : goal.loop-line-init
loop-line-init c =
    let same = c.into_iter-line-iterator.ensures.into_iter_gives in
    record {
      few = rw same (omega (arith, c.lines-line-items.ensures.len));
      rest = rw (same, c.lines-line-items.ensures.value) refl;
    }

pub loop-line-preserved : goal.loop-line-preserved
loop-line-preserved c =
    let split = c.in-Some.ensures.steps in
    let fewer : length c.loop-line.line-iterator ≡ suc (length c.next.new.self) = ap length split in
    record {
      few = omega (arith, fewer, c.loop-line.invariant.few);
      rest = line_keeps c.args.are_names c.loop-line.questions _ (c.loop-line.number + 1) _ _ _ _
          c.loop-line.invariant.rest split c.in-Ok.ensures;
    }

pub returns-in-Err : goal.returns-in-Err
returns-in-Err c =
    rw c.fault_at.ensures
    (line_stops c.args.are_names c.loop-line.questions (c.loop-line.number + 1) _ _ _ _ c.in-Err.error
    c.loop-line.invariant.rest
    c.in-Some.ensures.steps c.in-Err.ensures)

pub returns : goal.returns
returns c =
    lines_end c.args.are_names c.loop-line.questions (c.loop-line.number + 1) _ _ c.loop-line.invariant.rest
    c.in-None.ensures.steps.0
