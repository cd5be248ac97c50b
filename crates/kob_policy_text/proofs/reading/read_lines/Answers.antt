use Rattle.kob_policy_text.proofs.Words.{arith}
use Rattle.kob_policy_text.proofs.Making.{line_keeps, lines_end, stopped}
use Rattle.kob_policy_text.proofs.reading.read_lines.Goals as goal

pub loop-line-preserved : goal.loop-line-preserved
loop-line-preserved c =
    line_keeps c.args.file.now c.args.policy.now c.loop-line.policy c.add_numbered.new.policy c.args.lines.now
    c.loop-line.line-index _ c.line-item.result c.loop-line.invariant (omega arith) c.line-item.is c.in-Ok.ensures

pub returns-in-Err : goal.returns-in-Err
returns-in-Err c =
    rw c.fault_on.ensures
    (stopped c.args.file.now c.args.policy.now c.loop-line.policy c.args.lines.now
    c.loop-line.line-index _ c.line-item.result c.in-Err.error c.loop-line.invariant (omega arith) c.line-item.is
    c.in-Err.ensures)

pub returns : goal.returns
returns c =
    lines_end c.args.file.now c.args.policy.now c.loop-line.policy c.args.lines.now c.loop-line.line-index
    c.loop-line.invariant (omega arith)
