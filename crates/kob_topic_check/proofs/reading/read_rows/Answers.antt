use Rattle.std.proofs.Common.{ap, arith, length, suc, sym, ◌+◌, ◌∙◌, ◌≡◌}
use Rattle.kob_topic_check.specs.Lists.{row_of}
use Rattle.kob_topic_check.proofs.Listed.{line_more, line_stops, lines_end}
use Rattle.kob_topic_check.proofs.reading.read_rows.Goals as goal

pub loop-line-preserved : goal.loop-line-preserved
loop-line-preserved c =
    let split = c.in-Some.ensures.steps in
    let fewer : length c.loop-line.line-iterator ≡ suc (length c.next.new.self) = ap length split in
    record {
      few = omega (arith, fewer, c.loop-line.invariant.few);
      rest = line_more row_of c.loop-line.rows.items _ c.in-Some-2.row (c.loop-line.number + 1) c.in-Some.line.now _ _
          _ split
          (sym c.in-Some-2.is ∙ c.in_ok-row.ensures) c.in_ok-add-in-Some-2.ensures c.loop-line.invariant.rest;
    }

pub returns-in-None-2 : goal.returns-in-None-2
returns-in-None-2 c =
    line_stops row_of c.loop-line.rows.items (c.loop-line.number + 1) c.in-Some.line.now _ _ _ c.in-Some.ensures.steps
    (sym c.in-None-2.is ∙ c.in_ok-row.ensures) c.loop-line.invariant.rest

pub returns : goal.returns
returns c =
    lines_end row_of c.loop-line.rows.items (c.loop-line.number + 1) _ _ c.in-None.ensures.steps.0
    c.loop-line.invariant.rest
