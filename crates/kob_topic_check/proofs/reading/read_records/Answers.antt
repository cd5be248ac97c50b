use Rattle.std.proofs.Common.{ap, arith, length, suc, sym, ◌+◌, ◌∙◌, ◌≡◌}
use Rattle.kob_topic_check.specs.Lists.{record_of}
use Rattle.kob_topic_check.proofs.Listed.{line_more, line_stops, lines_end}
use Rattle.kob_topic_check.proofs.reading.read_records.Goals as goal

pub loop-line-preserved : goal.loop-line-preserved
loop-line-preserved c =
    let split = c.in-Some.ensures.steps in
    let fewer : length c.loop-line.line-iterator ≡ suc (length c.next.new.self) = ap length split in
    record {
      few = omega (arith, fewer, c.loop-line.invariant.few);
      rest = line_more record_of c.loop-line.records.items _ c.in-Some-record_of.record (c.loop-line.number + 1)
          c.in-Some.line.now _ _ _ split
          (sym c.in-Some-record_of.is ∙ c.record_of.ensures) c.in_ok-add-in-Some-record_of.ensures
          c.loop-line.invariant.rest;
    }

pub returns-in-None-record_of : goal.returns-in-None-record_of
returns-in-None-record_of c =
    line_stops record_of c.loop-line.records.items (c.loop-line.number + 1) c.in-Some.line.now _ _ _
    c.in-Some.ensures.steps
    (sym c.in-None-record_of.is ∙ c.record_of.ensures) c.loop-line.invariant.rest

pub returns : goal.returns
returns c =
    lines_end record_of c.loop-line.records.items (c.loop-line.number + 1) _ _ c.in-None.ensures.steps.0
    c.loop-line.invariant.rest
