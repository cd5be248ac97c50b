use Rattle.std.proofs.Common.{length, ◌+◌, ◌≡◌, ◌≤◌}
use Rattle.kob_topic_check.specs.Lists.{items_from, lines_in, record_of}
use Rattle.kob_topic_check.proofs.Listed.{behind_items}
use Rattle.kob_topic_check.proofs.reading.read_records.Given as goal

abbrev pub invariant-loop-line : goal.invariant-loop-line
invariant-loop-line l = record {
  few : l.number + length l.line-iterator ≤ length l.fn.text;
  rest : behind_items l.records.items (items_from record_of (l.number + 1) l.line-iterator)
      ≡ items_from record_of 1 (lines_in l.fn.text);
}
