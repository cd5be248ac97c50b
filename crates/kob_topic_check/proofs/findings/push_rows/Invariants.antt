use Rattle.std.proofs.Common.{[], bytes_eq, drop, reverse, take, ◌++◌, ◌≡◌}
use Rattle.std.specs.HashMap.{get}
use Rattle.kob_topic_check.specs.Findings.{rows_text, sent_last}
use Rattle.kob_topic_check.proofs.findings.push_rows.Given as goal

abbrev pub invariant-loop-row : goal.invariant-loop-row
invariant-loop-row l = record {
  sent : (key : _) → get (λ one other. bytes_eq one.now other.now) l.last key
      ≡ sent_last key.now l.records (reverse (take l.row-index l.rows));
  text : l.out.items ++ rows_text l.records (reverse (take l.row-index l.rows)) (drop l.row-index l.rows)
      ≡ l.initial.out.items ++ rows_text l.records [] l.rows;
}
