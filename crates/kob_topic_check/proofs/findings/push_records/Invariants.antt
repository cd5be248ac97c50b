use Rattle.std.proofs.Common.{[], drop, find, nat_eq, reverse, take, ℕ, ◌++◌, ◌≡◌}
use Rattle.std.specs.HashMap.{get}
use Rattle.kob_topic_check.specs.Findings.{is_of, records_text}
use Rattle.kob_topic_check.proofs.findings.push_records.Given as goal

abbrev pub invariant-loop-record : goal.invariant-loop-record
invariant-loop-record l = record {
  seen : (id : ℕ) → get nat_eq l.last id ≡ find (is_of id) (reverse (take l.record-index l.records));
  text : l.out.items ++ records_text l.rows (reverse (take l.record-index l.records)) (drop l.record-index l.records)
      ≡ l.initial.out.items ++ records_text l.rows [] l.records;
}
