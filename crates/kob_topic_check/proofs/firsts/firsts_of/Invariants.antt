use Rattle.std.proofs.Common.{nat_eq, take, ℕ, ◌≡◌}
use Rattle.std.specs.HashMap.{get}
use Rattle.kob_topic_check.specs.Findings.{first_of}
use Rattle.kob_topic_check.proofs.firsts.firsts_of.Given as goal

abbrev pub invariant-loop-record : goal.invariant-loop-record
invariant-loop-record l = (id : ℕ) → get nat_eq l.firsts id ≡ first_of id (take l.record-index l.records)
