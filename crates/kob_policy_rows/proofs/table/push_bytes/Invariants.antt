use Rattle.std.proofs.Common.{flat_map, take, ◌++◌, ◌≡◌}
use Rattle.kob_policy_rows.specs.Csv.{quoted_byte}
use Rattle.kob_policy_rows.proofs.table.push_bytes.Given as goal

abbrev pub invariant-loop-byte : goal.invariant-loop-byte
invariant-loop-byte l = l.out.items ≡ l.initial.out.items ++ flat_map quoted_byte (take l.byte-index l.text)
