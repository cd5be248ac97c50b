use Rattle.std.proofs.Common.{flat_map, take, ◌++◌, ◌≡◌}
use Rattle.kob_policy_text.specs.Quoted.{quoted_byte}
use Rattle.kob_policy_text.proofs.quoted.push_quoted_bytes.Given as goal

abbrev pub invariant-loop-byte : goal.invariant-loop-byte
invariant-loop-byte l = l.out.items ≡ l.initial.out.items ++ flat_map quoted_byte (take l.byte-index l.name)
