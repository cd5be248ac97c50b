-- What the bytes that are left make of the units so far, all make of none.
use Rattle.kob_policy_text.proofs.Words.{drop, ◌≡◌}
use Rattle.kob_policy_text.specs.Encoding.{no_units, read_units}
use Rattle.kob_policy_text.proofs.encoding.units_in.Given as goal

abbrev pub invariant-loop-byte : goal.invariant-loop-byte
invariant-loop-byte l =
    read_units l.low_first l.units (drop l.byte-index l.bytes) ≡ read_units l.low_first no_units l.bytes
