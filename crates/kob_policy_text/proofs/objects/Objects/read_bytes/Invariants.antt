-- What the bytes that are left make of the objects so far, all make of those before.
use Rattle.kob_policy_text.proofs.Words.{drop, ◌≡◌}
use Rattle.kob_policy_text.specs.Objects.{read_bytes}
use Rattle.kob_policy_text.proofs.objects.Objects.read_bytes.Given as goal

abbrev pub invariant-loop-byte : goal.invariant-loop-byte
invariant-loop-byte l =
    read_bytes l.self l.line (drop l.byte-index l.text) ≡ read_bytes l.initial.self l.line l.text
