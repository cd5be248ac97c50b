-- What the bytes that are left make of the words so far, all make of none.
use Rattle.kob_policy_text.proofs.Words.{drop, no_words, read_on, ◌≡◌}
use Rattle.kob_policy_text.proofs.shell.quoting_after.Given as goal

abbrev pub invariant-loop-byte : goal.invariant-loop-byte
invariant-loop-byte l = read_on l.words (drop l.byte-index l.line) ≡ read_on no_words l.line
