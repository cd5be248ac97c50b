-- Blanks alone were passed.
use Rattle.kob_script.proofs.Imports.{drop, ◌≡◌}
use Rattle.kob_script.specs.Words.{is_skipped}
use Rattle.kob_script.proofs.words.is_skipped.Given as goal

abbrev pub invariant-loop-byte : goal.invariant-loop-byte
invariant-loop-byte l = is_skipped (drop l.byte-index l.line) ≡ is_skipped l.line
