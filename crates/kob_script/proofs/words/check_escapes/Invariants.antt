-- The words that are left have the first fault of all.
use Rattle.kob_script.proofs.Imports.{each, length, raw_words, result_err, word_of, ◌≡◌}
use Rattle.kob_script.proofs.RawWords.{words_left}
use Rattle.kob_script.proofs.words.check_escapes.Given as goal

abbrev pub invariant-loop-raw : goal.invariant-loop-raw
invariant-loop-raw l = result_err (each word_of (words_left l.words)) ≡ result_err (each word_of (raw_words l.line))

abbrev pub decreases-loop-raw : goal.decreases-loop-raw
decreases-loop-raw l = length (words_left l.words)
