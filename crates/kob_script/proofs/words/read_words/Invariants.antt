-- What was read, and then what is left, is what the words stand for.
use Rattle.kob_script.proofs.Imports.{each, length, raw_words, word_of, ◌≡◌}
use Rattle.kob_script.proofs.RawWords.{words_left}
use Rattle.kob_script.proofs.Each.{with_front}
use Rattle.kob_script.proofs.words.read_words.Given as goal

abbrev pub invariant-loop-raw : goal.invariant-loop-raw
invariant-loop-raw l = with_front l.read.items (each word_of (words_left l.words)) ≡ each word_of (raw_words l.line)

abbrev pub decreases-loop-raw : goal.decreases-loop-raw
decreases-loop-raw l = length (words_left l.words)
