-- What was put, and then what is left, is what the words stand for, unless there was a percent sign.
use Rattle.kob_script.proofs.Imports.{each, length, raw_words, take, word_of, ◌≡◌, ◌≤◌}
use Rattle.std.specs.Prelude.{IsTrue}
use Rattle.kob_script.proofs.RawWords.{words_left}
use Rattle.kob_script.proofs.Each.{with_front}
use Rattle.kob_script.proofs.words.put_plain.Given as goal

abbrev pub invariant-loop-raw : goal.invariant-loop-raw
invariant-loop-raw l = record {
  few : l.count ≤ length l.few;
  room : length l.few ≡ length l.fn.few;
  words : IsTrue l.words.is_plain → with_front (take l.count l.few) (each word_of (words_left l.words)) ≡ each word_of (raw_words l.line);
}

abbrev pub decreases-loop-raw : goal.decreases-loop-raw
decreases-loop-raw l = length (words_left l.words)
