-- What is left is whole if the word is.
use Rattle.std.proofs.Common.{is_some, length, ◌≡◌}
use Rattle.kob_words.specs.Words.{unescaped}
use Rattle.kob_words.proofs.escape.has_whole_escapes.Given as goal

abbrev pub invariant-loop-first : goal.invariant-loop-first
invariant-loop-first l = is_some (unescaped l.rest) ≡ is_some (unescaped l.word)

abbrev pub decreases-loop-first : goal.decreases-loop-first
decreases-loop-first l = length l.rest
