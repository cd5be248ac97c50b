-- What was read, and then what the rest stands for, is what the word stands for.
use Rattle.std.proofs.Common.{length, ◌≡◌}
use Rattle.kob_words.specs.Words.{unescaped}
use Rattle.kob_words.proofs.Escapes.{with_rest}
use Rattle.kob_words.proofs.escape.unescaped.Given as goal

abbrev pub invariant-loop-first : goal.invariant-loop-first
invariant-loop-first l = with_rest l.bytes.items (unescaped l.rest) ≡ unescaped l.word

abbrev pub decreases-loop-first : goal.decreases-loop-first
decreases-loop-first l = length l.rest
