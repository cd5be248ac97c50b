-- The words that were passed are shown.
use Rattle.std.proofs.Common.{map, take, ◌++◌, ◌≡◌}
use Rattle.kob.specs.Marks.{words_text}
use Rattle.kob.proofs.marks.push_words.Given as goal

abbrev pub invariant-loop-word : goal.invariant-loop-word
invariant-loop-word l =
    l.out.items ≡ l.initial.out.items ++ words_text (map (λ word. word.now) (take l.word-index l.words))
