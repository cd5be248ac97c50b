-- What was read, and then what the rest stands for, is what the words stand for.
use Rattle.kob_script.proofs.Imports.{drop, each, map, text_of, ◌≡◌}
use Rattle.kob_script.proofs.Each.{with_front}
use Rattle.kob_script.proofs.values.texts_of.Given as goal

abbrev pub invariant-loop-word : goal.invariant-loop-word
invariant-loop-word l = with_front (map (λ text. text.now) l.texts.items) (each text_of (drop l.word-index l.words)) ≡ each text_of l.words
