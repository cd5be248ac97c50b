-- What was read, and then what the rest stands for, is what the words stand for.
use Rattle.kob_policy_text.proofs.Words.{drop, each, text_in, texts, with_front, ◌≡◌}
use Rattle.kob_policy_text.proofs.tool.texts_in.Given as goal

abbrev pub invariant-loop-word : goal.invariant-loop-word
invariant-loop-word l = with_front (texts l.texts.items) (each text_in (drop l.word-index l.words)) ≡ each text_in l.words
