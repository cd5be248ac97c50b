-- What was read, and then what the rest stands for, is what the texts stand for.
use Rattle.kob_policy_text.proofs.Words.{drop, each, with_front, ◌≡◌}
use Rattle.kob_script.specs.Words.{word_of}
use Rattle.kob_policy_text.proofs.question.each_word.Given as goal

abbrev pub invariant-loop-text : goal.invariant-loop-text
invariant-loop-text l = with_front l.words.items (each word_of (drop l.text-index l.texts)) ≡ each word_of l.texts
