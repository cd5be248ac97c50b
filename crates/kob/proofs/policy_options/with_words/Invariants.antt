-- The texts so far are those before and the words of this meaning that were passed.
use Rattle.std.proofs.Common.{take, ◌++◌, ◌≡◌}
use Rattle.kob.specs.Options.{words_of}
use Rattle.kob.proofs.policy_options.with_words.Given as goal

abbrev pub invariant-loop-word : goal.invariant-loop-word
invariant-loop-word l =
    l.made.items ≡ l.fn.texts ++ words_of l.meaning (take l.word-index l.words)
