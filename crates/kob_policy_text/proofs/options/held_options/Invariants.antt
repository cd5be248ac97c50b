-- What is passed on so far, and then what is passed on for the rest, is all that is passed on.
use Rattle.kob_policy_text.proofs.Words.{Anywhere, drop, held_options, texts, ◌++◌, ◌≡◌}
use Rattle.kob_policy_text.proofs.options.held_options.Given as goal

abbrev pub invariant-loop-word : goal.invariant-loop-word
invariant-loop-word l =
    texts l.held.items ++ held_options l.place (texts (drop l.word-index l.words)) ≡ held_options Anywhere (texts l.words)
