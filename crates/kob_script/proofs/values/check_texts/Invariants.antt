-- The words that are left have the first fault of all.
use Rattle.kob_script.proofs.Imports.{drop, each, result_err, text_of, ◌≡◌}
use Rattle.kob_script.proofs.values.check_texts.Given as goal

abbrev pub invariant-loop-word : goal.invariant-loop-word
invariant-loop-word l = result_err (each text_of (drop l.word-index l.words)) ≡ result_err (each text_of l.words)
