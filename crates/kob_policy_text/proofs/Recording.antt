-- A log is read line by line.
use Rattle.kob_policy_text.proofs.Words.{List, [], ap, arith, nat_tests, sym, ℕ, ◌+◌, ◌∙◌, ◌∷◌, ◌≡◌}
use Rattle.kob_policy_text.specs.LogLines.{Log, log_from, with_log_line}

pub log_keeps : (log next whole : Log) (number : ℕ) (rest more : List (List ℕ)) (line : List ℕ)
    → log_from number log rest ≡ whole → rest ≡ line ∷ more → next ≡ with_log_line number log line
    → log_from (number + 1) next more ≡ whole
unfolding log_from
log_keeps log next whole number rest more line kept split is = grind (arith, nat_tests)

pub log_ends : (log whole : Log) (number : ℕ) (rest : List (List ℕ))
    → log_from number log rest ≡ whole → rest ≡ [] → log ≡ whole
unfolding log_from
log_ends log whole number rest kept none = sym (ap (log_from number log) none) ∙ kept
