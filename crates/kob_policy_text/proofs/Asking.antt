-- Questions are read line by line.
use Rattle.kob_policy_text.proofs.Words.{Bool, Fails, Fault, IsStopped, LineError, List, Memory, Ok, Questions, Result, [], ap, arith, fault_at, nat_tests, sym, with_line, ℕ, ◌+◌, ◌∙◌, ◌∷◌, ◌≡◌}
use Rattle.kob_script.specs.declared.fault.Fault as fault
use Rattle.kob_policy_text.specs.Questions.{lines_from}

pub line_keeps : (are_names : Bool) (so_far next : Questions) (number : ℕ)
    (rest : List (List ℕ)) (line : List ℕ) (more : List (List ℕ)) (whole : Result Questions fault.Fault)
    → lines_from are_names so_far number rest ≡ whole → rest ≡ line ∷ more → with_line are_names so_far line ≡ Ok next
    → lines_from are_names next (number + 1) more ≡ whole
unfolding lines_from
line_keeps are_names so_far next number rest line more whole kept split gives = grind (arith, nat_tests)

pub line_stops : (are_names : Bool) (so_far : Questions)
    (number : ℕ) (rest : List (List ℕ)) (line : List ℕ) (more : List (List ℕ))
    (whole : Result Questions fault.Fault) (e : LineError)
    → lines_from are_names so_far number rest ≡ whole → rest ≡ line ∷ more → Fails e (with_line are_names so_far line)
    → IsStopped (fault_at number e) (λ (read : Result Questions fault.Fault). read ≡ whole)
unfolding lines_from
line_stops are_names so_far number rest line more whole (Memory e) kept split fails = tt
line_stops are_names so_far number rest line more whole (Fault kind) kept split fails = grind (arith, nat_tests)

pub lines_end : (are_names : Bool) (so_far : Questions) (number : ℕ)
    (rest : List (List ℕ)) (whole : Result Questions fault.Fault)
    → lines_from are_names so_far number rest ≡ whole → rest ≡ [] → Ok so_far ≡ whole
unfolding lines_from
lines_end are_names so_far number rest whole kept none = sym (ap (lines_from are_names so_far number) none) ∙ kept
