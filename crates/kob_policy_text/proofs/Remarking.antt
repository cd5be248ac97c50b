-- A list has nothing on it where it begins and ends at one place.
use Rattle.std.proofs.Common.{List, [], append-nil, arith, length, length-append, ℕ, ◌++◌, ◌==◌, ◌∷◌, ◌≡◌}
use Rattle.std.proofs.lemmas.Bool.Decides.{nat_tests}
use Rattle.kob_policy_text.specs.Remarks.{has_none}

pub empty_since : (before text out : List ℕ) → out ≡ before ++ text → (length out == length before) ≡ has_none text
empty_since before [] out is = grind (arith, nat_tests, append-nil)
empty_since before (first ∷ rest) out is = grind (arith, nat_tests, length-append before (first ∷ rest))
