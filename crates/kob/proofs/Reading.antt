-- A text that is read up to a limit and a byte more, and is no longer than the limit, is whole.
use Rattle.std.proofs.Common.{◌≡◌, inl, inr, ℕ, ◌+◌, ◌≤◌, List, [], ◌++◌, Option, Some, None, IfSome, option_map, length, take, ap, ◌∙◌, arith}
use Rattle.std.proofs.lemmas.Bool.{cases_lt}
use Rattle.std.proofs.lemmas.List.{length-take-le, take_all}

not_cut : (limit count : ℕ) (all text : List ℕ) → count ≡ limit + 1 → length text ≤ limit
    → text ≡ take count all → text ≡ all
not_cut limit count all text next short read =
    elim (cases_lt (length all) count) [
      | inl less ↦ read ∙ take_all count all (omega arith)
      | inr more ↦ absurd (let full = length-take-le count all more in let same = ap length read in omega arith)
    ]

pub whole_text : (left : Option (List ℕ)) (limit count : ℕ) (before text : List ℕ)
    → count ≡ limit + 1 → before ≡ [] → length text ≤ limit
    → IfSome (option_map (take count) left) (λ bytes. text ≡ before ++ bytes)
    → IfSome left (λ bytes. text ≡ bytes)
whole_text None limit count before text more none short read = read
whole_text (Some all) limit count before text more none short read =
    not_cut limit count all text more short (read ∙ ap (λ b. b ++ take count all) none)
