-- The word that is wrong among the options that are left is that among all.
use Rattle.std.proofs.Common.{Bool, List, [], ◌∷◌, None, Option, Some, arith, drop, drop_of_length-le, get_or, length, refl, suc, zero, ℕ, ◌+◌, ◌<◌, ◌≡◌, ◌≤◌}
use Rattle.std.proofs.lemmas.Bool.Decides.{nat_tests}
use Rattle.std.proofs.lemmas.List.{drop_more}
use Rattle.kob_mistakes.specs.Options.{decoded_at, misnamed, misnamed_at, misplaced, taken_after}
use Rattle.kob_script.specs.Words.{Word}

pub next_of : (words : List Word) (place : ℕ) → decoded_at (drop place words) 0 ≡ decoded_at words place
next_of words zero = refl
next_of [] (suc place) = refl
next_of (word ∷ words) (suc place) = next_of words place

pub goes_on : (is_taken next : Bool) (place : ℕ) (words : List Word) (d x : Word) (found : Option ℕ)
    → misplaced is_taken place (drop place words) ≡ found → place < length words
    → x ≡ get_or words place d
    → taken_after is_taken x.decoded (decoded_at words (place + 1)) ≡ Some next
    → misplaced next (place + 1) (drop (place + 1) words) ≡ found
unfolding misplaced taken_after
goes_on is_taken next place words d x found kept below is after =
    grind (arith, nat_tests, drop_more, next_of)

pub stops : (is_taken : Bool) (place : ℕ) (words : List Word) (d x : Word) (found : Option ℕ)
    → misplaced is_taken place (drop place words) ≡ found → place < length words
    → x ≡ get_or words place d
    → taken_after is_taken x.decoded (decoded_at words (place + 1)) ≡ None → Some place ≡ found
unfolding misplaced taken_after
stops is_taken place words d x found kept below is after =
    grind (arith, nat_tests, drop_more, next_of)

pub ends : (is_taken : Bool) (place : ℕ) (words : List Word) (found : Option ℕ)
    → misplaced is_taken place (drop place words) ≡ found → length words ≤ place → None ≡ found
unfolding misplaced
ends is_taken place words found kept past = grind (arith, nat_tests, drop_of_length-le)

pub valid : (place : ℕ) (words : List Word) (d x : Word) (found : Option ℕ)
    → misnamed place (drop place words) ≡ found → place < length words → x ≡ get_or words place d
    → misnamed_at x.decoded (decoded_at words (place + 1)) place ≡ None
    → misnamed (place + 1) (drop (place + 1) words) ≡ found
unfolding misnamed
valid place words d x found kept below is none = grind (arith, nat_tests, drop_more, next_of)

pub invalid : (place at : ℕ) (words : List Word) (d x : Word) (found : Option ℕ)
    → misnamed place (drop place words) ≡ found → place < length words → x ≡ get_or words place d
    → misnamed_at x.decoded (decoded_at words (place + 1)) place ≡ Some at → Some at ≡ found
unfolding misnamed
invalid place at words d x found kept below is some =
    grind (arith, nat_tests, drop_more, next_of)

pub all_valid : (place : ℕ) (words : List Word) (found : Option ℕ)
    → misnamed place (drop place words) ≡ found → length words ≤ place → None ≡ found
unfolding misnamed
all_valid place words found kept past = grind (arith, nat_tests, drop_of_length-le)
