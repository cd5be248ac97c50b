-- A text that is no UUID, and a line that is too short for one.
use Rattle.std.proofs.Common.{Bool, Err, IsOk, List, None, Option, Result, Some, ap, arith, false, length, refl, sym, true, ℕ, ◌<◌, ◌≡◌, ◌↔◌, is_ok, take}
use Rattle.std.proofs.lemmas.List.{drop_all}
use Rattle.kob_topic_check.specs.Lists.{parts_of, separated}

clash : (b : Bool) → b ≡ true → b ≡ false → ⊥
clash b yes_it_is no_it_is = absurd cc

pub no_id : {E : Type 0} (result : Result (List ℕ) E) (e : E) (found : Option (List ℕ)) → result ≡ Err e
    → (IsOk result ↔ ((u : List ℕ) × (found ≡ Some u))) → None ≡ found
no_id result e None is ok = refl
no_id result e (Some u) is ok = absurd (clash (is_ok result) (ok.1 (u, refl)) (ap is_ok is))

pub too_short : (line : List ℕ) → length line < 36 → None ≡ parts_of line
too_short line short = sym (ap (separated (take 36 line)) (drop_all 36 line (omega (arith, short))))
