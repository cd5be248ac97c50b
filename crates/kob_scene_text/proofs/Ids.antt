-- A text that is no UUID.
use Rattle.kob_scene_text.proofs.Words.{BadId, Bool, Err, IsOk, List, None, Option, Result, Some, ap, false, id_in, is_ok, refl, true, ℕ, ◌↔◌, ◌≡◌}

clash : (b : Bool) → b ≡ true → b ≡ false → ⊥
clash b yes_it_is no_it_is = absurd cc

pub no_id : {E : Type 0} (result : Result (List ℕ) E) (e : E) (found : Option (List ℕ)) → result ≡ Err e
    → (IsOk result ↔ ((u : List ℕ) × (found ≡ Some u))) → id_in found ≡ Err BadId
no_id result e None is ok = refl
no_id result e (Some u) is ok = absurd (clash (is_ok result) (ok.1 (u, refl)) (ap is_ok is))
