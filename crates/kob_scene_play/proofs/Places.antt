-- A list in which one element was changed in its place.
use Rattle.kob_scene_play.proofs.Words.{List, None, Option, Some, [], ap, none-some, refl, set, slice_get, suc, sym, zero, ℕ, ◌∷◌, ◌≡◌}

-- what was put stands at its place
pub put_at : {A : Type 0} (xs : List A) (i : ℕ) (was x : A) → slice_get xs i ≡ Some was → slice_get (set xs i x) i ≡ Some x
put_at [] i was x stood = absurd (none-some was stood)
put_at (y ∷ ys) zero was x stood = refl
put_at (y ∷ ys) (suc i) was x stood = put_at ys i was x stood

abbrev given : {A : Type 0} → A → Option A → A
given other None = other
given other (Some x) = x

-- what is put where it is changes nothing
pub same_put : {A : Type 0} (xs : List A) (i : ℕ) (x : A) → slice_get xs i ≡ Some x → set xs i x ≡ xs
same_put [] i x is = refl
same_put (y ∷ ys) zero x is = ap (λ e. e ∷ ys) (sym (ap (given y) is))
same_put (y ∷ ys) (suc i) x is = ap (λ all. y ∷ all) (same_put ys i x is)
