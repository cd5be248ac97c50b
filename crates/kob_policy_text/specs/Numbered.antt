-- What the items of a list give one after another, each by its number.
use Rattle.std.specs.Prelude.{ℕ, ◌+◌, List, [], ◌∷◌, ◌++◌}

-- what the items from one on give, whose number is given
unfoldable pub numbered : {A B : Type 0} → (ℕ → A → List B) → ℕ → List A → List B
numbered given number [] = []
numbered given number (item ∷ items) = given number item ++ numbered given (number + 1) items
