-- Nodes that are made ahead, in order beside one another.
use Rattle.std.specs.Prelude.{◌≡◌, ◌≢◌, ◌≤◌, ℕ, List, [], ◌∷◌, ◌++◌, drop, length, take}
use Rattle.kob_prefix_tree.specs.Tree.{Tree, leaf, node}
use Rattle.kob_prefix_tree.specs.declared.siblings.Item.{Item}

-- the key that their bytes spell
abbrev pub key_of : Tree Item → List ℕ
key_of leaf = []
key_of (node item heap c below n after) = item.byte ∷ (item.tail ++ key_of after)

-- so many bytes of the tail begin the key, which goes on with the rest, unlike the tail if it can
pub record Parts (tail key : List ℕ) (count : ℕ) (rest : List ℕ) : Type 0 where
  pub within : count ≤ length tail
  pub key_is : key ≡ take count tail ++ rest
  pub apart : (b : ℕ) (bytes : List ℕ) → drop count tail ≡ b ∷ bytes
      → (byte : ℕ) (more : List ℕ) → rest ≡ byte ∷ more → byte ≢ b
