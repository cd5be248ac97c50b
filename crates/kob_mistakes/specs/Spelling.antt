-- The name that is nearest to a misspelt word: that which the fewest changes make of it. A change is a
-- character more, less or another, or two that stand side by side the other way round.
use Rattle.std.specs.Prelude.{ℕ, ◌+◌, ◌/◌, ◌&&◌, max, nat_le, nat_lt, Bool, List, Option, Some, None, fold, length, map, if◌then◌else◌}
use Rattle.std.specs.Char.{to_ascii_lowercase}
use Rattle.std.specs.Str.{bytes_eq, chars}
use Rattle.strsim.specs.Edits.{osa_table}
use Rattle.kob_mistakes.specs.declared.spelling.Found.{Found}

-- how many changes lead from one word to another
unfoldable pub distance : List ℕ → List ℕ → ℕ
distance word other = (osa_table (chars word) (chars other)).last_row (length (chars other))

-- in any case
abbrev pub changes_to : List ℕ → List ℕ → ℕ
changes_to word name = distance (map to_ascii_lowercase word) (map to_ascii_lowercase name)

-- longer words are not compared
abbrev pub is_compared : List ℕ → Bool
is_compared word = nat_le (length word) 64

-- a near name needs one change, or no more than a third of the word's bytes
abbrev pub none_near : List ℕ → Found
none_near word = record { name = None; least = max (length word / 3) 1 + 1 }

-- of equally near ones the first counts
abbrev pub with_nearer : List ℕ → Found → List ℕ → Found
with_nearer word so_far name =
    if is_compared name && nat_lt (changes_to word name) so_far.least
    then record { name = Some name; least = changes_to word name } else so_far

abbrev pub nearest : List ℕ → List (List ℕ) → Option (List ℕ)
nearest word names =
    if is_compared word then (fold (with_nearer word) (none_near word) names).name else None

-- a word that is a name is not misspelt
abbrev pub unless_same : Option (List ℕ) → List ℕ → Option (List ℕ)
unless_same None word = None
unless_same (Some name) word = if bytes_eq name word then None else Some name
