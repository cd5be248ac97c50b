-- Which of some names is nearest to a name: that which the fewest changes make of it. A change is a
-- character more, less or another, or two that stand side by side the other way round.
use Rattle.std.specs.Prelude.{ℕ, ◌+◌, ◌/◌, ◌&&◌, max, nat_le, nat_lt, Bool, List, Option, Some, None, fold, length, if◌then◌else◌}
use Rattle.std.specs.Str.{chars}
use Rattle.strsim.specs.Edits.{osa_table}
use Rattle.kob_policy_text.specs.declared.nearest.Nearest.{Nearest}

-- how many changes lead from one name to another
unfoldable pub distance : List ℕ → List ℕ → ℕ
distance name other = (osa_table (chars name) (chars other)).last_row (length (chars other))

-- longer names are not compared
abbrev pub is_compared : List ℕ → Bool
is_compared name = nat_le (length name) 64

-- a near name needs one change, or no more than a third of the bytes
abbrev pub none_near : List ℕ → Nearest
none_near name = record { found = None; least = max (length name / 3) 1 + 1 }

-- of equally near ones the first counts
abbrev pub with_nearer : List ℕ → Nearest → List ℕ → Nearest
with_nearer name so_far other =
    if is_compared other && nat_lt (distance name other) so_far.least
    then record { found = Some other; least = distance name other } else so_far

abbrev pub nearest_of : List ℕ → List (List ℕ) → Option (List ℕ)
nearest_of name others =
    if is_compared name then (fold (with_nearer name) (none_near name) others).found else None
