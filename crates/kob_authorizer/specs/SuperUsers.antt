-- The texts of super users in a tree, where each holds a serial of no meaning.
use Rattle.std.specs.Prelude.{Bool, ◌==◌, not, ℕ, List, length}
use Rattle.std.specs.List.{fold}
use Rattle.std.specs.FinMap as map
use Rattle.kob_prefix_tree.specs.Held.{PrefixMap, added, held}
use Rattle.kob_prefix_tree.specs.declared.kind.PatternKind.TheVariants.{Literal}

abbrev pub with_text : PrefixMap → List ℕ → PrefixMap
with_text texts user = added texts user Literal 0

-- the texts of these users
abbrev pub texts_of : List (List ℕ) → PrefixMap
texts_of users = fold with_text map.empty users

-- the text holds a serial
abbrev pub holds_text : PrefixMap → List ℕ → Bool
holds_text texts text = not (length (held texts text).0 == 0)
