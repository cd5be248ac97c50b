-- The nodes of a list of serials.
use Rattle.std.specs.Prelude.{◌≡◌, ℕ, List, [], ◌∷◌}
use denote.RawPtr.{Ptr}
use Rattle.kob_prefix_tree.specs.Tree.{Tree, leaf, node}
use Rattle.kob_prefix_tree.specs.Nodes.{last_of}
use Rattle.kob_prefix_tree.specs.declared.cells.Serial.{Serial}

-- the serials in order
abbrev pub values_of : Tree Serial → List ℕ
values_of leaf = []
values_of (node item heap c below n after) = item.value ∷ values_of after

-- the first of them, where there is one, knows where the last one lies
abbrev pub KnowsEnd : Tree Serial → Ptr → Type 0
KnowsEnd leaf p = Unit {0}
KnowsEnd (node item heap c below n after) p = item.last ≡ last_of (node item heap c below n after) p
