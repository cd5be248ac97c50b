-- What a clause says of a link.
use Rattle.std.specs.Prelude.{◌≢◌, ℕ, ◌+◌}
use base.Fml.{Fml}
use denote.RawPtr.{Ptr}
use denote.RattleType.{RattleType}
use denote.Ref.{MutBor}
use denote.Follow.{follows}
use Rattle.kob_prefix_tree.specs.Tree.{Tree, leaf, node}
use Rattle.kob_prefix_tree.specs.declared.node.Node.{Node}
use Rattle.kob_prefix_tree.specs.declared.link.Link.{Link}
use Rattle.kob_prefix_tree.specs.contracts.node.Node as block
use Rattle.kob_prefix_tree.specs.contracts.link.Link as link

module _ {X : Type 0} where
  -- there is a first node
  abbrev pub Leads : Tree X → Type 0
  Leads t = t ≢ leaf

  -- a node and all that it owns
  abbrev pub tree_of : Node X (Link X) (Link X) → Tree X
  tree_of n = node n.item n.alloc n.child.first n.child.nodes n.next.first n.next.nodes

  -- the same link, and another node where it leads
  abbrev pub leading_to : Link X → Node X (Link X) (Link X) → Link X
  leading_to l n = record { first = l.first; nodes = tree_of n }

  -- how many nodes there are
  abbrev pub size : Tree X → ℕ
  size leaf = 0
  size (node item heap c below n after) = 1 + size below + size after

-- one of two values, as there is a node or none
abbrev pub if_none : {X : Type 0} {A : Type 0} → Tree X → A → A → A
if_none leaf none some = none
if_none (node item heap c below n after) none some = some

-- where the last of the siblings lies
abbrev pub last_of : {X : Type 0} → Tree X → Ptr → Ptr
last_of leaf p = p
last_of (node item heap c below n after) p = if_none after p (last_of after n)

-- siblings, and behind the last of them others
abbrev pub with_others : {X : Type 0} → Tree X → Link X → Tree X
with_others leaf others = others.nodes
with_others (node item heap c below n after) others =
    node item heap c below (if_none after others.first n) (with_others after others)

-- a node between links
abbrev pub linked_row : RattleType → RattleType
linked_row T = block.the_row T (link.the_row T) (link.the_row T)

-- after the loan the link leads to the node as the loan leaves it
abbrev pub keeps_what_is_left : (T : RattleType) → MutBor (Link T.Denot)
    → MutBor (Node T.Denot (Link T.Denot) (Link T.Denot)) → Fml
keeps_what_is_left T l loan =
    follows (link.the_row T) (linked_row T) l.ghost_name loan.ghost_name (leading_to l.now)
