-- What the records of the code keep.
use Rattle.kob_prefix_tree.specs.declared.branch.Branch.{Branch}
use Rattle.kob_prefix_tree.specs.declared.node.Node.{Node}
use Rattle.kob_prefix_tree.specs.declared.link.Link.{Link}
use Rattle.kob_prefix_tree.specs.declared.siblings.Item.{Item}
use Rattle.kob_prefix_tree.specs.declared.place.Place.{Place}
use Rattle.kob_prefix_tree.specs.Tree.{Tree, leaf, node, Trie, void, sibling, Contents, led_by, bare, held_in, siblings, value_at, without, IsNeat, ChangedAt}
use Rattle.std.specs.Prelude.{◌≡◌, ◌≤◌, ℕ, Bool, true, false, ◌&&◌, if◌then◌else◌, List, [], ◌∷◌, None, drop, length, Option, Some, ◌++◌, map}
use Rattle.kob_prefix_tree.specs.Held.{Held, is_nothing, nothing, serials_of, prefixes}
use Rattle.kob_prefix_tree.specs.declared.part.Part.{Part}
use Rattle.kob_prefix_tree.specs.Nodes.{Leads}
use Rattle.kob_prefix_tree.specs.Path.{Parts}
use Rattle.std.specs.Borrow.{Bor}
use Rattle.kob_prefix_tree.specs.declared.cells.Serial.{Serial}
use Rattle.kob_prefix_tree.specs.declared.serials.Unread.{Unread}
use Rattle.kob_prefix_tree.specs.Cells.{values_of}
use Rattle.std.specs.List.{flat_map}
use Rattle.kob_prefix_tree.specs.declared.kind.PatternKind.TheVariants.{Literal, Prefixed}
use Rattle.kob_prefix_tree.specs.declared.walk.Ahead.{Ahead}
use Rattle.kob_prefix_tree.specs.declared.walk.Walk.{Walk}

-- the bytes of nodes: one that has several stands for as many, of which the last keeps what it does
abbrev pub trie_of : Tree Item → Trie
trie_of leaf = void
trie_of (node item heap c below n after) =
    let first = led_by item.tail ((item.literal, item.prefixed), trie_of below) in
    sibling item.byte first.0 first.1 (trie_of after)

-- what stands behind the bytes of a branch
abbrev pub end_of : Branch → Contents
end_of b = ((b.literal, b.prefixed), trie_of b.below.nodes)

abbrev pub contents : Branch → Contents
contents b = led_by b.tail (end_of b)

-- what stands behind the bytes of a node, and behind its first byte
abbrev pub node_end : Node Item (Link Item) (Link Item) → Contents
node_end n = ((n.item.literal, n.item.prefixed), trie_of n.child.nodes)

abbrev pub node_contents : Node Item (Link Item) (Link Item) → Contents
node_contents n = led_by n.item.tail (node_end n)

-- the first byte of the first of some nodes, and what stands behind it
abbrev pub first_byte : Tree Item → ℕ
first_byte leaf = 0
first_byte (node item heap c below n after) = item.byte

abbrev pub first_contents : Tree Item → Contents
first_contents leaf = bare
first_contents (node item heap c below n after) =
    led_by item.tail ((item.literal, item.prefixed), trie_of below)

-- the siblings after the first of some nodes
abbrev pub others_of : Tree Item → Trie
others_of leaf = void
others_of (node item heap c below n after) = trie_of after

-- the node that begins with the byte was moved to the front of its siblings
pub record IsInFront (byte : ℕ) (old new : Tree Item) : Type 0 where
  pub leads : Leads new
  pub byte_is : first_byte new ≡ byte
  pub there : value_at byte (siblings (trie_of old)) ≡ Some (first_contents new)
  pub others : siblings (others_of new) ≡ without byte (siblings (trie_of old))

-- f was done at this key behind the first byte of the first node, and its siblings stay
pub record ChangedInFront (key : List ℕ) (f : Held → Held) (old new : Tree Item) : Type 0 where
  pub leads : Leads new
  pub byte_is : first_byte new ≡ first_byte old
  pub others : others_of new ≡ others_of old
  pub done : ChangedAt key f (first_contents old) (first_contents new)

-- behind the bytes of a node the key goes on to a child, which is now in front
pub record GoesOn (key rest : List ℕ) (old new : Node Item (Link Item) (Link Item)) : Type 0 where
  pub key_is : key ≡ old.item.tail ++ first_byte new.child.nodes ∷ rest
  pub front : IsInFront (first_byte new.child.nodes) old.child.nodes new.child.nodes
  pub item : new.item ≡ old.item
  pub next : new.next ≡ old.next

-- of a place that is read
abbrev pub seen : Place → Contents
seen p = led_by p.tail.now ((p.literal.now, p.prefixed.now), trie_of p.below.now.nodes)

-- The way from the root down to one place. Its nodes stand beside one another, the last one first.
-- Each keeps the first byte of the node that the way goes on to, and, below it, the other nodes
-- that follow the place that it leaves.

abbrev pub is_void : Trie → Bool
is_void void = true
is_void (sibling byte held below after) = false

-- the place keeps nothing and leads nowhere
abbrev pub is_bare : Contents → Bool
is_bare c = is_nothing c.0 && is_void c.1

-- the siblings with one more, which is left out where it would be bare
abbrev pub with_child : ℕ → Contents → Trie → Trie
with_child byte c t = if is_bare c then t else sibling byte c.0 c.1 t

-- bytes that alone lead on to the contents, which are left out where these are bare
abbrev pub kept_behind : List ℕ → Contents → Contents
kept_behind tail c = if is_bare c then bare else led_by tail c

-- the root, where this stands at the end of the way
abbrev pub unwound : Tree Item → Contents → Contents
unwound leaf c = c
unwound (node item heap first below next after) c =
    unwound after (kept_behind item.tail
    ((item.literal, item.prefixed), with_child item.byte c (trie_of below)))

-- the way leads from the root to these contents along the key, of which the rest is to come
pub record IsWay (above : Tree Item) (rest key : List ℕ) (root here : Contents) : Type 0 where
  pub neat : IsNeat here.1
  pub held : held_in rest here ≡ held_in key root
  pub changed :
      (f : Held → Held) (after : Contents)
      → ChangedAt rest f here after → ChangedAt key f root (unwound above after)

-- no sibling here begins with the first byte of the key
abbrev pub LeadsNowhere : List ℕ → Contents → Type 0
LeadsNowhere [] c = Unit {0}
LeadsNowhere (byte ∷ key) c = value_at byte (siblings c.1) ≡ None

-- behind the first bytes of the branch no byte leads on along the rest of a key
pub record EndsAt (count : ℕ) (rest : List ℕ) (here : Branch) : Type 0 where
  pub neat : IsNeat (contents here).1
  pub within : count ≤ length here.tail
  pub nowhere : LeadsNowhere rest (led_by (drop count here.tail) (end_of here))

-- f was done at this key behind the first byte of the first node, which is gone if nothing is left there
pub record LeftInFront (key : List ℕ) (f : Held → Held) (old new : Tree Item) : Type 0 where
  pub left : Contents
  pub done : ChangedAt key f (first_contents old) left
  pub nodes : trie_of new ≡ with_child (first_byte old) left (others_of old)

-- so many bytes of a node begin the key, and behind them no byte of the tree leads on along the rest
pub record StaysAt (count : ℕ) (key rest : List ℕ) (old new : Node Item (Link Item) (Link Item)) : Type 0 where
  pub parts : Parts old.item.tail key count rest
  pub nowhere : count ≡ length old.item.tail → LeadsNowhere rest (node_end old)
  pub item : new.item ≡ old.item
  pub end : node_end new ≡ node_end old
  pub next : new.next ≡ old.next

-- What a part of the tree holds.

-- what stands at a key behind a place, if there is one
abbrev pub held_from : Option Place → List ℕ → Held
held_from None key = nothing
held_from (Some place) key = held_in key (seen place)

-- what stands at each key of a part
abbrev pub part_of : Part → List ℕ → Held
part_of part = held_from part.place

-- What is still to be read of a list of serials.

-- one, if there is one
abbrev pub value_in : Option ℕ → List ℕ
value_in None = []
value_in (Some serial) = serial ∷ []

-- those from a link on
abbrev pub values_in : Option (Bor (Link Serial)) → List ℕ
values_in None = []
values_in (Some cells) = values_of cells.now.nodes

-- the serials of a list that are not yet read
abbrev pub unread_of : Unread → List ℕ
unread_of unread = value_in unread.one ++ values_in unread.cells

-- What a walk has still to give.

-- the beginnings of a name but the empty one
abbrev pub longer_prefixes : List ℕ → List (List ℕ)
longer_prefixes [] = []
longer_prefixes (byte ∷ name) = map (λ prefix. byte ∷ prefix) (prefixes name)

-- what comes behind the prefixed serials of the place itself
abbrev pub serials_beyond : (List ℕ → Held) → List ℕ → List ℕ
serials_beyond held name =
    flat_map (λ prefix. serials_of Prefixed (held prefix)) (longer_prefixes name)
    ++ serials_of Literal (held name)

-- what a place still ahead gives
abbrev pub ahead_of : Option Ahead → List ℕ
ahead_of None = []
ahead_of (Some a) = serials_beyond (λ key. held_in key (seen a.place)) a.name.now

-- the serials that are left, in order
abbrev pub left_of : Walk → List ℕ
left_of walk = unread_of walk.serials ++ ahead_of walk.ahead

-- All serials behind a place.

-- those of some nodes: of each, of the nodes below it, and of the siblings after it
abbrev pub serials_below : Tree Item → List ℕ
serials_below leaf = []
serials_below (node item heap c below n after) =
    (item.literal ++ item.prefixed) ++ (serials_below below ++ serials_below after)

-- those at the end of its bytes, and of the nodes there
abbrev pub serials_behind : Place → List ℕ
serials_behind p = (p.literal.now ++ p.prefixed.now) ++ serials_below p.below.now.nodes
