-- One pass along a list.
use Rattle.kob_prefix_tree.proofs.Words.{List, [], arith, false, list_any, nat_tests, refl, without_in_turn, ℕ, ◌++◌, ◌==◌, ◌∷◌, ◌≡◌, KnowsEnd, Leads, Link, Node, Ptr, Serial, Tree, ap, if_none, last_of, leaf, node, sym, tree_of, values_of, with_others, ◌∙◌, Held, MatchOption, None, Option, Place, Some, held_from, held_in, nothing, seen, Contents, IsLongestInUse, IsNeat, Trie, bare, common_length, length, nil_from_length, sibling, suc, void, zero, ◌+◌, ◌≢◌, ◌≤◌, Ahead, Unread, ahead_of, append_assoc, flat_map, flat_map-map, left_of, longer_prefixes, prefixes, serials_along, serials_beyond, unread_of}

-- where none is sought, all stay
pub none_sought : (xs : List ℕ) → without_in_turn [] xs ≡ xs
none_sought [] = refl
none_sought (x ∷ xs) = refl

-- what the first of two lists has not is taken out of the second
pub taken_of_second : (y : ℕ) (xs ys : List ℕ) → list_any (λ x. x == y) xs ≡ false
    → without_in_turn (y ∷ []) (xs ++ ys) ≡ xs ++ without_in_turn (y ∷ []) ys
taken_of_second y [] ys none = refl
taken_of_second y (x ∷ xs) ys none = grind (arith, nat_tests, taken_of_second y xs ys)

-- Lists of serials, joined and read.

pub values_joined : (t : Tree Serial) (l : Link Serial) → values_of (with_others t l) ≡ values_of t ++ values_of l.nodes
values_joined leaf l = refl
values_joined (node item heap c below n after) l = ap (λ xs. item.value ∷ xs) (values_joined after l)

-- the last of two lists is the last of the second
pub last_joined : {X : Type 0} (t : Tree X) (l : Link X) (p : Ptr) → Leads l.nodes
    → last_of (with_others t l) (if_none t l.first p) ≡ last_of l.nodes l.first
last_joined leaf l p leads = refl
last_joined (node item heap c below n after) l p leads = grind (arith, last_joined after l n leads)

-- what a list knows of its end when another was joined to it, where both have something in them
module _ (self others made : Link Serial) (n now : Node Serial (Link Serial) (Link Serial)) (some : Leads self.nodes)
    (more : Leads others.nodes)
    (joined_is : made.nodes ≡ with_others self.nodes others) (now_is : made.nodes ≡ tree_of now) where
  pub end_joined : made.first ≡ self.first → KnowsEnd others.nodes others.first → others.nodes ≡ tree_of n
      → n.item.last ≡ last_of (tree_of now) made.first
  end_joined starts knows n_is = grind (arith, last_joined self.nodes others self.first more)

  pub values_are : values_of (tree_of now) ≡ values_of self.nodes ++ values_of others.nodes
  values_are = ap values_of (sym now_is ∙ joined_is) ∙ values_joined self.nodes others

-- What stands behind a place that was found, or was not.

pub from_match : (found : Option Place) (held : List ℕ → Held)
    → MatchOption found ((key : List ℕ) → held key ≡ nothing) (λ p. (key : List ℕ) → held key ≡ held_in key (seen p))
    → (key : List ℕ) → held_from found key ≡ held key
from_match None held nowhere key = sym (nowhere key)
from_match (Some place) held there key = sym (there key)

-- How far a name leads, byte by byte.

-- what stands at each key behind a place
abbrev held_at : Contents → List ℕ → Held
held_at c key = held_in key c

-- some key of a place that is not bare holds something
pub some_key : (l p : List ℕ) (t : Trie) → IsNeat t → ((l, p), t) ≢ bare
    → (key : List ℕ) × (held_in key ((l, p), t) ≢ nothing)
some_key (x ∷ l) p t neat some = ([], λ e. let e' : x ∷ l ≡ [] = ap (λ h. h.0) e in cc)
some_key [] (x ∷ p) t neat some = ([], λ e. let e' : x ∷ p ≡ [] = ap (λ h. h.1) e in cc)
some_key [] [] void neat some = absurd (some refl)
some_key [] [] (sibling first h below after) neat some =
    let (key, ne) = some_key h.0 h.1 below neat.1.1.0 neat.1.0 in (first ∷ key, grind (arith, nat_tests, ne))

pub longest_with_child : (es child : Contents) (byte : ℕ) (name : List ℕ) (n : ℕ)
    → ((key : List ℕ) → held_in (byte ∷ key) es ≡ held_in key child) → child ≢ bare → IsNeat child.1
    → IsLongestInUse (held_at child) name n → IsLongestInUse (held_at es) (byte ∷ name) (1 + n)
longest_with_child es child byte name n is some neat deep = record {
  reached = λ ne. let (key, (in_use, at)) = found n deep in
      (byte ∷ key, (grind (arith, is), grind (arith, nat_tests)));
  longest = λ key in_use. elim key as (λ k. held_at es k ≢ nothing → common_length (byte ∷ name) k ≤ 1 + n) [
    | [] ↦ λ u. omega arith
    | x ∷ k ↦ λ u. grind (arith, nat_tests, is k, deep.longest k)
  ] in_use;
}
  where
    found : (k : ℕ) → IsLongestInUse (held_at child) name k
        → (key : List ℕ) × ((held_at child key ≢ nothing) × (common_length name key ≡ k))
    found zero deep =
        let (key, in_use) = some_key child.0.0 child.0.1 child.1 neat some in
        (key, (in_use, let h = deep.longest key in_use in omega arith))
    found (suc k) deep = deep.reached (λ e. omega arith)

-- from a place that a name has come to, back to the start
module _ (start at : Contents) (name left : List ℕ) (depth : ℕ)
    (deeper : (n : ℕ) → IsLongestInUse (held_at at) left n → IsLongestInUse (held_at start) name (depth + n)) where
  ends : IsLongestInUse (held_at at) left 0 → IsLongestInUse (held_at start) name depth
  ends here = grind arith

  pub deeper_at_end : length left ≡ 0 → IsLongestInUse (held_at start) name depth
  deeper_at_end none = grind (arith, ends, nil_from_length)

  module _ {byte : ℕ} {others : List ℕ} (is : left ≡ byte ∷ others) where
    pub deeper_without_child : ((key : List ℕ) → held_at at (byte ∷ key) ≡ nothing)
        → IsLongestInUse (held_at start) name depth
    deeper_without_child none = grind (arith, ends)

    pub deeper_with_child : {child : Contents} → ((key : List ℕ) → held_at at (byte ∷ key) ≡ held_at child key)
        → (child ≢ bare) × IsNeat child.1
        → (n : ℕ) → IsLongestInUse (held_at child) others n → IsLongestInUse (held_at start) name (depth + 1 + n)
    deeper_with_child {child} held leads n deep =
        grind (arith, longest_with_child at child byte others n held leads.0 leads.1 deep)

-- A walk, step by step.

-- how many bytes the walk has still to go, and one more
abbrev pub steps_ahead : Option Ahead → ℕ
steps_ahead None = 0
steps_ahead (Some a) = length a.name.now + 1

pub prefixes_longer : (name : List ℕ) → prefixes name ≡ [] ∷ longer_prefixes name
prefixes_longer [] = refl
prefixes_longer (byte ∷ name) = refl

-- a walk begins with the prefixed serials of its place
pub serials_along_first : (held : List ℕ → Held) (name : List ℕ)
    → serials_along held name ≡ (held []).1
    ++ (flat_map (λ prefix. (held prefix).1) (longer_prefixes name) ++ (held name).0)
serials_along_first held name = grind (arith, append_assoc)

-- a child goes on
pub serials_beyond_child : (held child : List ℕ → Held) (byte : ℕ) (name : List ℕ)
    → ((key : List ℕ) → held (byte ∷ key) ≡ child key)
    → serials_beyond held (byte ∷ name) ≡ (child []).1 ++ serials_beyond child name
serials_beyond_child held child byte name is = grind (arith, serials_along_first child name, flat_map-map)

nothing_along : (f : List ℕ → List ℕ) (ps : List (List ℕ)) → ((p : List ℕ) → f p ≡ []) → flat_map f ps ≡ []
nothing_along f [] none = refl
nothing_along f (p ∷ ps) none = ap (λ ys. ys ++ flat_map f ps) (none p) ∙ nothing_along f ps none

-- where nothing is held nothing is given
pub serials_along_nothing : (name : List ℕ) → serials_along (λ key. nothing) name ≡ []
serials_along_nothing name = grind (arith, nothing_along)

-- without a child there is nothing more
pub serials_beyond_none : (held : List ℕ → Held) (byte : ℕ) (name : List ℕ)
    → ((key : List ℕ) → held (byte ∷ key) ≡ nothing) → serials_beyond held (byte ∷ name) ≡ []
serials_beyond_none held byte name none = grind (arith, flat_map-map, nothing_along)

-- a walk whose list is used up, at a byte that leads nowhere, and at one that leads to a child
module _ (serials : Unread) (ahead : Option Ahead) (a : Ahead) (byte : ℕ) (rest : List ℕ)
    (used : unread_of serials ≡ []) (is : ahead ≡ Some a) (name : a.name.now ≡ byte ∷ rest) where
  abbrev held : List ℕ → Held
  held key = held_in key (seen a.place)

  first_of : left_of (record { serials = serials; ahead = ahead }) ≡ serials_beyond held (byte ∷ rest)
  first_of = (λ i. used i ++ ahead_of (is i)) ∙ ap (serials_beyond held) name

  pub step_none : ((key : List ℕ) → held_in (byte ∷ key) (seen a.place) ≡ nothing)
      → left_of (record { serials = serials; ahead = ahead }) ≡ []
  step_none none = first_of ∙ serials_beyond_none held byte rest none

  pub step_child : (child : Contents) → ((key : List ℕ) → held_in (byte ∷ key) (seen a.place) ≡ held_in key child)
      → left_of (record { serials = serials; ahead = ahead })
      ≡ child.0.1 ++ serials_beyond (λ key. held_in key child) rest
  step_child child same = first_of ∙ serials_beyond_child held (λ key. held_in key child) byte rest same
