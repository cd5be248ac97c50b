-- The serials behind a place are those that stand at some key there.
use Rattle.kob_prefix_tree.proofs.Words.{Contains, Contains-append_cases, Contains-append_left, Contains-append_right, Contents, Held, IsNeat, Link, List, Literal, None, PatternKind, Place, Prefixed, Tree, Trie, [], append-nil, append_assoc, arith, held_in, inl, inr, leaf, led_by, nat_tests, node, nothing, refl, seen, serials_of, sibling, siblings, size, subst, sym, trie_of, true, false, value_at, ◌++◌, ◌+◌, ◌==◌, ◌∙◌, ◌∷◌, ◌≡◌, ◌↔◌, ℕ, ap, held, PrefixMap}
use Rattle.std.specs.Borrow.{Bor}
use Rattle.kob_prefix_tree.specs.Contents.{serials_behind, serials_below}
use Rattle.kob_prefix_tree.specs.Held.{IsHeld}
use Rattle.kob_prefix_tree.specs.declared.siblings.Item.{Item}
use Rattle.kob_prefix_tree.proofs.WayLemmas.{held_inside, held_everywhere, map_at, neat_inside}

-- The links that are still to be read, of which the last is next.

abbrev Links : Type 0
Links = List (Bor (Link Item))

-- what they still give
abbrev pub left_in : Links → List ℕ
left_in [] = []
left_in (link ∷ links) = left_in links ++ serials_below link.now.nodes

-- how often one is taken
abbrev pub steps_in : Links → ℕ
steps_in [] = 0
steps_in (link ∷ links) = steps_in links + (size link.now.nodes + size link.now.nodes + 1)

pub left_with : (links : Links) (link : Bor (Link Item))
    → left_in (links ++ link ∷ []) ≡ serials_below link.now.nodes ++ left_in links
left_with [] link = grind (arith, append-nil)
left_with (first ∷ links) link = grind (arith, left_with links link, append_assoc)

pub steps_with : (links : Links) (link : Bor (Link Item))
    → steps_in (links ++ link ∷ []) ≡ steps_in links + (size link.now.nodes + size link.now.nodes + 1)
steps_with [] link = refl
steps_with (first ∷ links) link = grind (arith, steps_with links link)

pub ruleset reading = (left_with, steps_with, append_assoc, append-nil)

module _ (serial : ℕ) where
  -- it stands at this key, in the list of this kind
  abbrev Stands : PatternKind → List ℕ → Contents → Type 0
  Stands kind key c = Contains (serials_of kind (held_in key c)) serial

  -- it stands somewhere behind the siblings
  abbrev StandsBelow : Trie → Type 0
  StandsBelow t = IsHeld (λ key. held_in key (nothing, t)) serial

  none_in : Contains [] serial → ⊥
  none_in has = omega (arith, has.1)

  none_of : (kind : PatternKind) → Contains (serials_of kind nothing) serial → ⊥
  none_of Literal has = none_in has
  none_of Prefixed has = none_in has

  -- what a place holds itself stands in one of its two lists
  of_kind : (kind : PatternKind) (h : Held) → Contains (serials_of kind h) serial → Contains (h.0 ++ h.1) serial
  of_kind Literal h has = Contains-append_left h.0 h.1 serial has
  of_kind Prefixed h has = Contains-append_right h.0 h.1 serial has

  kind_of : (h : Held) → Contains (h.0 ++ h.1) serial → (kind : PatternKind) × Contains (serials_of kind h) serial
  kind_of h has = elim (Contains-append_cases h.0 h.1 serial has) [
    | inl there ↦ (Literal, there)
    | inr there ↦ (Prefixed, there)
  ]

  -- what the bytes of a tail lead to
  behind_tail : (kind : PatternKind) (tail key : List ℕ) (c : Contents) → Stands kind key (led_by tail c)
      → (rest : List ℕ) × ((key ≡ tail ++ rest) × Stands kind rest c)
  behind_tail kind [] key c has = (key, (refl, has))
  behind_tail kind (x ∷ tail) [] c has = absurd (none_of kind has)
  behind_tail kind (x ∷ tail) (y ∷ key) c has =
      elim (x == y) as (λ b. x == y ≡ b → (rest : List ℕ) × ((y ∷ key ≡ x ∷ (tail ++ rest)) × Stands kind rest c)) [
        | true ↦ λ same.
            let (rest, (is, there)) = behind_tail kind tail key c (grind (arith, nat_tests, has, same)) in
            (rest, (grind (arith, nat_tests, same, is), there))
        | false ↦ λ other. absurd (none_of kind (grind (arith, nat_tests, has, other)))
      ] refl

  -- behind a byte that is not the first, and not at the place itself
  pub in_list : (t : Tree Item) (kind : PatternKind) (key : List ℕ) → Stands kind key (nothing, trie_of t)
      → Contains (serials_below t) serial
  in_list t kind [] has = absurd (none_of kind has)
  in_list leaf kind (y ∷ key) has = absurd (none_of kind has)
  in_list (node item heap c below n after) kind (y ∷ key) has =
      let own = item.literal ++ item.prefixed in let under = serials_below below in let beside = serials_below after in
      let end : Contents = ((item.literal, item.prefixed), trie_of below) in
      elim (item.byte == y) as (λ b. item.byte == y ≡ b → Contains (own ++ (under ++ beside)) serial) [
        | true ↦ λ same.
            let (rest, (is, there)) = behind_tail kind item.tail key end (grind (arith, nat_tests, has, same)) in
            elim rest as (λ r. Stands kind r end → Contains (own ++ (under ++ beside)) serial) [
              | [] ↦ λ here. Contains-append_left own (under ++ beside) serial (of_kind kind (item.literal, item.prefixed) here)
              | z ∷ r ↦ λ later. Contains-append_right own (under ++ beside) serial
                  (Contains-append_left under beside serial (in_list below kind (z ∷ r) later))
            ] there
        | false ↦ λ other.
            Contains-append_right own (under ++ beside) serial (Contains-append_right under beside serial
            (in_list after kind (y ∷ key) (grind (arith, nat_tests, has, other))))
      ] refl

  -- where two keys hold the same, it stands at both
  moved : (kind : PatternKind) {one other : Held} → one ≡ other → Contains (serials_of kind other) serial
      → Contains (serials_of kind one) serial
  moved kind is has = subst (λ h. Contains (serials_of kind h) serial) (sym is) has

  module _ (item : Item) (below after : Tree Item) where
    abbrev end : Contents
    end = ((item.literal, item.prefixed), trie_of below)

    -- the siblings that begin with the node
    abbrev all : Trie
    all = sibling item.byte (led_by item.tail end).0 (led_by item.tail end).1 (trie_of after)

    at_first_byte : (key : List ℕ) → held_in (item.byte ∷ (item.tail ++ key)) (nothing, all) ≡ held_in key end
    at_first_byte key = grind (arith, nat_tests, held_inside item.tail key end)

    behind_others : (byte : ℕ) (rest : List ℕ) → item.byte == byte ≡ false
        → held_in (byte ∷ rest) (nothing, all) ≡ held_in (byte ∷ rest) (nothing, trie_of after)
    behind_others byte rest other = grind (arith, nat_tests, other)

    own_key : Contains (item.literal ++ item.prefixed) serial → StandsBelow all
    own_key has =
        let (kind, there) = kind_of (item.literal, item.prefixed) has in
        (item.byte ∷ (item.tail ++ []), (kind, moved kind (at_first_byte []) there))

    below_key : StandsBelow (trie_of below) → StandsBelow all
    below_key ([], (kind, has)) = absurd (none_of kind has)
    below_key (byte ∷ rest, (kind, has)) =
        (item.byte ∷ (item.tail ++ byte ∷ rest), (kind, moved kind (at_first_byte (byte ∷ rest)) has))

    beside_key : value_at item.byte (siblings (trie_of after)) ≡ None → StandsBelow (trie_of after) → StandsBelow all
    beside_key none ([], (kind, has)) = absurd (none_of kind has)
    beside_key none (byte ∷ rest, (kind, has)) =
        elim (item.byte == byte) as (λ b. item.byte == byte ≡ b → StandsBelow all) [
          | true ↦ λ same. absurd (none_of kind (moved kind (grind (arith, nat_tests, same, none)) has))
          | false ↦ λ other. (byte ∷ rest, (kind, moved kind (behind_others byte rest other) has))
        ] refl

  pub at_some_key : (t : Tree Item) → IsNeat (trie_of t) → Contains (serials_below t) serial → StandsBelow (trie_of t)
  at_some_key leaf neat has = absurd (none_in has)
  at_some_key (node item heap c below n after) neat has =
      let own = item.literal ++ item.prefixed in let under = serials_below below in let beside = serials_below after in
      let inside = neat_inside item.tail ((item.literal, item.prefixed), trie_of below) neat.1.1.0 in
      elim (Contains-append_cases own (under ++ beside) serial has) [
        | inl here ↦ own_key item below after here
        | inr later ↦ elim (Contains-append_cases under beside serial later) [
          | inl there ↦ below_key item below after (at_some_key below inside there)
          | inr there ↦ beside_key item below after neat.0 (at_some_key after neat.1.1.1 there)
        ]
      ]

  -- behind a place, with what its own bytes lead to
  module _ (p : Place) where
    abbrev at_end : Contents
    at_end = ((p.literal.now, p.prefixed.now), trie_of p.below.now.nodes)

    abbrev own : List ℕ
    own = p.literal.now ++ p.prefixed.now

    abbrev under : List ℕ
    under = serials_below p.below.now.nodes

    found_behind : IsHeld (λ key. held_in key (seen p)) serial → Contains (serials_behind p) serial
    found_behind (key, (kind, has)) =
        let (rest, (is, there)) = behind_tail kind p.tail.now key at_end has in
        elim rest as (λ r. Stands kind r at_end → Contains (own ++ under) serial) [
          | [] ↦ λ here. Contains-append_left own under serial (of_kind kind (p.literal.now, p.prefixed.now) here)
          | byte ∷ r ↦ λ later. Contains-append_right own under serial
              (in_list p.below.now.nodes kind (byte ∷ r) later)
        ] there

    behind_end : StandsBelow (trie_of p.below.now.nodes) → IsHeld (λ key. held_in key (seen p)) serial
    behind_end ([], (kind, has)) = absurd (none_of kind has)
    behind_end (byte ∷ rest, (kind, has)) =
        (p.tail.now ++ byte ∷ rest, (kind, moved kind (sym (held_inside p.tail.now (byte ∷ rest) at_end)) has))

    held_there : IsNeat (seen p).1 → Contains (serials_behind p) serial → IsHeld (λ key. held_in key (seen p)) serial
    held_there neat has = elim (Contains-append_cases own under serial has) [
      | inl here ↦
          let (kind, there) = kind_of (p.literal.now, p.prefixed.now) here in
          (p.tail.now ++ [], (kind, moved kind (sym (held_inside p.tail.now [] at_end)) there))
      | inr later ↦ behind_end (at_some_key p.below.now.nodes (neat_inside p.tail.now at_end neat) later)
    ]

    pub those_behind : IsNeat (seen p).1
        → Contains (serials_behind p) serial ↔ IsHeld (λ key. held_in key (seen p)) serial
    those_behind neat = (held_there neat, found_behind)

-- behind a place that a text leads to from the root, or where it leads nowhere
module _ (m : PrefixMap) (text : List ℕ) where
  abbrev pub there : List ℕ → Held
  there key = held m (text ++ key)

  -- these serials are those that stand there
  abbrev pub AreThere : List ℕ → Type 0
  AreThere serials = (serial : ℕ) → Contains serials serial ↔ IsHeld there serial

module _ (m : PrefixMap) (root : Place) (text : List ℕ) (is : m ≡ map_at (seen root)) (neat : IsNeat (seen root).1) where
  there_is : (key : List ℕ) → there m text key ≡ held_in (text ++ key) (seen root)
  there_is key =
      ap (λ n. held n (text ++ key)) is
      ∙ ap (λ (f : List ℕ → Held). f (text ++ key)) (sym (held_everywhere (seen root) neat))

  pub nothing_below : ((more : List ℕ) → held_in (text ++ more) (seen root) ≡ nothing) → AreThere m text []
  nothing_below none serial = (
    λ has. absurd (none_in serial has),
    λ (key, (kind, has)). absurd (none_of serial kind (moved serial kind (sym (there_is key ∙ none key)) has)),
  )

  pub those_below : (p : Place) → IsNeat (seen p).1
      → ((more : List ℕ) → held_in (text ++ more) (seen root) ≡ held_in more (seen p)) → AreThere m text (serials_behind p)
  those_below p inside same serial = (
    λ has.
        let (key, (kind, here)) = (those_behind serial p inside).0 has in
        (key, (kind, moved serial kind (there_is key ∙ same key) here)),
    λ (key, (kind, here)).
        (those_behind serial p inside).1 (key, (kind, moved serial kind (sym (there_is key ∙ same key)) here)),
  )
