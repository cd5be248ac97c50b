-- What a tree's map holds after a change, and which serials a walk gives: for the crates that keep a tree beside a list
-- of their own.
--     held_empty                              the empty map holds nothing
--     held_added_same, held_added_other       after `added`, at the key and at any other
--     held_removed_all_same, held_removed_all_other   after `removed_all`
--     along_has_prefixed, along_has_literal   a walk of a name has the prefixed serials of each key that the name
-- begins with, and its literal ones, in the whole tree and in a part of it
--     walk_only                               and in the tree no others
use Rattle.kob_prefix_tree.proofs.Words.{Contains, Contains-append_cases, Contains-append_left, Contains-append_right, Held, List, None, PatternKind, PrefixMap, Some, [], added, ap, append-nil, arith, cond, false, flat_map, flat_map-map, held, inl, inr, is_nothing, nat_cmp, nat_list_cmp_total, nothing, prefixes, refl, removed_all, serials_along, slice_cmp, subst, sym, true, unwrap_or, with_serial, without_serials, ℕ, ◌++◌, ◌∷◌, ◌≡◌, ◌≢◌, ◌⊎◌}
use Rattle.kob_prefix_tree.specs.Held.{walk_of}
use Rattle.std.proofs.Common.{map as each}
use Rattle.std.specs.FinMap as map
use Rattle.kob_prefix_tree.proofs.WalkLemmas.{prefixes_longer}
use Rattle.kob_prefix_tree.proofs.WayLemmas.{bytes, bytes_decide, is_nothing_true}

itself : (key : List ℕ) → bytes key key ≡ true
itself key = (bytes_decide key key).1 refl

apart : (other key : List ℕ) → other ≢ key → bytes other key ≡ false
apart other key ne = grind (arith, bytes_decide other key)

pub held_empty : (key : List ℕ) → held map.empty key ≡ nothing
held_empty key = ap (λ o. unwrap_or o nothing) (map.get-empty (slice_cmp nat_cmp) key)

module _ (m : PrefixMap) (key : List ℕ) where
  inserted : (h : Held) (k : List ℕ) → held (map.insert m key h) k
      ≡ unwrap_or (cond (bytes k key) (Some h) (map.get m k)) nothing
  inserted h k = ap (λ o. unwrap_or o nothing) (map.get-insert nat_list_cmp_total m key h k)

  gone : (k : List ℕ) → held (map.remove m key) k ≡ unwrap_or (cond (bytes k key) None (map.get m k)) nothing
  gone k = ap (λ o. unwrap_or o nothing) (map.get-remove nat_list_cmp_total m key k)

  -- the map where this is left at the key
  abbrev leaving : Held → PrefixMap
  leaving left = cond (is_nothing left) (map.remove m key) (map.insert m key left)

  left_same : (left : Held) → held (leaving left) key ≡ left
  left_same left = grind (arith, gone, itself, is_nothing_true, inserted)

  left_other : (left : Held) (other : List ℕ) → other ≢ key → held (leaving left) other ≡ held m other
  left_other left other ne = grind (arith, gone, apart, inserted)

  module _ (kind : PatternKind) (serial : ℕ) where
    pub held_added_same : held (added m key kind serial) key ≡ with_serial kind serial (held m key)
    held_added_same = grind (arith, inserted, itself)

    pub held_added_other : (other : List ℕ) → other ≢ key → held (added m key kind serial) other ≡ held m other
    held_added_other other ne = grind (arith, inserted, apart)

  module _ (kind : PatternKind) (serials : List ℕ) where
    pub held_removed_all_same : held (removed_all m key kind serials) key ≡ without_serials kind serials (held m key)
    held_removed_all_same = left_same (without_serials kind serials (held m key))

    pub held_removed_all_other : (other : List ℕ) → other ≢ key
        → held (removed_all m key kind serials) other ≡ held m other
    held_removed_all_other = left_other (without_serials kind serials (held m key))

-- a value is among those that a function gives for the beginnings of a name
has_beginning : (f : List ℕ → List ℕ) (begin rest : List ℕ) (x : ℕ) → Contains (f begin) x
    → Contains (flat_map f (prefixes (begin ++ rest))) x
has_beginning f [] rest x has =
    subst (λ ps. Contains (flat_map f ps) x) (sym (prefixes_longer rest)) (Contains-append_left (f []) _ x has)
has_beginning f (byte ∷ begin) rest x has =
    let later = has_beginning (λ prefix. f (byte ∷ prefix)) begin rest x has in
    let longer = each (λ prefix. byte ∷ prefix) (prefixes (begin ++ rest)) in
    let right = Contains-append_right (f []) (flat_map f longer) x in
    let mapped = flat_map-map f (λ prefix. byte ∷ prefix) (prefixes (begin ++ rest)) in grind arith

-- a beginning of a name for which a function gives a value
abbrev pub BeginningWith : (List ℕ → List ℕ) → List ℕ → ℕ → Type 0
BeginningWith f name x = (begin : List ℕ) × ((rest : List ℕ) × ((begin ++ rest ≡ name) × Contains (f begin) x))

only_beginnings : (f : List ℕ → List ℕ) (name : List ℕ) (x : ℕ) → Contains (flat_map f (prefixes name)) x
    → BeginningWith f name x
only_beginnings f [] x has = ([], ([], (refl, subst (λ ys. Contains ys x) (append-nil (f [])) has)))
only_beginnings f (byte ∷ name) x has =
    elim (Contains-append_cases (f []) (flat_map f (each (λ prefix. byte ∷ prefix) (prefixes name))) x has) [
      | inl here ↦ ([], (byte ∷ name, (refl, here)))
      | inr there ↦
          let (begin, (rest, (is, at))) = only_beginnings (λ prefix. f (byte ∷ prefix)) name x
          (subst (λ ys. Contains ys x) (flat_map-map f (λ prefix. byte ∷ prefix) (prefixes name)) there) in
          (byte ∷ begin, (rest, (ap (λ ys. byte ∷ ys) is, at)))
    ]

module _ (held_at : List ℕ → Held) (serial : ℕ) where
  pub along_has_prefixed : (key rest : List ℕ) → Contains (held_at key).1 serial
      → Contains (serials_along held_at (key ++ rest)) serial
  along_has_prefixed key rest has = grind (arith, Contains-append_left, has_beginning)

  pub along_has_literal : (name : List ℕ) → Contains (held_at name).0 serial
      → Contains (serials_along held_at name) serial
  along_has_literal name has = grind (arith, Contains-append_right)

module _ (m : PrefixMap) (serial : ℕ) where
  abbrev prefixed : List ℕ → List ℕ
  prefixed key = (held m key).1

  pub walk_only : (name : List ℕ) → Contains (walk_of m name) serial
      → BeginningWith (λ key. (held m key).1) name serial ⊎ Contains (held m name).0 serial
  walk_only name has =
      elim (Contains-append_cases (flat_map prefixed (prefixes name)) (held m name).0 serial has) [
        | inl before ↦ inl (only_beginnings prefixed name serial before)
        | inr last ↦ inr last
      ]
