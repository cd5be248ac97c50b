-- How each change keeps the places of the entries in order of their names.
use Rattle.kob_ordered.proofs.Words.{Entry, Hole, IsDistinct-push, IsGap, IsSound, List, None, Nth, Ordered, Slot, Some, [], ap, arith, cases_lt, cond, entries_in, filter, filter-append, get_or_append_left, get_or_from_slice_get, get_or_push, insert, is_entry, is_some, is_some-lookup, keys-set_value, keys_of, length, length-append, length-insert, length-map, length-remove, length-set_value, lookup, map-append, map-set, named, names_in, nat_list_eq_equiv, nat_tests, rank, refl, remove, remove_entry, same_text, set, set_value, slice_get, slice_get-get_or, slice_get_within, slice_index_or, subst, suc, sym, take, take_more, with_value, with_value_in, zero, ℕ, ◌++◌, ◌+◌, ◌<◌, ◌∙◌, ◌∷◌, ◌≡◌, ◌≤◌}
use Rattle.std.specs.List.{IsDistinct}
use Rattle.kob_ordered.proofs.Listed.{listed_holed, listed_pushed, only_one}
use Rattle.kob_ordered.proofs.Entries.{distinct_removed, length_removed}
use Rattle.kob_ordered.proofs.Places.{IsOnly, entry_at, found_at, holed_at, name_at, names_written, packed, pushed, written_at}

module _ {V : Type 0} (slots : List (Slot V)) (by_name : List ℕ) (sound : IsSound slots by_name) where
  module _ (name : List ℕ) (place : ℕ) (value : V) (there : slice_get slots place ≡ Some (Entry name value)) where
    only : IsOnly slots name place
    only other found =
        only_one (names_in slots) by_name sound.listed name place other (name_at slots place name value there) found

    pub value_at : lookup (same_text name) (entries_in slots) ≡ Some value
    value_at = found_at slots name place value there only

    -- another value written
    module _ (w : V) where
      pub written : entries_in (set slots place (Entry name w)) ≡ set_value (same_text name) (entries_in slots) w
      written = written_at slots name place value w there only

      pub sound_written : IsSound (set slots place (Entry name w)) by_name
      sound_written =
          let names = names_written slots place name value w there in let entries = written in
          let keys = keys-set_value (same_text name) (entries_in slots) w in
          let long = length-set_value (same_text name) (entries_in slots) w in grind (arith, nat_tests)

      -- the same, where the slot is read first
      pub sound_lent : (slot : Slot V) → slot ≡ Entry name value → IsSound (set slots place (with_value_in slot w)) by_name
      sound_lent slot is = subst (λ s. IsSound (set slots place (with_value_in s w)) by_name) (sym is) sound_written

      pub view_lent : (slot : Slot V) → slot ≡ Entry name value → (m : Ordered V) (room holes : ℕ)
          → record { entries = entries_in slots; room = room; holes = holes; names = names_in slots } ≡ m
          → record {
            entries = entries_in (set slots place (with_value_in slot w));
            room = room;
            holes = holes;
            names = names_in (set slots place (with_value_in slot w));
          } ≡ with_value m name w
      view_lent slot is m room holes shown =
          let entries = written in let names = names_written slots place name value w there in grind (arith, nat_tests)

    -- an entry taken away, with a hole left in its place
    pub left : entries_in (set slots place Hole) ≡ remove_entry (same_text name) (entries_in slots)
    left = holed_at slots name place value there only

    pub sound_holed : (i : ℕ) → slice_get by_name i ≡ Some place → IsSound (set slots place Hole) (remove by_name i)
    sound_holed i at =
        let entries = left in let fewer = length_removed name (entries_in slots) value value_at in
        let names = map-set named slots place Hole in
        let listed = listed_holed (names_in slots) by_name sound.listed name i place at (name_at slots place name value there) in
        let distinct = distinct_removed name (entries_in slots) sound.distinct in
        let long = length-remove by_name i (slice_get_within by_name i place at) in grind (arith, nat_tests)

  -- an entry put last
  pub sound_pushed : (name : List ℕ) (value : V) (i : ℕ) → IsGap (names_in slots) by_name name i
      → lookup (same_text name) (entries_in slots) ≡ None
      → IsSound (slots ++ Entry name value ∷ []) (insert by_name i (length slots))
  sound_pushed name value i gap absent =
      let entries = pushed slots name value in let names = map-append named slots (Entry name value ∷ []) in
      let long = length-map slots named in let more = length-append (entries_in slots) ((name, value) ∷ []) in
      let listed = listed_pushed (names_in slots) by_name sound.listed name i gap in
      let keys = map-append (λ (e : List ℕ × V). e.0) (entries_in slots) ((name, value) ∷ []) in
      let distinct = IsDistinct-push nat_list_eq_equiv (keys_of (entries_in slots)) name sound.distinct
      (sym (is_some-lookup (same_text name) (entries_in slots)) ∙ ap is_some absent) in
      let count = length-insert by_name i (length slots) gap.within in grind (arith, nat_tests)

none_twice : IsDistinct same_text []
unfolding IsDistinct
none_twice = tt

pub sound_empty : {V : Type 0} → IsSound {V = V} [] []
sound_empty = grind (arith, nat_tests, none_twice)

-- a listed place has a slot
pub within_slots : {V : Type 0} (slots : List (Slot V)) (by_name : List ℕ) → IsSound slots by_name
    → (k : ℕ) → k < length by_name → slice_index_or by_name k 0 < length slots
within_slots slots by_name sound k lt =
    let at = slice_get-get_or by_name k 0 lt in let (name, stands) = sound.listed.stand k _ at in
    slice_get_within slots _ _ (entry_at slots (slice_index_or by_name k 0) name stands).1

-- one more slot is passed over
pub rank_next : {V : Type 0} (slots : List (Slot V)) (i : ℕ) (x : Slot V) → slice_get slots i ≡ Some x
    → rank slots (i + 1) ≡ cond (is_entry x) (rank slots i + 1) (rank slots i)
rank_next {V} slots i x there =
    let within = slice_get_within slots i x there in let taken = take_more slots i x within in
    let read = get_or_from_slice_get slots i x x there in
    let more = filter-append is_entry (take i slots) (x ∷ []) in
    let long = length-append (filter is_entry (take i slots)) (filter is_entry (x ∷ [])) in grind (arith, nat_tests)

-- one more rank put last
pub ranked_more : {V : Type 0} (slots : List (Slot V)) (ranks : List ℕ) (i r : ℕ) → length ranks ≡ i
    → r ≡ rank slots i → ((place : ℕ) → place < i → slice_index_or ranks place 0 ≡ rank slots place)
    → (place : ℕ) → place < i + 1 → slice_index_or (ranks ++ r ∷ []) place 0 ≡ rank slots place
ranked_more slots ranks i r size here before place lt =
    grind (arith, nat_tests, cases_lt, get_or_append_left, ranks, get_or_push)

pub read_at : (xs : List ℕ) (k p : ℕ) → slice_get xs k ≡ Some p → slice_index_or xs k 0 ≡ p
read_at xs k p there = get_or_from_slice_get xs k p 0 there

entries_packed : {V : Type 0} (slots : List (Slot V)) → length (entries_in slots) ≡ length (filter is_entry slots)
entries_packed [] = refl
entries_packed (Hole ∷ slots) = entries_packed slots
entries_packed (Entry name value ∷ slots) = ap suc (entries_packed slots)

-- a slot for each listed place, once the holes are taken away
pub none_left : {V : Type 0} (slots : List (Slot V)) (by_name : List ℕ) → IsSound slots by_name
    → length (filter is_entry slots) ≡ length by_name
none_left slots by_name sound = sym (entries_packed slots) ∙ sym sound.counted

pub no_more_entries : {V : Type 0} (slots : List (Slot V)) → length (entries_in slots) ≤ length slots
no_more_entries [] = omega arith
no_more_entries (Hole ∷ slots) = omega (arith, no_more_entries slots)
no_more_entries (Entry name value ∷ slots) = omega (arith, no_more_entries slots)

-- the holes taken away
module _ {V : Type 0} where
  kept_at : (slots : List (Slot V)) (p : ℕ) (n : List ℕ) → slice_get (names_in slots) p ≡ Some (Some n)
      → slice_get (names_in (filter is_entry slots)) (rank slots p) ≡ Some (Some n)
  kept_at [] p n there = cc
  kept_at (Hole ∷ slots) zero n there = cc
  kept_at (Entry head other ∷ slots) zero n there = there
  kept_at (Hole ∷ slots) (suc p) n there = kept_at slots p n there
  kept_at (Entry head other ∷ slots) (suc p) n there = kept_at slots p n there

  came_from : (slots : List (Slot V)) (q : ℕ) (n : List ℕ)
      → slice_get (names_in (filter is_entry slots)) q ≡ Some (Some n)
      → (p : ℕ) × (slice_get (names_in slots) p ≡ Some (Some n)) × (rank slots p ≡ q)
  came_from [] q n there = cc
  came_from (Hole ∷ slots) q n there = let later = came_from slots q n there in (suc later.0, later.1, later.2)
  came_from (Entry head other ∷ slots) zero n there = (0, there, refl)
  came_from (Entry head other ∷ slots) (suc q) n there =
      let later = came_from slots q n there in (suc later.0, later.1, ap suc later.2)

module _ {V : Type 0} (slots : List (Slot V)) (by_name ranked : List ℕ) (sound : IsSound slots by_name)
    (size : length ranked ≡ length by_name)
    (told : (k : ℕ) → k < length by_name → slice_index_or ranked k 0 ≡ rank slots (slice_index_or by_name k 0))
  where
    ranks : (k p : ℕ) → slice_get by_name k ≡ Some p → slice_get ranked k ≡ Some (rank slots p)
    ranks k p at = grind (arith, nat_tests, slice_get_within, slice_get-get_or, read_at)

    unranked : (k q : ℕ) → slice_get ranked k ≡ Some q
        → (p : ℕ) × (slice_get by_name k ≡ Some p) × (q ≡ rank slots p)
    unranked k q at =
        let old = slice_get-get_or by_name k 0 (subst (λ n. k < n) size (slice_get_within ranked k q at)) in
        let new = ranks k _ old in (slice_index_or by_name k 0, old, cc)

    nth_unpacked : (k : ℕ) (n : List ℕ) → Nth (names_in (filter is_entry slots)) ranked n k → Nth (names_in slots) by_name n k
    nth_unpacked k n nth =
        let (p, at, is) = unranked k nth.place nth.listed in let (m, stands) = sound.listed.stand k p at in
        let kept = kept_at slots p m stands in let now = nth.stands in
        let same : m ≡ n = grind (arith, kept, now, is) in
        record { place = p; listed = at; stands = stands ∙ ap (λ x. Some (Some x)) same }

    pub sound_packed : IsSound (filter is_entry slots) ranked
    sound_packed = record {
      listed = record {
        rising = λ j k n m lt first second.
            sound.listed.rising j k n m lt (nth_unpacked j n first) (nth_unpacked k m second);
        stand = λ k q at.
            let (p, was, is) = unranked k q at in let (n, stands) = sound.listed.stand k p was in
            (n, ap (slice_get (names_in (filter is_entry slots))) is ∙ kept_at slots p n stands);
        all = λ q n there.
            let (p, was, is) = came_from slots q n there in let (k, at) = sound.listed.all p n was in
            (k, ranks k p at ∙ ap Some is);
      };
      distinct = subst (λ es. IsDistinct same_text (keys_of es)) (sym (packed slots)) sound.distinct;
      counted = size ∙ sound.counted ∙ sym (ap length (packed slots));
    }
