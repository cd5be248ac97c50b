-- A key is made text by text.
use Rattle.kob_authorizer.proofs.Words.{List, [], append_assoc, arith, nat_tests, ℕ, ◌++◌, ◌∷◌, ◌≡◌, Binding, Bool, Held, IsIndex, IsRising, PatternKind, Place, PrefixMap, added, addition, and-false, and-true, ap, append-nil, bytes_eq-Decides, cond, eq-eqb, false, filter, filter-append, held, held_added_other, held_added_same, held_empty, is_place, list_any, map, map-append, ne_eqb, refl, same_kind, same_text, serials_at, serials_of, taken_of_second, true, with_addition, with_serial, without_addition, ◌&&◌, ◌+◌, ◌==◌, ◌∙◌, ◌≢◌, ◌≤◌, none_sought, without_in_turn, without_serials, removed_all, held_removed_all_same, held_removed_all_other, ArePatternsOf, BindingFilter, Index, Indexes, Patterns, ResourceKind, bindings_left, bindings_taken, empty_index, entries_on, fold, key_place, kind_in_tree, leaf_of, no_patterns, not, pattern_place, patterns_of, same_resource, subst, sym, takes, tree_of, with_entry, with_leaf, with_tree, Removal, and_parts, begins_with, is_first_there, removal_of, removals_of, resource_decides, serials_beside, with_removal, without_removal}
use Rattle.kob_authorizer.proofs.Entries.{rising_below, rising_filter}
use Rattle.std.specs.FinMap as finite

pub in_turn : (between : ℕ) (first second third : List ℕ)
    → (((first ++ between ∷ []) ++ second) ++ between ∷ []) ++ third ≡ first ++ between ∷ (second ++ between ∷ third)
in_turn between first second third = grind (arith, nat_tests, append_assoc)

-- What a serial that comes or goes does to the serials that a tree holds.

abbrev serial : ℕ × Binding → ℕ
serial entry = entry.0

-- the list after a pass, where the test passes
abbrev pub passed : Bool → List ℕ → List ℕ → List ℕ
passed here ss xs = cond here (without_in_turn ss xs) xs

-- the list with the serial put last, where the test passes
abbrev more : Bool → ℕ → List ℕ → List ℕ
more here s xs = cond here (xs ++ s ∷ []) xs

with_serials : (kind : PatternKind) (s : ℕ) (h : Held) (other : PatternKind)
    → serials_of other (with_serial kind s h) ≡ more (same_kind kind other) s (serials_of other h)
with_serials x0 s h x3 = grind (arith, nat_tests)

pass_of_kind : (kind : PatternKind) (ss : List ℕ) (h : Held) (other : PatternKind)
    → serials_of other (without_serials kind ss h) ≡ passed (same_kind kind other) ss (serials_of other h)
pass_of_kind x0 ss h x3 = grind (arith, nat_tests)

-- one list of one key changed
module _ (change : List ℕ → List ℕ) (m now : PrefixMap) (key : List ℕ) (kind : PatternKind) where
  after_change : ((other : PatternKind) → serials_of other (held now key)
      ≡ cond (same_kind kind other) (change (serials_of other (held m key))) (serials_of other (held m key)))
      → ((name : List ℕ) → name ≢ key → held now name ≡ held m name) → (other : PatternKind) (name : List ℕ)
      → serials_of other (held now name)
      ≡ cond (same_kind kind other && same_text key name) (change (serials_of other (held m name)))
      (serials_of other (held m name))
  after_change at elsewhere other name = grind (arith, nat_tests, bytes_eq-Decides, and-true, and-false)

module _ (m : PrefixMap) (key : List ℕ) (kind : PatternKind) where
  -- a serial that was added stands at its place alone, after the others
  after_added : (s : ℕ) (other : PatternKind) (name : List ℕ) → serials_of other (held (added m key kind s) name)
      ≡ more (same_kind kind other && same_text key name) s (serials_of other (held m name))
  after_added s =
      after_change (λ xs. xs ++ s ∷ []) m (added m key kind s) key kind
      (λ other. ap (serials_of other) (held_added_same m key kind s) ∙ with_serials kind s (held m key) other)
      (held_added_other m key kind s)

  -- a pass changes one list of one key
  pub after_pass : (ss : List ℕ) (other : PatternKind) (name : List ℕ)
      → serials_of other (held (removed_all m key kind ss) name)
      ≡ passed (same_kind kind other && same_text key name) ss (serials_of other (held m name))
  after_pass ss =
      after_change (without_in_turn ss) m (removed_all m key kind ss) key kind
      (λ other. ap (serials_of other) (held_removed_all_same m key kind ss) ∙ pass_of_kind kind ss (held m key) other)
      (held_removed_all_other m key kind ss)

-- no entry has this serial
abbrev pub NoneHas : ℕ → List (ℕ × Binding) → Type 0
NoneHas s [] = Unit {0}
NoneHas s (entry ∷ rest) = (entry.0 == s ≡ false) × NoneHas s rest

pub none_has_filter : (test : ℕ × Binding → Bool) (s : ℕ) (xs : List (ℕ × Binding)) → NoneHas s xs
    → NoneHas s (filter test xs)
none_has_filter test s [] none = tt
none_has_filter test s (x ∷ xs) none = grind (arith, nat_tests, none_has_filter test s xs none.1)

none_any : (s : ℕ) (xs : List (ℕ × Binding)) → NoneHas s xs → list_any (λ x. x == s) (map serial xs) ≡ false
none_any s [] none = refl
none_any s (x ∷ xs) none = let rest = none_any s xs none.1 in let first = none.0 in cc

-- the serial of an entry after some is not below where they begin
after_low : (low high : ℕ) (done : List (ℕ × Binding)) (entry : ℕ × Binding) (rest : List (ℕ × Binding))
    → IsRising low (done ++ entry ∷ rest) high → low ≤ entry.0
after_low low high [] entry rest rising = rising.0
after_low low high (x ∷ done) entry rest rising =
    let more = after_low (x.0 + 1) high done entry rest rising.1 in omega (arith, rising.0, more)

-- where serials rise, no entry before one has its serial
pub none_before : (low high : ℕ) (done : List (ℕ × Binding)) (entry : ℕ × Binding) (rest : List (ℕ × Binding))
    → IsRising low (done ++ entry ∷ rest) high → NoneHas entry.0 done
none_before low high [] entry rest rising = tt
none_before low high (x ∷ done) entry rest rising =
    grind (arith, nat_tests, after_low, ne_eqb, none_before (x.0 + 1) high done entry rest rising.1)

module _ (place : Binding → Place) where
  abbrev stands : PatternKind → List ℕ → ℕ × Binding → Bool
  stands kind key entry = is_place kind key (place entry.1)

  serials_at_append : (xs ys : List (ℕ × Binding)) (kind : PatternKind) (key : List ℕ)
      → serials_at place (xs ++ ys) kind key ≡ serials_at place xs kind key ++ serials_at place ys kind key
  serials_at_append xs ys kind key = grind (arith, nat_tests, filter-append, map-append)

  pub index_empty : IsIndex place finite.empty []
  index_empty x0 key = grind (arith, nat_tests, held_empty)

  -- one more entry, put last
  pub index_added : (m : PrefixMap) (entries : List (ℕ × Binding)) (entry : ℕ × Binding) → IsIndex place m entries
      → IsIndex place (with_addition m (addition place entry)) (entries ++ entry ∷ [])
  index_added m entries entry is kind key = grind (arith, nat_tests, after_added, append-nil, serials_at_append)

  -- the list of a place without the serial of an entry, when none before has it
  taken_out : (done : List (ℕ × Binding)) (entry : ℕ × Binding) (rest : List (ℕ × Binding)) (kind : PatternKind)
      (key : List ℕ) → NoneHas entry.0 done → (b : Bool)
      → passed b (entry.0 ∷ []) (serials_at place done kind key
      ++ map serial (cond b (entry ∷ filter (stands kind key) rest) (filter (stands kind key) rest)))
      ≡ serials_at place done kind key ++ serials_at place rest kind key
  taken_out done entry rest kind key none true =
      let gone = none_has_filter (stands kind key) entry.0 done none in
      let absent = none_any entry.0 (filter (stands kind key) done) gone in let same = eq-eqb entry.0 entry.0 refl in
      grind (arith, nat_tests, taken_of_second, none_sought)
  taken_out done entry rest kind key none false = refl

  -- an entry is taken away from among others
  pub index_removed : (m : PrefixMap) (done : List (ℕ × Binding)) (entry : ℕ × Binding) (rest : List (ℕ × Binding))
      → NoneHas entry.0 done → IsIndex place m (done ++ entry ∷ rest)
      → IsIndex place (without_addition m (addition place entry)) (done ++ rest)
  index_removed m done entry rest none is kind key =
      let passed = after_pass m (place entry.1).key (place entry.1).kind (entry.0 ∷ []) kind key in
      let before = serials_at_append done (entry ∷ rest) kind key in
      let out = taken_out done entry rest kind key none (stands kind key entry) in
      let after = serials_at_append done rest kind key in grind (arith, nat_tests)

-- What an entry that comes or goes does to the index.

-- a change of the tree of one kind of resource leaves the others
pub tree_changed : (patterns : Patterns) (change : PrefixMap → PrefixMap) (resource other : ResourceKind)
    → tree_of (with_tree patterns resource (change (tree_of patterns resource))) other
    ≡ cond (same_resource resource other) (change (tree_of patterns other)) (tree_of patterns other)
tree_changed patterns change resource other = grind (arith, nat_tests)

patterns_empty : ArePatternsOf no_patterns []
patterns_empty resource = grind (arith, nat_tests, index_empty pattern_place)

-- the empty index is that of no entries
pub indexes_empty : Indexes empty_index []
indexes_empty = record { patterns = patterns_empty; keys = index_empty key_place }

-- the test whether an entry is on a kind of resource
abbrev is_on : ResourceKind → ℕ × Binding → Bool
is_on resource entry = same_resource entry.1.resource resource

-- one more entry, put last
patterns_put : (patterns : Patterns) (entries : List (ℕ × Binding)) (entry : ℕ × Binding)
    → ArePatternsOf patterns entries → ArePatternsOf (with_entry patterns entry) (entries ++ entry ∷ [])
patterns_put patterns entries entry is resource =
    let old = is resource in let added = index_added pattern_place (tree_of patterns resource) (entries_on resource
    entries) entry old in
    grind (arith, nat_tests, tree_changed, filter-append, append-nil)

patterns_put_all : (fresh : List (ℕ × Binding)) (patterns : Patterns) (entries : List (ℕ × Binding))
    → ArePatternsOf patterns entries → ArePatternsOf (fold with_entry patterns fresh) (entries ++ fresh)
patterns_put_all [] patterns entries is = rw (append-nil entries) is
patterns_put_all (entry ∷ fresh) patterns entries is =
    let put = patterns_put patterns entries entry is in
    rw (← append_assoc entries (entry ∷ []) fresh)
    (patterns_put_all fresh (with_entry patterns entry) (entries ++ entry ∷ []) put)

-- the patterns of some entries alone are those of these entries
pub are_patterns : (entries : List (ℕ × Binding)) → ArePatternsOf (patterns_of entries) entries
are_patterns entries = patterns_put_all entries no_patterns [] patterns_empty

-- more entries, put last one after another
pub indexes_put_all : (fresh : List (ℕ × Binding)) (index : Index) (entries : List (ℕ × Binding))
    → Indexes index entries → Indexes (fold with_leaf index (map leaf_of fresh)) (entries ++ fresh)
indexes_put_all [] index entries is = rw (append-nil entries) is
indexes_put_all (entry ∷ fresh) index entries is =
    rw (← append_assoc entries (entry ∷ []) fresh)
    (indexes_put_all fresh (with_leaf index (leaf_of entry)) (entries ++ entry ∷ []) (record {
      patterns = patterns_put index.patterns entries entry is.patterns;
      keys = index_added key_place index.keys entries entry is.keys;
    }))

-- serials still rise where one is left out
rising_without : (low high : ℕ) (done : List (ℕ × Binding)) (entry : ℕ × Binding) (rest : List (ℕ × Binding))
    → IsRising low (done ++ entry ∷ rest) high → IsRising low (done ++ rest) high
rising_without low high [] entry rest rising = grind (arith, nat_tests, rising_below)
rising_without low high (x ∷ done) entry rest rising =
    (rising.0, rising_without (x.0 + 1) high done entry rest rising.1)

-- the keys of the entries that a filter takes go, one after another
pub keys_removed : (wanted : BindingFilter) (low high : ℕ) (rest : List (ℕ × Binding)) (keys : PrefixMap)
    (done : List (ℕ × Binding)) → IsRising low (done ++ rest) high → IsIndex key_place keys (done ++ rest)
    → IsIndex key_place (fold without_addition keys (map (addition key_place) (bindings_taken wanted rest)))
    (done ++ bindings_left wanted rest)
keys_removed wanted low high [] keys done rising is = is
keys_removed wanted low high (entry ∷ rest) keys done rising is =
    elim (takes wanted entry.1) as (λ b. IsIndex key_place
    (fold without_addition keys (map (addition key_place)
    (cond b (entry ∷ bindings_taken wanted rest) (bindings_taken wanted rest))))
    (done ++ cond (not b) (entry ∷ bindings_left wanted rest) (bindings_left wanted rest))) [
      | true ↦ keys_removed wanted low high rest (without_addition keys (addition key_place entry)) done
          (rising_without low high done entry rest rising)
          (index_removed key_place keys done entry rest (none_before low high done entry rest rising) is)
      | false ↦
          let joined : (done ++ entry ∷ []) ++ rest ≡ done ++ entry ∷ rest = append_assoc done (entry ∷ []) rest in
          let kept = keys_removed wanted low high rest keys (done ++ entry ∷ [])
          (subst (λ es. IsRising low es high) (sym joined) rising)
          (subst (IsIndex key_place keys) (sym joined) is) in
          subst (IsIndex key_place
          (fold without_addition keys (map (addition key_place) (bindings_taken wanted rest))))
          (append_assoc done (entry ∷ []) (bindings_left wanted rest)) kept
    ]

-- One pass along the serials of a place takes out those of the entries that go, and leaves those of the others.

-- no serial is below a bound
abbrev AreFrom : ℕ → List ℕ → Type 0
AreFrom low [] = Unit {0}
AreFrom low (s ∷ ss) = (low ≤ s) × AreFrom low ss

from_lower : (low more : ℕ) (ss : List ℕ) → low ≤ more → AreFrom more ss → AreFrom low ss
from_lower low more [] le from = tt
from_lower low more (s ∷ ss) le from = (omega (arith, le, from.0), from_lower low more ss le from.1)

-- where the first that is sought is below all, all stay
not_there : (y : ℕ) (ys xs : List ℕ) → AreFrom (y + 1) xs → without_in_turn (y ∷ ys) xs ≡ xs
not_there y ys [] from = refl
not_there y ys (x ∷ xs) from = grind (arith, nat_tests, ne_eqb, not_there y ys xs from.1)

-- what is below all that are sought stays
stays : (x : ℕ) (ss xs : List ℕ) → AreFrom (x + 1) ss → without_in_turn ss (x ∷ xs) ≡ x ∷ without_in_turn ss xs
stays x x1 xs from = grind (arith, nat_tests, none_sought, ne_eqb)

-- the pass takes out a serial, or goes by it
pass_step : (b c : Bool) (x : ℕ) (sought all left : List ℕ) → AreFrom (x + 1) sought
    → without_in_turn sought all ≡ left
    → without_in_turn (cond (b && c) (x ∷ sought) sought) (cond c (x ∷ all) all) ≡ cond (not b && c) (x ∷ left) left
pass_step x0 x1 x sought all left from more = grind (arith, nat_tests, eq-eqb, stays)

again_step : (b c : Bool) (x : ℕ) (sought left : List ℕ) → AreFrom (x + 1) sought → AreFrom (x + 1) left
    → without_in_turn sought left ≡ left
    → without_in_turn (cond (b && c) (x ∷ sought) sought) (cond (not b && c) (x ∷ left) left)
    ≡ cond (not b && c) (x ∷ left) left
again_step x0 x1 x sought left from after more = grind (arith, nat_tests, not_there, stays)

module _ (resource : ResourceKind) (kind : PatternKind) (key : List ℕ) where
  -- the entry stands at this place of the tree of this kind of resource
  abbrev pub stands_at : ℕ × Binding → Bool
  stands_at entry = same_resource entry.1.resource resource && is_place kind key (pattern_place entry.1)

  -- the serials of the entries that do
  abbrev pub serials_there : List (ℕ × Binding) → List ℕ
  serials_there entries = serials_at pattern_place (entries_on resource entries) kind key

  pub one_more_there : (x : ℕ × Binding) (xs : List (ℕ × Binding))
      → serials_there (x ∷ xs) ≡ cond (stands_at x) (x.0 ∷ serials_there xs) (serials_there xs)
  one_more_there x xs = grind (arith, nat_tests)

  one_more_kept : (test : ℕ × Binding → Bool) (x : ℕ × Binding) (xs : List (ℕ × Binding))
      → serials_there (filter test (x ∷ xs))
      ≡ cond (test x && stands_at x) (x.0 ∷ serials_there (filter test xs)) (serials_there (filter test xs))
  one_more_kept test x xs = grind (arith, nat_tests, one_more_there)

  there_from : (low high : ℕ) (xs : List (ℕ × Binding)) → IsRising low xs high → AreFrom low (serials_there xs)
  there_from low high [] rising = tt
  there_from low high (x ∷ xs) rising =
      grind (arith, nat_tests, from_lower, there_from (x.0 + 1) high xs rising.1, one_more_there)

  kept_from : (test : ℕ × Binding → Bool) (low high : ℕ) (xs : List (ℕ × Binding)) → IsRising low xs high
      → AreFrom low (serials_there (filter test xs))
  kept_from test low high xs rising = there_from low high (filter test xs) (rising_filter test low high xs rising)

  -- a pass for the entries that go leaves those that stay
  pub pass_leaves : (test : ℕ × Binding → Bool) (low high : ℕ) (xs : List (ℕ × Binding)) → IsRising low xs high
      → without_in_turn (serials_there (filter test xs)) (serials_there xs)
      ≡ serials_there (filter (λ e. not (test e)) xs)
  pass_leaves test low high [] rising = refl
  pass_leaves test low high (x ∷ xs) rising =
      let rest = pass_leaves test (x.0 + 1) high xs rising.1 in
      grind (arith, nat_tests, one_more_kept, one_more_there, pass_step, kept_from)

  -- and a second pass takes no more
  pub pass_again : (test : ℕ × Binding → Bool) (low high : ℕ) (xs : List (ℕ × Binding)) → IsRising low xs high
      → without_in_turn (serials_there (filter test xs)) (serials_there (filter (λ e. not (test e)) xs))
      ≡ serials_there (filter (λ e. not (test e)) xs)
  pass_again test low high [] rising = refl
  pass_again test low high (x ∷ xs) rising =
      let other : ℕ × Binding → Bool = λ e. not (test e) in
      (λ i. without_in_turn (one_more_kept test x xs i) (one_more_kept other x xs i))
      ∙ again_step (test x) (stands_at x) x.0 (serials_there (filter test xs)) (serials_there (filter other xs))
      (kept_from test (x.0 + 1) high xs rising.1) (kept_from other (x.0 + 1) high xs rising.1)
      (pass_again test (x.0 + 1) high xs rising.1)
      ∙ sym (one_more_kept other x xs)

-- What a deletion takes out of the trees of the patterns, place by place.

-- each place is named where its first entry is met
named : (patterns : Patterns) (rest : List (ℕ × Binding)) (so_far : List Removal)
    → fold (with_removal patterns) so_far rest
    ≡ so_far ++ map (removal_of patterns) (filter (is_first_there patterns) rest)
named patterns [] so_far = sym (append-nil so_far)
named patterns (x ∷ xs) so_far =
    let put = named patterns xs (so_far ++ removal_of patterns x ∷ []) in
    grind (arith, nat_tests, append_assoc, named patterns xs so_far)

module _ (resource : ResourceKind) (kind : PatternKind) (key : List ℕ) where
  -- the serials of this place among the patterns
  abbrev found_there : Patterns → List ℕ
  found_there patterns = serials_of kind (held (tree_of patterns resource) key)

  -- an entry that stands there finds all that do
  beside : (taken : List (ℕ × Binding)) (d : ℕ × Binding) → stands_at resource kind key d ≡ true
      → serials_beside (patterns_of taken) d ≡ serials_there resource kind key taken
  beside taken d is = grind (arith, nat_tests, and_parts, resource_decides, bytes_eq-Decides, are_patterns)

  module _ (taken : List (ℕ × Binding)) (before left : List ℕ)
      (leaves : without_in_turn (serials_there resource kind key taken) before ≡ left)
      (again : without_in_turn (serials_there resource kind key taken) left ≡ left) where
    abbrev sought : List ℕ
    sought = serials_there resource kind key taken

    abbrev without_places : Patterns → List (ℕ × Binding) → Patterns
    without_places patterns ds = fold without_removal patterns (map (removal_of (patterns_of taken)) ds)

    after_entry : (patterns : Patterns) (d : ℕ × Binding) (xs : List ℕ) → found_there patterns ≡ xs
        → found_there (without_removal patterns (removal_of (patterns_of taken) d))
        ≡ passed (stands_at resource kind key d) sought xs
    after_entry patterns d xs is = grind (arith, nat_tests, beside, tree_changed, after_pass)

    -- what a pass has left stays
    left_stays : (ds : List (ℕ × Binding)) (patterns : Patterns) → found_there patterns ≡ left
        → found_there (without_places patterns ds) ≡ left
    left_stays [] patterns is = is
    left_stays (d ∷ ds) patterns is =
        let step = after_entry patterns d left is in
        grind (arith, nat_tests, left_stays ds (without_removal patterns (removal_of (patterns_of taken) d)))

    -- the place is passed where an entry that stands there is met
    after_entries : (ds : List (ℕ × Binding)) (patterns : Patterns) → found_there patterns ≡ before
        → found_there (without_places patterns ds) ≡ cond (list_any (stands_at resource kind key) ds) left before
    after_entries [] patterns is = is
    after_entries (d ∷ ds) patterns is = grind (arith, nat_tests, left_stays, after_entry, after_entries ds)

  -- where some of the entries stand there, one is the first
  some_first : (taken rest : List (ℕ × Binding)) (s : ℕ) (ss : List ℕ) → serials_there resource kind key rest ≡ s ∷ ss
      → begins_with (serials_there resource kind key taken) s ≡ true
      → list_any (stands_at resource kind key) (filter (is_first_there (patterns_of taken)) rest) ≡ true
  some_first taken [] s ss is begins = absurd (cc)
  some_first taken (x ∷ xs) s ss is begins =
      grind (arith, nat_tests, one_more_there, list_any, beside, some_first taken xs s ss)

  -- after all removals the place has the serials of the entries that stay
  pub place_after : (wanted : BindingFilter) (low high : ℕ) (entries : List (ℕ × Binding)) (patterns : Patterns)
      → IsRising low entries high → found_there patterns ≡ serials_there resource kind key entries
      → found_there (fold without_removal patterns (removals_of (bindings_taken wanted entries)))
      ≡ serials_there resource kind key (bindings_left wanted entries)
  place_after wanted low high entries patterns rising is =
      let test : ℕ × Binding → Bool = λ entry. takes wanted entry.1 in
      let taken : List (ℕ × Binding) = bindings_taken wanted entries in
      let before : List ℕ = serials_there resource kind key entries in
      let left : List ℕ = serials_there resource kind key (bindings_left wanted entries) in
      let leaves : without_in_turn (serials_there resource kind key taken) before ≡ left =
      pass_leaves resource kind key test low high entries rising in
      let again : without_in_turn (serials_there resource kind key taken) left ≡ left =
      pass_again resource kind key test low high entries rising in
      let firsts : List (ℕ × Binding) = filter (is_first_there (patterns_of taken)) taken in
      let met : Bool = list_any (stands_at resource kind key) firsts in
      let all : (ss : List ℕ) → serials_there resource kind key taken ≡ ss → cond met left before ≡ left =
      λ ss. elim ss as (λ ss. serials_there resource kind key taken ≡ ss → cond met left before ≡ left) [
        | [] ↦ λ none.
            let same : before ≡ left =
            sym (none_sought before) ∙ ap (λ xs. without_in_turn xs before) (sym none) ∙ leaves in
            elim met as (λ b. cond b left before ≡ left) [ true ↦ refl | false ↦ same ]
        | s ∷ ss ↦ λ some. ap (λ b. cond b left before) (some_first taken taken s ss some
            (ap (λ xs. begins_with xs s) some ∙ eq-eqb s s refl))
      ] in
      ap (λ rs. found_there (fold without_removal patterns rs)) (named (patterns_of taken) taken [])
      ∙ after_entries taken before left leaves again firsts patterns is
      ∙ all (serials_there resource kind key taken) refl

-- the index after a deletion is that of the entries that stay
pub indexes_deleted : (wanted : BindingFilter) (low high : ℕ) (entries : List (ℕ × Binding)) (index : Index)
    → IsRising low entries high → Indexes index entries
    → Indexes (record {
      patterns = fold without_removal index.patterns (removals_of (bindings_taken wanted entries));
      keys = fold without_addition index.keys (map (addition key_place) (bindings_taken wanted entries));
    }) (bindings_left wanted entries)
indexes_deleted wanted low high entries index rising is =
    grind (arith, nat_tests, place_after, keys_removed wanted low high entries index.keys [] rising is.keys)

-- the only serial at the place of a pattern
only_there : (resource : ResourceKind) (kind : PatternKind) (name : List ℕ) (serial : ℕ)
    → serials_of kind (held (tree_of (with_tree no_patterns resource
    (added (tree_of no_patterns resource) name kind serial)) resource) name) ≡ serial ∷ []
only_there resource kind name serial = grind (arith, nat_tests, held_added_same, held_empty)

-- one entry alone is all that is removed from its place
pub removals_of_one : (entry : ℕ × Binding) → removals_of (entry ∷ [])
    ≡ record { resource = entry.1.resource; pattern = entry.1.pattern; serials = entry.0 ∷ [] } ∷ []
removals_of_one entry =
    let one : serials_beside (patterns_of (entry ∷ [])) entry ≡ entry.0 ∷ [] =
    only_there entry.1.resource (kind_in_tree entry.1.pattern.kind) entry.1.pattern.name entry.0 in
    grind (arith, nat_tests, eq-eqb)
