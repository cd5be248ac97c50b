-- What is so of the elements of a list, and of entries with rising serials.
use Rattle.kob_authorizer.proofs.Words.{All, All-contains, All-contains_itself, All-filter, All-from_recursion, All-map, All-weaker, AllByRecursion, Any-from_list_any, Bool, Contains, Contains-append_left, Contains-append_right, Contains-push, List, [], arith, cond, false, filter, filter_passes, inl, inr, list_any, list_any-from_Any, map, nat_tests, recursion_from_All, refl, true, ◌∷◌, ◌≡◌, ◌⊎◌, AreRising, Binding, BindingFilter, IsRising, bindings_left, enumerate_from, length, length-append, not, takes, ℕ, ◌++◌, ◌+◌, ◌≤◌, None, Some, find, first_serial, option_map, ◌≢◌, ap, find-append, is_among, is_in_force, is_some, option_or, serial_of, ◌∙◌, Err, IsBinarySearchResult, IsNonDecreasingBy, IsSearchInRange, MatchResult, Ok, Option, Result, entry_at, eq-eqb, eqb-true, get_or, nat_cmp, ne_eqb, ordering_index, passes_at, ranked, suc, sym, zero, ◌<◌, ◌==◌}

module _ {A : Type 0} where
  -- what holds of all holds of each that is there, and the other way round
  pub each : (P : A → Type 0) (xs : List A) (x : A) → AllByRecursion P xs → Contains xs x → P x
  each P xs x all there = All-contains P xs x (All-from_recursion P xs all) there

  pub all_of : (P : A → Type 0) (xs : List A) → ((x : A) → Contains xs x → P x) → All P xs
  all_of P xs holds = All-weaker (Contains xs) P holds xs (All-contains_itself xs)

  pub of_each : (P : A → Type 0) (xs : List A) → ((x : A) → Contains xs x → P x) → AllByRecursion P xs
  of_each P xs holds = recursion_from_All P xs (all_of P xs holds)

  pub at_head : (x : A) (xs : List A) → Contains (x ∷ xs) x
  at_head x xs = Contains-append_left (x ∷ []) xs x (Contains-push [] x)

  -- an element of a list is its first one, or in the rest
  first_or_rest : (x : A) (xs : List A) (y : A) → Contains (x ∷ xs) y → (x ≡ y) ⊎ Contains xs y
  first_or_rest x xs y has = grind (arith, nat_tests)

  module _ (test : A → Bool) where
    -- a test of any passes where an element passes
    pub passing : (xs : List A) → list_any test xs ≡ true → (x : A) × (Contains xs x × (test x ≡ true))
    passing xs some = let (k, x, below, is, passes) = Any-from_list_any test xs some in (x, ((k, below, is), passes))

    pub any_passes : (xs : List A) (x : A) → Contains xs x → test x ≡ true → list_any test xs ≡ true
    any_passes xs x there passes = list_any-from_Any test xs (there.0, x, there.1, there.2, passes)

    -- an element that passes is kept
    pub kept_by_filter : (xs : List A) (y : A) → Contains xs y → test y ≡ true → Contains (filter test xs) y
    kept_by_filter [] y has passes = has
    kept_by_filter (x ∷ xs) y has passes =
        elim (first_or_rest x xs y has) as (λ _. Contains (cond (test x) (x ∷ filter test xs) (filter test xs)) y) [
          | inl same ↦ grind (arith, nat_tests, at_head)
          | inr later ↦
              let kept = kept_by_filter xs y later passes in
              elim (test x) as (λ b. Contains (cond b (x ∷ filter test xs) (filter test xs))
              y) [ true ↦ Contains-append_right (x ∷ []) (filter test xs) y kept | false ↦ kept ]
        ]

    -- what is kept was there, and passes
    pub was_kept : (xs : List A) (y : A) → Contains (filter test xs) y → Contains xs y × (test y ≡ true)
    was_kept xs y has = (
      All-contains (Contains xs) (filter test xs) y (All-filter test (Contains xs) xs (All-contains_itself xs)) has,
      All-contains (λ z. test z ≡ true) (filter test xs) y (filter_passes test xs) has,
    )

module _ {A B : Type 0} (f : A → B) where
  -- what a function gives of an element is among what it gives of them all
  pub among_mapped : (xs : List A) (y : A) → Contains xs y → Contains (map f xs) (f y)
  among_mapped [] y has = absurd (omega (arith, has.1))
  among_mapped (x ∷ xs) y has =
      grind (arith, nat_tests, first_or_rest, at_head, Contains-append_right (f x ∷ []), among_mapped xs y)

  -- and what is there is given of some element
  abbrev GivenBy : List A → B → Type 0
  GivenBy xs z = (x : A) × (Contains xs x × (f x ≡ z))

  pub given_by : (xs : List A) (z : B) → Contains (map f xs) z → GivenBy xs z
  given_by xs z has =
      All-contains (GivenBy xs) (map f xs) z
      (All-map (GivenBy xs) f xs (all_of (λ x. GivenBy xs (f x)) xs (λ x there. (x, (there, refl))))) has

-- What keeps serials rising.

-- numbering gives rising serials
pub rising_enumerate_from : (n : ℕ) (xs : List Binding)
    → IsRising n (enumerate_from n xs) (n + length (enumerate_from n xs))
rising_enumerate_from n [] = omega arith
rising_enumerate_from n (x ∷ xs) = grind (arith, nat_tests, rising_enumerate_from (n + 1) xs)

-- serials that rise from some bound on rise from a lower one
pub rising_below : (low middle high : ℕ) (ys : List (ℕ × Binding)) → low ≤ middle → IsRising middle ys high
    → IsRising low ys high
rising_below low middle high [] le rising = omega arith
rising_below low middle high (y ∷ ys) le rising = (omega (arith, rising.0), rising.1)

-- serials that rise from somewhere on rise
pub are_rising : (low high : ℕ) (entries : List (ℕ × Binding)) → IsRising low entries high → AreRising entries
are_rising low high entries rising = (high, rising_below 0 low high entries (omega arith) rising)

-- serials that go on where others end rise with them
pub rising_append : (low middle high : ℕ) (xs ys : List (ℕ × Binding)) → IsRising low xs middle
    → IsRising middle ys high → IsRising low (xs ++ ys) high
rising_append low middle high [] ys before after = rising_below low middle high ys before after
rising_append low middle high (x ∷ xs) ys before after =
    (before.0, rising_append (x.0 + 1) middle high xs ys before.1 after)

-- the entries after fresh ones were put last
pub put_rises : (limit next count : ℕ) (entries fresh : List (ℕ × Binding)) → count ≡ length fresh
    → length entries + length fresh ≤ limit → IsRising 1 entries next → IsRising next fresh (next + length fresh)
    → (length (entries ++ fresh) ≤ limit) × IsRising 1 (entries ++ fresh) (next + count)
put_rises limit next count entries fresh is within before after =
    grind (arith, nat_tests, length-append, rising_append)

-- leaving entries out keeps the serials rising
pub rising_filter : (test : ℕ × Binding → Bool) (low high : ℕ) (xs : List (ℕ × Binding)) → IsRising low xs high
    → IsRising low (filter test xs) high
rising_filter test low high [] rising = rising
rising_filter test low high (x ∷ xs) rising =
    grind (arith, nat_tests, rising_filter test (x.0 + 1) high xs rising.1, rising_below)

-- deleting bindings keeps the serials rising
pub removed_rises : (entries : List (ℕ × Binding)) (next : ℕ) (wanted : BindingFilter) → IsRising 1 entries next
    → IsRising 1 (bindings_left wanted entries) next
removed_rises entries next wanted = rising_filter (λ (entry : ℕ × Binding). not (takes wanted entry.1)) 1 next entries

-- The first entry that passes a test: it is the one that a search finds, and where serials rise it has the least.

-- the first of some entries
first_there : (entries : List (ℕ × Binding)) (serial : ℕ) → first_serial entries ≡ Some serial
    → (entry : ℕ × Binding) × (Contains entries entry × (entry.0 ≡ serial))
first_there x0 serial is = grind (arith, nat_tests, at_head)

-- in rising order no serial is below where they begin
pub none_below : (low high serial : ℕ) (entries : List (ℕ × Binding)) → serial ≤ low → IsRising low entries high
    → AllByRecursion (λ (other : ℕ × Binding). serial ≤ other.0) entries
none_below low high serial [] le rising = tt
none_below low high serial (entry ∷ rest) le rising =
    (omega (arith, rising.0), none_below (entry.0 + 1) high serial rest (omega (arith, rising.0)) rising.1)

first_least : (low high serial : ℕ) (entries : List (ℕ × Binding)) → IsRising low entries high
    → first_serial entries ≡ Some serial → AllByRecursion (λ (other : ℕ × Binding). serial ≤ other.0) entries
first_least low high serial x3 rising is = grind (arith, nat_tests, none_below)

module _ (test : ℕ × Binding → Bool) (entries : List (ℕ × Binding)) where
  pub none_is : first_serial (filter test entries) ≡ None → (entry : ℕ × Binding) → Contains entries entry
      → test entry ≢ true
  none_is none entry there passes = grind (arith, nat_tests, kept_by_filter test entries entry there passes)

  module _ (serial : ℕ) (found : first_serial (filter test entries) ≡ Some serial) where
    pub first_is : (entry : ℕ × Binding) × ((Contains entries entry × (test entry ≡ true)) × (entry.0 ≡ serial))
    first_is =
        let (entry, (there, is)) = first_there (filter test entries) serial found in
        (entry, (was_kept test entries entry there, is))

    pub least_is : (low high : ℕ) → IsRising low entries high → (other : ℕ × Binding) → Contains entries other
        → test other ≡ true → serial ≤ other.0
    least_is low high rising other there passes =
        each (λ (entry : ℕ × Binding). serial ≤ entry.0) (filter test entries) other
        (first_least low high serial (filter test entries) (rising_filter test low high entries rising) found)
        (kept_by_filter test entries other there passes)

pub first_serial_found : (test : ℕ × Binding → Bool) (entries : List (ℕ × Binding))
    → first_serial (filter test entries) ≡ option_map (λ (entry : ℕ × Binding). entry.0) (find test entries)
first_serial_found test [] = refl
first_serial_found test (entry ∷ rest) = grind (arith, nat_tests, first_serial_found test rest)

-- The serial of a binding in two lists, one after the other.

-- the serial in two lists is that in the first, where there is one
pub serial_of_append : (binding : Binding) (xs ys : List (ℕ × Binding))
    → serial_of (xs ++ ys) binding ≡ option_or (serial_of xs binding) (serial_of ys binding)
serial_of_append binding xs ys = grind (arith, nat_tests, find-append)

-- a serial found in the first list stays found
pub serial_of_append_some : (binding : Binding) (xs ys : List (ℕ × Binding)) (serial : ℕ)
    → Some serial ≡ serial_of xs binding → Some serial ≡ serial_of (xs ++ ys) binding
serial_of_append_some binding xs ys serial found = grind (arith, nat_tests, serial_of_append)

-- where the first list has none, it is that of the second
pub serial_of_append_none : (binding : Binding) (xs ys : List (ℕ × Binding)) → None ≡ serial_of xs binding
    → serial_of ys binding ≡ serial_of (xs ++ ys) binding
serial_of_append_none binding xs ys none = grind (arith, nat_tests, serial_of_append)

-- numbering two lists is numbering the one and then the other
pub enumerate_from_append : {A : Type 0} (n : ℕ) (xs ys : List A)
    → enumerate_from n (xs ++ ys) ≡ enumerate_from n xs ++ enumerate_from (n + length xs) ys
enumerate_from_append n [] ys = let e : n ≡ n + 0 = omega arith in ap (λ k. enumerate_from k ys) e
enumerate_from_append n (x ∷ xs) ys = grind (arith, nat_tests, enumerate_from_append (n + 1) xs ys)

-- one more binding gets the next serial
pub enumerate_from_push : {A : Type 0} (n : ℕ) (xs : List A) (x : A)
    → enumerate_from n (xs ++ x ∷ []) ≡ enumerate_from n xs ++ (n + length xs, x) ∷ []
enumerate_from_push n xs x = enumerate_from_append n xs (x ∷ [])

-- an equal binding is in force exactly where there is a serial for it
pub serial_in_force : (entries : List (ℕ × Binding)) (b : Binding)
    → is_some (serial_of entries b) ≡ is_in_force entries b
serial_in_force [] b = refl
serial_in_force (x ∷ xs) b = grind (arith, nat_tests, serial_in_force xs b)

-- and it is among some bindings exactly where their numbering has a serial for it
pub place_among : (n : ℕ) (bindings : List Binding) (b : Binding)
    → is_some (serial_of (enumerate_from n bindings) b) ≡ is_among bindings b
place_among n [] b = refl
place_among n (x ∷ xs) b = grind (arith, nat_tests, place_among (n + 1) xs b)

-- numbering from further on moves each serial as far
moved_from : (by n : ℕ) (bindings : List Binding) (b : Binding)
    → option_map (λ place. by + place) (serial_of (enumerate_from n bindings) b)
    ≡ serial_of (enumerate_from (by + n) bindings) b
moved_from by n [] b = refl
moved_from by n (x ∷ xs) b = grind (arith, nat_tests, moved_from by (n + 1) xs b)

-- the serial by the place
moved : (next : ℕ) (bindings : List Binding) (b : Binding)
    → option_map (λ place. next + place) (serial_of (enumerate_from 0 bindings) b)
    ≡ serial_of (enumerate_from next bindings) b
moved next bindings b = grind (arith, nat_tests, moved_from)

pub moved_some : (next place : ℕ) (bindings : List Binding) (b : Binding)
    → Some place ≡ serial_of (enumerate_from 0 bindings) b
    → Some (next + place) ≡ serial_of (enumerate_from next bindings) b
moved_some next place bindings b found = ap (option_map (λ place. next + place)) found ∙ moved next bindings b

-- What a binary search among rising serials finds.

-- in rising order no serial is below where they begin
pub at_least : (low high : ℕ) (entries : List (ℕ × Binding)) (k : ℕ) (d : ℕ × Binding) → IsRising low entries high
    → k < length entries → low ≤ (get_or entries k d).0
at_least low high entries k d rising below =
    All-from_recursion (λ (entry : ℕ × Binding). low ≤ entry.0) entries
    (none_below low high low entries (omega arith) rising) k d below

-- a later serial is not below an earlier one
in_order : (low high : ℕ) (entries : List (ℕ × Binding)) (i j : ℕ) (d : ℕ × Binding) → IsRising low entries high
    → i ≤ j → j < length entries → (get_or entries i d).0 ≤ (get_or entries j d).0
in_order low high [] i j d rising le below = absurd (omega (arith, below))
in_order low high (x ∷ xs) zero zero d rising le below = omega arith
in_order low high (x ∷ xs) zero (suc j) d rising le below = grind (arith, nat_tests, at_least)
in_order low high (x ∷ xs) (suc i) zero d rising le below = absurd (omega (arith, le))
in_order low high (x ∷ xs) (suc i) (suc j) d rising le below =
    in_order (x.0 + 1) high xs i j d rising.1 (omega (arith, le)) (omega (arith, below))

-- the entry at a place is the one with its serial
pub found_at : (low high : ℕ) (entries : List (ℕ × Binding)) (k serial : ℕ) (d : ℕ × Binding) → IsRising low entries high
    → k < length entries → (get_or entries k d).0 ≡ serial → Some (get_or entries k d) ≡ entry_at entries serial
found_at low high [] k serial d rising below is = absurd (omega (arith, below))
found_at low high (x ∷ xs) zero serial d rising below is = grind (arith, nat_tests, eq-eqb)
found_at low high (x ∷ xs) (suc k) serial d rising below is =
    let later = found_at (x.0 + 1) high xs k serial d rising.1 (omega (arith, below)) is in
    grind (arith, nat_tests, at_least, ne_eqb)

-- where each serial is another, none is found
none_found : (entries : List (ℕ × Binding)) (serial : ℕ)
    → ((k : ℕ) (d : ℕ × Binding) → k < length entries → (get_or entries k d).0 ≡ serial → ⊥)
    → None ≡ entry_at entries serial
none_found [] serial other = refl
none_found (x ∷ xs) serial other =
    let first : (x.0 == serial) ≡ false = ne_eqb x.0 serial (λ same. other 0 x (omega arith) same) in
    none_found xs serial (λ k d below same. other (suc k) d (omega (arith, below)) same)
    ∙ ap (λ b. cond b (Some x) (entry_at xs serial)) (sym first)

module _ (entries : List (ℕ × Binding)) (rising : AreRising entries) (serial : ℕ) where
  -- the comparisons with the serial rise along the list, as a binary search asks
  comparisons_rise : IsNonDecreasingBy (λ (entry : ℕ × Binding). ordering_index (nat_cmp entry.0 serial)) entries
  comparisons_rise i j d le below =
      let ordered = in_order 0 rising.0 entries i j d rising.1 le below in grind (arith, nat_tests)

  -- a binary search ends at the entry with the serial, or there is none
  pub searched : (r : Result ℕ ℕ) → IsSearchInRange r (length entries)
      → IsBinarySearchResult (λ (entry : ℕ × Binding). nat_cmp entry.0 serial) entries r
      → MatchResult r (λ place. (d : ℕ × Binding) → Some (get_or entries place d) ≡ entry_at entries serial)
      (λ _. None ≡ entry_at entries serial)
  searched (Ok place) below equal = grind (arith, nat_tests, found_at, ranked)
  searched (Err place) below parted = grind (arith, nat_tests, none_found, ranked, comparisons_rise)

-- the test of the entry with a serial, where there is one
abbrev passes_found : (ℕ × Binding → Bool) → Option (ℕ × Binding) → Bool
passes_found test None = false
passes_found test (Some entry) = test entry

-- no entry has a serial below where they begin
none_passes : (test : ℕ × Binding → Bool) (low high : ℕ) (entries : List (ℕ × Binding)) (serial : ℕ)
    → IsRising low entries high → serial < low → passes_at test entries serial ≡ false
none_passes test low high [] serial rising lt = refl
none_passes test low high (x ∷ xs) serial rising lt =
    grind (arith, nat_tests, ne_eqb, none_passes test (x.0 + 1) high xs serial rising.1 (omega (arith, lt, rising.0)))

passes_from : (test : ℕ × Binding → Bool) (low high : ℕ) (entries : List (ℕ × Binding)) (serial : ℕ)
    → IsRising low entries high → passes_found test (entry_at entries serial) ≡ passes_at test entries serial
passes_from test low high [] serial rising = refl
passes_from test low high (x ∷ xs) serial rising =
    grind (arith, nat_tests, none_passes, eqb-true, passes_from test (x.0 + 1) high xs serial rising.1)

-- the entry that was found passes the test where some entry with the serial does, since no two have the same
pub passes_some : (test : ℕ × Binding → Bool) (entries : List (ℕ × Binding)) (serial : ℕ) (entry : ℕ × Binding)
    → AreRising entries → Some entry ≡ entry_at entries serial → test entry ≡ passes_at test entries serial
passes_some test entries serial entry rising found =
    ap (passes_found test) found ∙ passes_from test 0 rising.0 entries serial rising.1

-- where none was found, none with the serial passes
pub passes_none : (test : ℕ × Binding → Bool) (entries : List (ℕ × Binding)) (serial : ℕ) → AreRising entries
    → None ≡ entry_at entries serial → false ≡ passes_at test entries serial
passes_none test entries serial rising found =
    ap (passes_found test) found ∙ passes_from test 0 rising.0 entries serial rising.1
