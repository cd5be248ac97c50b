-- A deletion examines the entries at one pattern alone, and removes a single entry at its place.
use Rattle.kob_authorizer.proofs.Words.{All, All-contains_itself, All-filter, All-from_recursion, All-head, All-tail, AreRising, Binding, BindingFilter, Bool, Contains, IsRising, List, Option, PatternKind, ResourceKind, Some, [], and_parts, ap, bytes_eq-Decides, arith, bindings_left, bindings_taken, entry_at, filter, filter-append, get_or, held, is_place, length, map, nat_tests, not, pattern_place, refl, resource_decides, same_resource, serials_of, subst, suc, sym, take, takes, tree_of, true, zero, ℕ, ◌++◌, ◌+◌, ◌<◌, ◌∙◌, ◌∷◌, ◌≡◌, ◌≤◌}
use Rattle.std.proofs.lemmas.List.{take_more}
use Rattle.std.proofs.lemmas.List.Elements.{filter_map-append}
use Rattle.std.specs.List.{cons_option, filter_map, remove}
use Rattle.kob_names.proofs.SameBindings.{kind_decides}
use Rattle.kob_names.specs.declared.filter.FilterPattern.{FilterPattern}
use Rattle.kob_names.specs.declared.filter.FilterPattern.TheVariants as named
use Rattle.kob_prefix_tree.specs.declared.kind.PatternKind.TheVariants as in_tree
use Rattle.kob_authorizer.specs.Index.{listed_at, listed_by, ArePatternsOf}
use Rattle.kob_authorizer.specs.declared.patterns.Patterns.{Patterns}
use Rattle.kob_authorizer.proofs.Entries.{none_below, at_least, found_at}

-- what is taken of the entry with one more serial, where there is one
module _ (wanted : BindingFilter) (entries : List (ℕ × Binding)) (serials : List ℕ) (i d : ℕ) (below : i < length serials) where
  abbrev taken_from : List ℕ → List (ℕ × Binding)
  taken_from some = bindings_taken wanted (filter_map (entry_at entries) some)

  taken_more : taken_from (take (i + 1) serials)
      ≡ taken_from (take i serials) ++ taken_from (get_or serials i d ∷ [])
  taken_more =
      ap taken_from (take_more serials i d below)
      ∙ ap (bindings_taken wanted) (filter_map-append (entry_at entries) (take i serials) (get_or serials i d ∷ []))
      ∙ filter-append (λ (entry : ℕ × Binding). takes wanted entry.1) (filter_map (entry_at entries) (take i serials))
      (filter_map (entry_at entries) (get_or serials i d ∷ []))

  pub found_more : (entry : Option (ℕ × Binding)) → entry ≡ entry_at entries (get_or serials i d)
      → taken_from (take i serials) ++ bindings_taken wanted (cons_option entry []) ≡ taken_from (take (i + 1) serials)
  found_more entry found =
      ap (λ o. taken_from (take i serials) ++ bindings_taken wanted (cons_option o [])) found ∙ sym taken_more

-- elements that fail a test which each sought one passes may be left out first
filter_within : {A : Type 0} (sought test : A → Bool) (xs : List A) → ((x : A) → sought x ≡ true → test x ≡ true)
    → filter sought (filter test xs) ≡ filter sought xs
filter_within sought test [] within = refl
filter_within sought test (x ∷ xs) within =
    let here = within x in let rest = filter_within sought test xs within in grind (arith, nat_tests)

module _ (entries : List (ℕ × Binding)) (rising : AreRising entries) where
  -- some of the entries are found by their serials
  all_found : (some : List (ℕ × Binding)) → All (Contains entries) some
      → filter_map (entry_at entries) (map (λ (entry : ℕ × Binding). entry.0) some) ≡ some
  all_found [] there = refl
  all_found (x ∷ xs) there =
      let (k, below, is) = All-head (Contains entries) x xs there in
      let first = found_at 0 rising.0 entries k x.0 x rising.1 below in
      let rest = all_found xs (All-tail (Contains entries) x xs there) in grind (arith, nat_tests)

  module _ (wanted : BindingFilter) (patterns : Patterns) (indexed : ArePatternsOf patterns entries) where
    -- where all that is taken stands at one pattern, the serials there lead to it
    led_from : (resource : ResourceKind) (kind : PatternKind) (name serials : List ℕ)
        → ((entry : ℕ × Binding) → takes wanted entry.1 ≡ true → (same_resource entry.1.resource resource ≡ true)
        × (is_place kind name (pattern_place entry.1) ≡ true))
        → serials_of kind (held (tree_of patterns resource) name) ≡ serials
        → bindings_taken wanted (filter_map (entry_at entries) serials) ≡ bindings_taken wanted entries
    led_from resource kind name serials stands is =
        let here = λ (entry : ℕ × Binding). is_place kind name (pattern_place entry.1) in
        let on = λ (entry : ℕ × Binding). same_resource entry.1.resource resource in
        let taken = λ (entry : ℕ × Binding). takes wanted entry.1 in
        ap (λ s. bindings_taken wanted (filter_map (entry_at entries) s)) (sym is ∙ indexed resource kind name)
        ∙ ap (bindings_taken wanted) (all_found (filter here (filter on entries))
        (All-filter here (Contains entries) (filter on entries)
        (All-filter on (Contains entries) entries (All-contains_itself entries))))
        ∙ filter_within taken here (filter on entries) (λ entry takes_it. (stands entry takes_it).1)
        ∙ filter_within taken on entries (λ entry takes_it. (stands entry takes_it).0)

    led_by : (pattern : FilterPattern) (resource : Option ResourceKind) (name : Option (List ℕ)) (serials : List ℕ)
        → wanted.pattern ≡ pattern → wanted.resource ≡ resource → wanted.name ≡ name
        → listed_at patterns pattern resource name ≡ Some serials
        → bindings_taken wanted (filter_map (entry_at entries) serials) ≡ bindings_taken wanted entries
    led_by named.Literal (Some resource) (Some name) serials of_pattern on called is =
        led_from resource in_tree.Literal name serials (λ entry takes_it.
        grind (arith, nat_tests, and_parts, resource_decides, kind_decides, bytes_eq-Decides)) (grind (arith, nat_tests))
    led_by named.Prefixed (Some resource) (Some name) serials of_pattern on called is =
        led_from resource in_tree.Prefixed name serials (λ entry takes_it.
        grind (arith, nat_tests, and_parts, resource_decides, kind_decides, bytes_eq-Decides)) (grind (arith, nat_tests))
    led_by pattern resource name serials of_pattern on called is = grind (arith, nat_tests)

    -- the serials at the pattern that a filter names lead to all that it takes
    pub listed_lead : (serials : List ℕ) → listed_by patterns wanted ≡ Some serials
        → bindings_taken wanted (filter_map (entry_at entries) serials) ≡ bindings_taken wanted entries
    listed_lead serials is = led_by wanted.pattern wanted.resource wanted.name serials refl refl refl is

module _ (test : ℕ × Binding → Bool) where
  all_kept : (xs : List (ℕ × Binding)) → filter test xs ≡ [] → filter (λ x. not (test x)) xs ≡ xs
  all_kept [] none = refl
  all_kept (x ∷ xs) none = let rest = all_kept xs in grind (arith, nat_tests)

  -- a single entry that passes goes by its place
  pub one_removed : (low high : ℕ) (xs : List (ℕ × Binding)) (k : ℕ) (d entry : ℕ × Binding) → IsRising low xs high
      → k < length xs → (get_or xs k d).0 ≡ entry.0 → filter test xs ≡ entry ∷ []
      → remove xs k ≡ filter (λ x. not (test x)) xs
  one_removed low high [] k d entry rising below at alone = absurd (omega (arith, below))
  one_removed low high (x ∷ xs) zero d entry rising below at alone =
      let rest = all_kept xs in
      let later : filter test xs ≡ entry ∷ [] → x.0 + 1 ≤ entry.0 = λ is.
      All-head (λ (e : ℕ × Binding). x.0 + 1 ≤ e.0) entry []
      (subst (All (λ (e : ℕ × Binding). x.0 + 1 ≤ e.0)) is
      (All-filter test (λ e. x.0 + 1 ≤ e.0) xs
      (All-from_recursion _ xs (none_below (x.0 + 1) high (x.0 + 1) xs (omega arith) rising.1)))) in
      grind (arith, nat_tests)
  one_removed low high (x ∷ xs) (suc k) d entry rising below at alone =
      let rest = one_removed (x.0 + 1) high xs k d entry rising.1 (omega (arith, below)) at in
      let after = at_least (x.0 + 1) high xs k d rising.1 (omega (arith, below)) in grind (arith, nat_tests)

-- an entry that is found by a serial has it
of_serial : (entries : List (ℕ × Binding)) (serial : ℕ) (entry : ℕ × Binding)
    → Some entry ≡ entry_at entries serial → entry.0 ≡ serial
of_serial [] serial entry found = grind (arith, nat_tests)
of_serial (x ∷ xs) serial entry found = let later = of_serial xs serial entry in grind (arith, nat_tests)

-- a single entry that a filter takes goes from its place
pub single_removed : (wanted : BindingFilter) (entries taken : List (ℕ × Binding)) (place : ℕ) (d : ℕ × Binding)
    → AreRising entries → taken ≡ bindings_taken wanted entries → length taken ≡ 1 → place < length entries
    → Some (get_or entries place d) ≡ entry_at entries (get_or taken 0 d).0
    → remove entries place ≡ bindings_left wanted entries
single_removed wanted entries (entry ∷ []) place d rising is one below found =
    one_removed (λ (e : ℕ × Binding). takes wanted e.1) 0 rising.0 entries place d entry rising.1 below
    (of_serial entries entry.0 (get_or entries place d) found) (sym is)
single_removed wanted entries taken place d rising is one below found = absurd (omega (arith, one))
