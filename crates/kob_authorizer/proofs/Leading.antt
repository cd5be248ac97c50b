-- Serials in order that lead to every entry that passes a test lead to these in their order.
use Rattle.kob_authorizer.proofs.Words.{IsIndex, key_place, kind_in_tree, serials_of, subst, Option, PrefixMap, append_assoc, bytes_eq-Decides, ◌++◌, AllByRecursion, ArePatternsOf, AreRising, Binding, BindingFilter, Bool, Contains, Contains-append_left, Contains-append_right, IsRising, List, None, ResourceKind, Some, [], and_parts, ap, arith, bindings_taken, cond, entry_at, eq-eqb, false, filter, held, inl, inr, matches, matching_serials, nat_cmp, nat_tests, ne_eqb, ranked, refl, resource_decides, sym, takes, tree_of, true, ℕ, ◌+◌, ◌<◌, ◌==◌, ◌∙◌, ◌∷◌, ◌≡◌, ◌≤◌, ◌⊎◌}
use Rattle.std.proofs.Common.{eqb}
use Rattle.std.proofs.lemmas.Bool.{cases_Bool}
use Rattle.std.proofs.lemmas.Map.Keys.{IsStrictlyIncreasing-dedup, sorted_from_strictly_increasing}
use Rattle.std.specs.List.{cons_option, dedup, filter_map}
use Rattle.std.specs.List.Sorted.{IsSorted, IsStrictlySortedBy}
use Rattle.std.specs.declared.cmp.Ordering.TheVariants.{Less}
use Rattle.kob_names.specs.declared.filter.FilterPattern.TheVariants.{Matching}
use Rattle.kob_authorizer.proofs.Entries.{each, none_below, of_each}
use Rattle.kob_authorizer.proofs.Verdicts.{at_its_place, matched_up}
use Rattle.kob_authorizer.specs.Leading.{LeadToTaken, RiseFrom, StandsUnder, key_start}
use Rattle.kob_authorizer.specs.Index.{binding_key}
use Rattle.kob_names.specs.Filter.{takes_part}
use Rattle.kob_names.specs.Same.{same_text}
use Rattle.kob_authorizer.specs.declared.patterns.Patterns.{Patterns}

-- the entries with these serials
abbrev picked : List (ℕ × Binding) → List ℕ → List (ℕ × Binding)
picked entries serials = filter_map (entry_at entries) serials

-- no entry is found by a serial below them all
found_below : (low high : ℕ) (entries : List (ℕ × Binding)) (serial : ℕ) → IsRising low entries high → serial < low
    → entry_at entries serial ≡ None
found_below low high [] serial rising lt = refl
found_below low high (x ∷ xs) serial rising lt =
    let other : (x.0 == serial) ≡ false = ne_eqb x.0 serial (λ same. omega (arith, lt, rising.0, same)) in
    ap (λ b. cond b (Some x) (entry_at xs serial)) other ∙ found_below (x.0 + 1) high xs serial rising.1 (omega (arith, lt, rising.0))

-- an entry is not found by later serials
found_later : (x : ℕ × Binding) (xs : List (ℕ × Binding)) (serials : List ℕ)
    → AllByRecursion (λ serial. x.0 < serial) serials → picked (x ∷ xs) serials ≡ picked xs serials
found_later x xs [] above = refl
found_later x xs (s ∷ ss) above =
    let other : (x.0 == s) ≡ false = ne_eqb x.0 s (λ same. omega (arith, above.0, same)) in
    (λ i. cons_option (cond (other i) (Some x) (entry_at xs s)) (found_later x xs ss above.1 i))

found_none : (serials : List ℕ) → picked [] serials ≡ []
found_none [] = refl
found_none (s ∷ ss) = found_none ss

from_above : (low bound : ℕ) (serials : List ℕ) → bound ≤ low → RiseFrom low serials
    → AllByRecursion (λ serial. bound ≤ serial) serials
from_above low bound [] le rise = tt
from_above low bound (s ∷ ss) le rise =
    (omega (arith, le, rise.0), from_above (s + 1) bound ss (omega (arith, le, rise.0)) rise.1)

above_all : (bound low : ℕ) (serials : List ℕ) → bound < low → RiseFrom low serials
    → AllByRecursion (λ serial. bound < serial) serials
above_all bound low [] lt rise = tt
above_all bound low (s ∷ ss) lt rise =
    (omega (arith, lt, rise.0), above_all bound (s + 1) ss (omega (arith, lt, rise.0)) rise.1)

first_or_rest : (x : ℕ) (xs : List ℕ) (y : ℕ) → Contains (x ∷ xs) y → (x ≡ y) ⊎ Contains xs y
first_or_rest x xs y has = grind (arith, nat_tests)

in_rest : (x : ℕ) (xs : List ℕ) (y : ℕ) → Contains (x ∷ xs) y → x < y → Contains xs y
in_rest x xs y has lt =
    elim (first_or_rest x xs y has) [ inl same ↦ absurd (omega (arith, lt, same)) | inr there ↦ there ]

module _ (test : ℕ × Binding → Bool) (high : ℕ) where
  -- every entry that passes is led to
  abbrev Lead : List (ℕ × Binding) → List ℕ → Type 0
  Lead entries serials = (entry : ℕ × Binding) → Contains entries entry → test entry ≡ true → Contains serials entry.0

  abbrev SamePassing : List (ℕ × Binding) → List ℕ → Type 0
  SamePassing entries serials = filter test (picked entries serials) ≡ filter test entries

  behind : (x : ℕ × Binding) (xs : List (ℕ × Binding)) (entry : ℕ × Binding) → Contains xs entry
      → Contains (x ∷ xs) entry
  behind x xs entry there = Contains-append_right (x ∷ []) xs entry there

  at_front : (x : ℕ × Binding) (xs : List (ℕ × Binding)) → Contains (x ∷ xs) x
  at_front x xs = Contains-append_left (x ∷ []) xs x (0, omega arith, refl)

  passes_none : (entries : List (ℕ × Binding)) → Lead entries [] → filter test entries ≡ []
  passes_none [] lead = refl
  passes_none (x ∷ xs) lead =
      elim (test x) as (λ b. test x ≡ b → cond b (x ∷ filter test xs) (filter test xs) ≡ []) [
        | true ↦ λ passes. let has = lead x (at_front x xs) passes in absurd (omega (arith, has.1))
        | false ↦ λ _. passes_none xs (λ entry there. lead entry (behind x xs entry there))
      ] refl

  later_than : (x : ℕ × Binding) (xs : List (ℕ × Binding)) (entry : ℕ × Binding) → IsRising (x.0 + 1) xs high
      → Contains xs entry → x.0 < entry.0
  later_than x xs entry rising there =
      let least = each (λ (other : ℕ × Binding). x.0 + 1 ≤ other.0) xs entry
      (none_below (x.0 + 1) high (x.0 + 1) xs (omega arith) rising) there in omega (arith, least)

  not_before : (x : ℕ × Binding) (xs : List (ℕ × Binding)) (entry : ℕ × Binding) → IsRising (x.0 + 1) xs high
      → Contains (x ∷ xs) entry → x.0 ≤ entry.0
  not_before x xs entry rising there =
      each (λ (other : ℕ × Binding). x.0 ≤ other.0) (x ∷ xs) entry
      (omega arith, none_below (x.0 + 1) high x.0 xs (omega arith) rising) there

  step : (x : ℕ × Binding) (xs : List (ℕ × Binding)) → IsRising (x.0 + 1) xs high
      → ((low : ℕ) (serials : List ℕ) → RiseFrom low serials → Lead xs serials → SamePassing xs serials)
      → (low : ℕ) (serials : List ℕ) → RiseFrom low serials → Lead (x ∷ xs) serials → SamePassing (x ∷ xs) serials
  step x xs rising rest low [] rise lead = sym (passes_none (x ∷ xs) lead)
  step x xs rising rest low (s ∷ ss) rise lead =
      elim (three s x.0) [
        | inl before ↦
            ap (λ o. filter test (cons_option o (picked (x ∷ xs) ss)))
            (found_below x.0 high (x ∷ xs) s (omega arith, rising) before)
            ∙ step x xs rising rest (s + 1) ss rise.1 (λ entry there passes.
            in_rest s ss entry.0 (lead entry there passes)
            (let least = not_before x xs entry rising there in omega (arith, least, before)))
        | inr (inl same) ↦
            let at : (x.0 == s) ≡ true = eq-eqb x.0 s (sym same) in
            let all : picked (x ∷ xs) (s ∷ ss) ≡ x ∷ picked xs ss =
            ap (λ b. cons_option (cond b (Some x) (entry_at xs s)) (picked (x ∷ xs) ss)) at
            ∙ ap (λ ys. x ∷ ys) (found_later x xs ss
            (above_all x.0 (s + 1) ss (omega (arith, same)) rise.1)) in
            ap (filter test) all
            ∙ ap (λ ys. cond (test x) (x ∷ ys) ys) (rest (s + 1) ss rise.1 (λ entry there passes.
            in_rest s ss entry.0 (lead entry (behind x xs entry there) passes)
            (let later = later_than x xs entry rising there in omega (arith, later, same))))
        | inr (inr after) ↦
            let none : test x ≡ false = elim (cases_Bool (test x)) [
              | inl passes ↦
                  let has = each (λ serial. x.0 + 1 ≤ serial) (s ∷ ss) x.0
                  (from_above s (x.0 + 1) (s ∷ ss) (omega (arith, after)) (omega arith, rise.1))
                  (lead x (at_front x xs) passes) in absurd (omega (arith, has))
              | inr fails ↦ fails
            ] in
            ap (filter test) (found_later x xs (s ∷ ss)
            (above_all x.0 s (s ∷ ss) after (omega arith, rise.1)))
            ∙ rest s (s ∷ ss) (omega arith, rise.1) (λ entry there. lead entry (behind x xs entry there))
            ∙ ap (λ b. cond b (x ∷ filter test xs) (filter test xs)) (sym none)
      ]
    where
      three : (a b : ℕ) → (a < b) ⊎ ((a ≡ b) ⊎ (b < a))
      three a b = grind (arith, nat_tests)

  -- what passes of the entries that are found is all that passes
  pub same_passing : (low : ℕ) (entries : List (ℕ × Binding)) → IsRising low entries high
      → (from : ℕ) (serials : List ℕ) → RiseFrom from serials → Lead entries serials
      → filter test (picked entries serials) ≡ filter test entries
  same_passing low [] rising from serials rise lead = ap (filter test) (found_none serials)
  same_passing low (x ∷ xs) rising from serials rise lead =
      step x xs rising.1 (same_passing (x.0 + 1) xs rising.1) from serials rise lead

-- Serials that a sort without repeats leaves.

less_is : (a b : ℕ) → nat_cmp a b ≡ Less → a < b
less_is a b is = grind (arith, nat_tests, ranked)

rises : (low : ℕ) (serials : List ℕ) → AllByRecursion (λ serial. low ≤ serial) serials
    → IsStrictlySortedBy nat_cmp serials → RiseFrom low serials
unfolding IsStrictlySortedBy
rises low [] all sorted = tt
rises low (s ∷ ss) all sorted = (
  all.0,
  rises (s + 1) ss
      (of_each (λ serial. s + 1 ≤ serial) ss (λ serial there.
      let less = less_is s serial (each (λ y. nat_cmp s y ≡ Less) ss serial sorted.0 there) in omega (arith, less)))
      sorted.1,
)

all_above : (serials : List ℕ) → AllByRecursion (λ serial. 0 ≤ serial) serials
all_above [] = tt
all_above (s ∷ ss) = (omega arith, all_above ss)

pub sorted_rises : (serials : List ℕ) → IsSorted nat_cmp serials → RiseFrom 0 (dedup eqb serials)
sorted_rises serials sorted =
    rises 0 (dedup eqb serials) (all_above (dedup eqb serials))
    (sorted_from_strictly_increasing (dedup eqb serials) (IsStrictlyIncreasing-dedup serials sorted))

-- What a filter takes by a name that patterns match is looked up for the name.

taken_matches : (wanted : BindingFilter) (entry : ℕ × Binding) (resource : ResourceKind) (name : List ℕ)
    → wanted.pattern ≡ Matching → wanted.resource ≡ Some resource → wanted.name ≡ Some name
    → takes wanted entry.1 ≡ true → (entry.1.resource ≡ resource) × (matches entry.1.pattern name ≡ true)
taken_matches wanted entry resource name of_pattern on called taken =
    grind (arith, nat_tests, and_parts, resource_decides)

-- serials in order, among which are all that are looked up for the name, lead to all that the filter takes
pub matching_lead : (patterns : Patterns) (wanted : BindingFilter) (resource : ResourceKind) (name serials : List ℕ)
    → wanted.pattern ≡ Matching → wanted.resource ≡ Some resource → wanted.name ≡ Some name → RiseFrom 0 serials
    → ((serial : ℕ) → Contains (matching_serials (held (tree_of patterns resource)) name) serial
    → Contains serials serial)
    → (entries : List (ℕ × Binding)) → AreRising entries → ArePatternsOf patterns entries
    → bindings_taken wanted (filter_map (entry_at entries) serials) ≡ bindings_taken wanted entries
matching_lead patterns wanted resource name serials of_pattern on called rise among entries rising indexed =
    same_passing (λ (entry : ℕ × Binding). takes wanted entry.1) rising.0 0 entries rising.1 0 serials rise
    (λ entry there taken.
    let parts = taken_matches wanted entry resource name of_pattern on called taken in
    among entry.0 (matched_up patterns entries indexed resource name entry there parts.0 parts.1))

-- What a filter takes by a principal is among the keys that begin with it.

taken_of : (wanted : BindingFilter) (entry : ℕ × Binding) (principal : List ℕ) → wanted.principal ≡ Some principal
    → takes wanted entry.1 ≡ true → entry.1.principal ≡ principal
taken_of wanted entry principal named taken = grind (arith, nat_tests, and_parts, bytes_eq-Decides)

taken_on : (wanted : BindingFilter) (entry : ℕ × Binding) (resource : ResourceKind) → wanted.resource ≡ Some resource
    → takes wanted entry.1 ≡ true → entry.1.resource ≡ resource
taken_on wanted entry resource on taken = grind (arith, nat_tests, and_parts, resource_decides)

-- the key of a binding that the filter takes begins so
begins : (host : Option (List ℕ)) (binding : Binding) → takes_part same_text host binding.host ≡ true
    → (rest : List ℕ) × (key_start binding.resource binding.principal host ++ rest ≡ binding_key binding)
unfolding binding_key
begins None binding taken = (binding.host ++ 255 ∷ binding.pattern.name, grind (arith, append_assoc))
begins (Some host) binding taken =
    let same = (bytes_eq-Decides host binding.host).0 taken in
    (binding.pattern.name, grind (arith, append_assoc))

taken_from : (wanted : BindingFilter) (entry : ℕ × Binding) → takes wanted entry.1 ≡ true
    → takes_part same_text wanted.host entry.1.host ≡ true
taken_from wanted entry taken = grind (arith, nat_tests, and_parts)

module _ (keys : PrefixMap) (wanted : BindingFilter) (principal : List ℕ) (found ordered : List ℕ)
    (named : wanted.principal ≡ Some principal) (rise : RiseFrom 0 ordered)
    (among : (serial : ℕ) → Contains found serial → Contains ordered serial) where
  -- every binding that is taken stands under such a key
  stands : (entries : List (ℕ × Binding)) → IsIndex key_place keys entries → (entry : ℕ × Binding)
      → Contains entries entry → takes wanted entry.1 ≡ true
      → StandsUnder keys (key_start entry.1.resource principal wanted.host) entry.0
  stands entries indexed entry there taken =
      let of_it = taken_of wanted entry principal named taken in
      let (rest, is) = begins wanted.host entry.1 (taken_from wanted entry taken) in
      let key_is : key_start entry.1.resource principal wanted.host ++ rest ≡ binding_key entry.1 =
      ap (λ p. key_start entry.1.resource p wanted.host ++ rest) (sym of_it) ∙ is in (
        rest,
        (
          kind_in_tree entry.1.pattern.kind,
          subst (λ key. Contains (serials_of (kind_in_tree entry.1.pattern.kind)
              (held keys key)) entry.0) (sym key_is) (at_its_place key_place keys entries entry indexed there),
        ),
      )

  pub principal_on_all : ((resource : ResourceKind) (serial : ℕ)
      → StandsUnder keys (key_start resource principal wanted.host) serial → Contains found serial)
      → LeadToTaken (IsIndex key_place keys) wanted ordered
  principal_on_all all entries rising indexed =
      same_passing (λ (entry : ℕ × Binding). takes wanted entry.1) rising.0 0 entries rising.1 0 ordered rise
      (λ entry there taken. among entry.0 (all entry.1.resource entry.0 (stands entries indexed entry there taken)))

  pub principal_on : (resource : ResourceKind) → wanted.resource ≡ Some resource
      → ((serial : ℕ) → StandsUnder keys (key_start resource principal wanted.host) serial → Contains found serial)
      → LeadToTaken (IsIndex key_place keys) wanted ordered
  principal_on resource on all entries rising indexed =
      same_passing (λ (entry : ℕ × Binding). takes wanted entry.1) rising.0 0 entries rising.1 0 ordered rise
      (λ entry there taken.
      among entry.0 (all entry.0 (subst (λ r. StandsUnder keys (key_start r principal wanted.host) entry.0)
      (taken_on wanted entry resource on taken) (stands entries indexed entry there taken))))

pub ruleset principal_lead = (principal_on_all, principal_on)
