-- Serials in order that lead to every entry that passes a test lead to these in their order.
use Rattle.std.proofs.Common.{Bool, Contains, List, Some, [], ap, append-nil, append_assoc, arith, codes, cond, eqb, false, inl, inr, refl, sym, true, ℕ, ◌++◌, ◌+◌, ◌<◌, ◌==◌, ◌∙◌, ◌∷◌, ◌≡◌, ◌≤◌, ◌⊎◌, drop, length, nat_eq}
use Rattle.std.proofs.lemmas.Bool.{and_parts, cases_Bool, eq-eqb, ne_eqb, or_cases}
use Rattle.std.proofs.lemmas.Bool.Decides.{Decides-eqb, nat_tests}
use Rattle.std.proofs.lemmas.Cmp.{ranked}
use Rattle.std.proofs.lemmas.List.Elements.{Contains-append_left, Contains-append_right}
use Rattle.std.proofs.lemmas.Map.Keys.{IsStrictlyIncreasing-dedup, sorted_from_strictly_increasing}
use Rattle.std.proofs.lemmas.Slice.Eq.{bytes_eq-Decides, starts_is}
use Rattle.std.specs.FinMap as finite
use Rattle.std.specs.List.{AllByRecursion, dedup, filter, fold, starts_with}
use Rattle.std.specs.List.Sorted.{IsSorted, IsStrictlySortedBy}
use Rattle.std.specs.Option.{option_to_list}
use Rattle.std.specs.Ordering.{nat_cmp}
use Rattle.std.specs.declared.cmp.Ordering.TheVariants.{Less}
use Rattle.kob_names.specs.Binding.{Binding, matches_by}
use Rattle.kob_names.specs.Same.{same_resource, same_text}
use Rattle.kob_names.specs.declared.kinds.PatternKind.{PatternKind}
use Rattle.kob_names.specs.declared.kinds.PatternKind.TheVariants.{Literal, Prefixed}
use Rattle.kob_authorizer.proofs.Entries.{each, none_below, of_each}
use Rattle.kob_authorizer.proofs.IndexSteps.{index_added, index_empty}
use Rattle.kob_authorizer.proofs.Verdicts.{at_its_place}
use Rattle.kob_authorizer.specs.Decide.{IsRising}
use Rattle.kob_authorizer.specs.Index.{IsIndex, entry_at, kind_in_tree, matching_serials, pattern_place}
use Rattle.kob_prefix_tree.proofs.HeldLaws.{along_has_literal, along_has_prefixed}
use Rattle.kob_prefix_tree.specs.Held.{Held, PrefixMap, held, serials_along, serials_of}
use Rattle.kob_policy_review.specs.Classes.{is_on, matches_names}
use Rattle.kob_policy_review.specs.Finding.{RiseFrom, found, names_in, picked, text_of, with_name}
use Rattle.kob_policy_review.specs.declared.class.Names.{Names}
use Rattle.kob_policy_review.specs.declared.class.Names.TheVariants.{Exactly, Below}
use Rattle.kob_policy_review.specs.declared.class.Target.{Target}

-- no entry is found by a serial below them all
found_below : (low high : ℕ) (entries : List (ℕ × Binding)) (serial : ℕ) → IsRising low entries high → serial < low
    → found entries serial ≡ []
found_below low high [] serial rising lt = refl
found_below low high (x ∷ xs) serial rising lt =
    let other : (x.0 == serial) ≡ false = ne_eqb x.0 serial (λ same. omega (arith, lt, rising.0, same)) in
    ap (λ b. option_to_list (cond b (Some x) (entry_at xs serial))) other
    ∙ found_below (x.0 + 1) high xs serial rising.1 (omega (arith, lt, rising.0))

-- an entry is not found by later serials
found_later : (x : ℕ × Binding) (xs : List (ℕ × Binding)) (serials : List ℕ)
    → AllByRecursion (λ serial. x.0 < serial) serials → picked (x ∷ xs) serials ≡ picked xs serials
found_later x xs [] above = refl
found_later x xs (s ∷ ss) above =
    let other : (x.0 == s) ≡ false = ne_eqb x.0 s (λ same. omega (arith, above.0, same)) in
    (λ i. option_to_list (cond (other i) (Some x) (entry_at xs s)) ++ found_later x xs ss above.1 i)

found_none : (serials : List ℕ) → picked [] serials ≡ []
found_none [] = refl
found_none (s ∷ ss) = found_none ss

from_above : (low bound : ℕ) (serials : List ℕ) → bound ≤ low → RiseFrom low serials
    → AllByRecursion (λ serial. bound ≤ serial) serials
from_above low bound [] le rise = tt
from_above low bound (s ∷ ss) le rise =
    (omega (arith, le, rise.0), from_above (s + 1) bound ss (omega (arith, le, rise.0)) rise.1)

above_all : (bound low : ℕ) (serials : List ℕ) → bound < low → RiseFrom low serials
    → AllByRecursion (λ serial. bound < serial) serials
above_all bound low [] lt rise = tt
above_all bound low (s ∷ ss) lt rise =
    (omega (arith, lt, rise.0), above_all bound (s + 1) ss (omega (arith, lt, rise.0)) rise.1)

first_or_rest : (x : ℕ) (xs : List ℕ) (y : ℕ) → Contains (x ∷ xs) y → (x ≡ y) ⊎ Contains xs y
first_or_rest x xs y has = grind (arith, nat_tests)

in_rest : (x : ℕ) (xs : List ℕ) (y : ℕ) → Contains (x ∷ xs) y → x < y → Contains xs y
in_rest x xs y has lt =
    elim (first_or_rest x xs y has) [ inl same ↦ absurd (omega (arith, lt, same)) | inr there ↦ there ]

module _ (test : ℕ × Binding → Bool) (high : ℕ) where
  -- every entry that passes is led to
  abbrev pub Lead : List (ℕ × Binding) → List ℕ → Type 0
  Lead entries serials = (entry : ℕ × Binding) → Contains entries entry → test entry ≡ true → Contains serials entry.0

  abbrev SamePassing : List (ℕ × Binding) → List ℕ → Type 0
  SamePassing entries serials = filter test (picked entries serials) ≡ filter test entries

  behind : (x : ℕ × Binding) (xs : List (ℕ × Binding)) (entry : ℕ × Binding) → Contains xs entry
      → Contains (x ∷ xs) entry
  behind x xs entry there = Contains-append_right (x ∷ []) xs entry there

  at_front : (x : ℕ × Binding) (xs : List (ℕ × Binding)) → Contains (x ∷ xs) x
  at_front x xs = Contains-append_left (x ∷ []) xs x (0, omega arith, refl)

  passes_none : (entries : List (ℕ × Binding)) → Lead entries [] → filter test entries ≡ []
  passes_none [] lead = refl
  passes_none (x ∷ xs) lead =
      elim (test x) as (λ b. test x ≡ b → cond b (x ∷ filter test xs) (filter test xs) ≡ []) [
        | true ↦ λ passes. let has = lead x (at_front x xs) passes in absurd (omega (arith, has.1))
        | false ↦ λ _. passes_none xs (λ entry there. lead entry (behind x xs entry there))
      ] refl

  later_than : (x : ℕ × Binding) (xs : List (ℕ × Binding)) (entry : ℕ × Binding) → IsRising (x.0 + 1) xs high
      → Contains xs entry → x.0 < entry.0
  later_than x xs entry rising there =
      let least = each (λ (other : ℕ × Binding). x.0 + 1 ≤ other.0) xs entry
      (none_below (x.0 + 1) high (x.0 + 1) xs (omega arith) rising) there in omega (arith, least)

  not_before : (x : ℕ × Binding) (xs : List (ℕ × Binding)) (entry : ℕ × Binding) → IsRising (x.0 + 1) xs high
      → Contains (x ∷ xs) entry → x.0 ≤ entry.0
  not_before x xs entry rising there =
      each (λ (other : ℕ × Binding). x.0 ≤ other.0) (x ∷ xs) entry
      (omega arith, none_below (x.0 + 1) high x.0 xs (omega arith) rising) there

  step : (x : ℕ × Binding) (xs : List (ℕ × Binding)) → IsRising (x.0 + 1) xs high
      → ((low : ℕ) (serials : List ℕ) → RiseFrom low serials → Lead xs serials → SamePassing xs serials)
      → (low : ℕ) (serials : List ℕ) → RiseFrom low serials → Lead (x ∷ xs) serials → SamePassing (x ∷ xs) serials
  step x xs rising rest low [] rise lead = sym (passes_none (x ∷ xs) lead)
  step x xs rising rest low (s ∷ ss) rise lead =
      elim (three s x.0) [
        | inl before ↦
            ap (λ ys. filter test (ys ++ picked (x ∷ xs) ss))
            (found_below x.0 high (x ∷ xs) s (omega arith, rising) before)
            ∙ step x xs rising rest (s + 1) ss rise.1 (λ entry there passes.
            in_rest s ss entry.0 (lead entry there passes)
            (let least = not_before x xs entry rising there in omega (arith, least, before)))
        | inr (inl same) ↦
            let at : (x.0 == s) ≡ true = eq-eqb x.0 s (sym same) in
            let all : picked (x ∷ xs) (s ∷ ss) ≡ x ∷ picked xs ss =
            ap (λ b. option_to_list (cond b (Some x) (entry_at xs s)) ++ picked (x ∷ xs) ss) at
            ∙ ap (λ ys. x ∷ ys) (found_later x xs ss
            (above_all x.0 (s + 1) ss (omega (arith, same)) rise.1)) in
            ap (filter test) all
            ∙ ap (λ ys. cond (test x) (x ∷ ys) ys) (rest (s + 1) ss rise.1 (λ entry there passes.
            in_rest s ss entry.0 (lead entry (behind x xs entry there) passes)
            (let later = later_than x xs entry rising there in omega (arith, later, same))))
        | inr (inr after) ↦
            let none : test x ≡ false = elim (cases_Bool (test x)) [
              | inl passes ↦
                  let has = each (λ serial. x.0 + 1 ≤ serial) (s ∷ ss) x.0
                  (from_above s (x.0 + 1) (s ∷ ss) (omega (arith, after)) (omega arith, rise.1))
                  (lead x (at_front x xs) passes) in absurd (omega (arith, has))
              | inr fails ↦ fails
            ] in
            ap (filter test) (found_later x xs (s ∷ ss)
            (above_all x.0 s (s ∷ ss) after (omega arith, rise.1)))
            ∙ rest s (s ∷ ss) (omega arith, rise.1) (λ entry there. lead entry (behind x xs entry there))
            ∙ ap (λ b. cond b (x ∷ filter test xs) (filter test xs)) (sym none)
      ]
    where
      three : (a b : ℕ) → (a < b) ⊎ ((a ≡ b) ⊎ (b < a))
      three a b = grind (arith, nat_tests)

  -- what passes of the entries that are found is all that passes
  pub same_passing : (low : ℕ) (entries : List (ℕ × Binding)) → IsRising low entries high
      → (from : ℕ) (serials : List ℕ) → RiseFrom from serials → Lead entries serials
      → filter test (picked entries serials) ≡ filter test entries
  same_passing low [] rising from serials rise lead = ap (filter test) (found_none serials)
  same_passing low (x ∷ xs) rising from serials rise lead =
      step x xs rising.1 (same_passing (x.0 + 1) xs rising.1) from serials rise lead

-- Serials that a sort without repeats leaves.

less_is : (a b : ℕ) → nat_cmp a b ≡ Less → a < b
less_is a b is = grind (arith, nat_tests, ranked)

pub rises : (low : ℕ) (serials : List ℕ) → AllByRecursion (λ serial. low ≤ serial) serials
    → IsStrictlySortedBy nat_cmp serials → RiseFrom low serials
unfolding IsStrictlySortedBy
rises low [] all sorted = tt
rises low (s ∷ ss) all sorted = (
  all.0,
  rises (s + 1) ss
      (of_each (λ serial. s + 1 ≤ serial) ss (λ serial there.
      let less = less_is s serial (each (λ y. nat_cmp s y ≡ Less) ss serial sorted.0 there) in omega (arith, less)))
      sorted.1,
)

all_above : (serials : List ℕ) → AllByRecursion (λ serial. 0 ≤ serial) serials
all_above [] = tt
all_above (s ∷ ss) = (omega arith, all_above ss)

pub sorted_rises : (serials : List ℕ) → IsSorted nat_cmp serials → RiseFrom 0 (dedup eqb serials)
sorted_rises serials sorted =
    rises 0 (dedup eqb serials) (all_above (dedup eqb serials))
    (sorted_from_strictly_increasing (dedup eqb serials) (IsStrictlyIncreasing-dedup serials sorted))

-- The tree of the names of entries leads to all that match.

named : (tree : PrefixMap) (done entries : List (ℕ × Binding)) → IsIndex pattern_place tree done
    → IsIndex pattern_place (fold with_name tree entries) (done ++ entries)
named tree done [] is = rw (append-nil done) is
named tree done (x ∷ xs) is =
    rw (← append_assoc done (x ∷ []) xs)
    (named (with_name tree x) (done ++ x ∷ []) xs (index_added pattern_place tree done x is))

pub names_lead : (entries : List (ℕ × Binding)) → IsIndex pattern_place (names_in entries) entries
names_lead entries = named finite.empty [] entries (index_empty pattern_place)

pub by_pattern : (held_at : List ℕ → Held) (kind : PatternKind) (key name : List ℕ) (serial : ℕ)
    → matches_by kind key name ≡ true → Contains (serials_of (kind_in_tree kind) (held_at key)) serial
    → Contains (matching_serials held_at name) serial
by_pattern held_at Literal key name serial matched has =
    let equal = bytes_eq-Decides key name in let star = bytes_eq-Decides key (codes "*") in
    let left = Contains-append_left (serials_along held_at name) (held_at (codes "*")).0 serial in
    let right = Contains-append_right (serials_along held_at name) (held_at (codes "*")).0 serial in
    let along = along_has_literal held_at serial name in
    elim (or_cases (same_text key name) (same_text key (codes "*")) matched) [
      | inl same ↦ grind (arith, nat_tests)
      | inr same ↦ grind (arith, nat_tests)
    ]
by_pattern held_at Prefixed key name serial matched has =
    let whole = (starts_is Decides-eqb name key (starts_with nat_eq name key) refl).0 matched in
    let left = Contains-append_left (serials_along held_at name) (held_at (codes "*")).0 serial in
    let along = along_has_prefixed held_at serial key (drop (length key) name) in grind (arith, nat_tests)

-- a pattern that matches the names matches their text
pub on_text : (kind : PatternKind) (key : List ℕ) (names : Names)
    → matches_names (record { kind = kind; name = key }) names ≡ true → matches_by kind key (text_of names) ≡ true
on_text kind key (Exactly name) matched = matched
on_text Literal key (Below start) matched = grind (arith, nat_tests)
on_text Prefixed key (Below start) matched = matched

pub names_lead_to : (tree : PrefixMap) (entries : List (ℕ × Binding)) → IsIndex pattern_place tree entries
    → (target : Target) (entry : ℕ × Binding) → Contains entries entry → is_on target entry ≡ true
    → Contains (matching_serials (held tree) (text_of target.names)) entry.0
names_lead_to tree entries is target entry there on =
    let parts = and_parts (same_resource entry.1.resource target.resource)
    (matches_names entry.1.pattern target.names) on in
    by_pattern (held tree) entry.1.pattern.kind entry.1.pattern.name (text_of target.names) entry.0
    (on_text entry.1.pattern.kind entry.1.pattern.name target.names parts.1)
    (at_its_place pattern_place tree entries entry is there)

-- serials in order, among which are those that match the text of a target's names, lead to all entries on the target
pub all_on : (tree : PrefixMap) (next : ℕ) (entries : List (ℕ × Binding)) → IsIndex pattern_place tree entries
    → IsRising 1 entries next → (target : Target) (serials : List ℕ) → RiseFrom 0 serials
    → ((serial : ℕ) → Contains (matching_serials (held tree) (text_of target.names)) serial → Contains serials serial)
    → filter (is_on target) (picked entries serials) ≡ filter (is_on target) entries
all_on tree next entries is rising target serials rise among =
    same_passing (is_on target) next 1 entries rising 0 serials rise
    (λ entry there on. among entry.0 (names_lead_to tree entries is target entry there on))
