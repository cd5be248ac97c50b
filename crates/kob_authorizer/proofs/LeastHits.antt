-- The least serial that passes, among serials that lead to every entry that passes, is that of the first entry that
-- passes.
use Rattle.kob_authorizer.proofs.Words.{All, All-head, All-nil, All-tail, All-weaker, AreRising, Binding, Bool, Contains, List, None, Some, [], and_from, ap, append-nil, arith, cond, eq-eqb, false, filter, filter-append, filter_passes, first_serial, fold, fold-append, le-min, least_passing, lesser, min, min-le_left, min-le_right, nat_tests, passes_at, reduce, refl, subst, true, ℕ, ◌&&◌, ◌++◌, ◌==◌, ◌∙◌, ◌∷◌, ◌≡◌, ◌≤◌, Hits, Question, append_assoc, least_hits, lesser_hits, no_hits, sym, then_some, common_steps}
use Rattle.kob_authorizer.specs.Decide.{is_hit}
use Rattle.kob_authorizer.specs.Index.{entry_at, matching_serials, serials_from}
use Rattle.kob_prefix_tree.specs.Held.{Held, nothing, prefixes, serials_of}
use Rattle.kob_prefix_tree.specs.declared.kind.PatternKind.TheVariants.{Prefixed}
use Rattle.std.specs.List.{flat_map}
use Rattle.kob_names.specs.declared.kinds.Permission.{Permission}
use Rattle.kob_names.specs.declared.kinds.Permission.TheVariants.{Allow, Deny}
use Rattle.kob_authorizer.proofs.Entries.{any_passes, kept_by_filter, passing, first_is, least_is, none_is, passes_none, passes_some}

fold_at_most : (x : ℕ) (xs : List ℕ) → fold min x xs ≤ x
fold_at_most x [] = omega arith
fold_at_most x (y ∷ ys) = grind (arith, nat_tests, fold_at_most (min x y) ys, min-le_left)

-- the least is at most each
fold_least : (x : ℕ) (xs : List ℕ) → All (λ y. fold min x xs ≤ y) xs
fold_least x [] = All-nil (λ y. x ≤ y)
fold_least x (z ∷ zs) = grind (arith, nat_tests, fold_at_most, min-le_right, fold_least (min x z) zs)

-- and not below what is at most each
fold_not_below : (low x : ℕ) (xs : List ℕ) → low ≤ x → All (λ y. low ≤ y) xs → low ≤ fold min x xs
fold_not_below low x [] le all = le
fold_not_below low x (z ∷ zs) le all =
    fold_not_below low (min x z) zs (le-min le (All-head (λ y. low ≤ y) z zs all)) (All-tail (λ y. low ≤ y) z zs all)

least_among : (low : ℕ) (xs : List ℕ) → Contains xs low → All (λ y. low ≤ y) xs → reduce min xs ≡ Some low
least_among low [] has all = absurd (omega (arith, has.1))
least_among low (x ∷ xs) has all =
    let at_most : fold min x xs ≤ low = grind (arith, nat_tests, fold_at_most, fold_least) in
    grind (arith, nat_tests, fold_not_below low x xs, All-head (λ y. low ≤ y) x xs all, All-tail (λ y. low ≤ y) x xs all)

-- the least of a list and of one more
least_with : (x y : ℕ) (ys : List ℕ) → min x (fold min y ys) ≡ fold min (min x y) ys
least_with x y [] = refl
least_with x y (z ∷ zs) = grind (arith, nat_tests, least_with x (min y z) zs)

none_kept : (test : ℕ → Bool) (xs : List ℕ) → ((x : ℕ) → test x ≡ false) → filter test xs ≡ []
none_kept test [] none = refl
none_kept test (x ∷ xs) none = ap (λ b. cond b (x ∷ filter test xs) (filter test xs)) (none x) ∙ none_kept test xs none

module _ (test : ℕ × Binding → Bool) where
  -- a serial that passes is that of an entry that does
  of_serial : (entries : List (ℕ × Binding)) (serial : ℕ) → passes_at test entries serial ≡ true
      → (entry : ℕ × Binding) × ((Contains entries entry × (test entry ≡ true)) × (entry.0 ≡ serial))
  of_serial entries serial passes =
      let it = passing (λ (e : ℕ × Binding). (e.0 == serial) && test e) entries passes in grind (arith, nat_tests)

  -- serials that lead to every entry that passes
  abbrev pub LeadToAll : List (ℕ × Binding) → List ℕ → Type 0
  LeadToAll entries serials =
      (entry : ℕ × Binding) → Contains entries entry → test entry ≡ true → Contains serials entry.0

  pub least_is_first : (entries : List (ℕ × Binding)) (serials : List ℕ) → AreRising entries
      → LeadToAll entries serials → least_passing test entries serials ≡ first_serial (filter test entries)
  least_is_first entries serials rising lead =
      let among : ℕ → Bool = passes_at test entries in
      elim (first_serial (filter test entries)) as
      (λ o. first_serial (filter test entries) ≡ o → reduce min (filter among serials) ≡ o) [
        | None ↦ λ none. ap (reduce min) (none_kept among serials (λ serial.
            elim (among serial) as (λ b. among serial ≡ b → b ≡ false) [
              | true ↦ λ passes.
                  let (entry, (kept, _)) = of_serial entries serial passes in
                  absurd (none_is test entries none entry kept.0 kept.1)
              | false ↦ λ _. refl
            ] refl))
        | Some serial ↦ λ found.
            let (entry, (kept, is)) = first_is test entries serial found in
            least_among serial (filter among serials)
            (kept_by_filter among serials serial (subst (Contains serials) is (lead entry kept.0 kept.1))
            (any_passes (λ (e : ℕ × Binding). (e.0 == serial) && test e) entries entry kept.0
            (and_from _ _ (eq-eqb entry.0 serial is) kept.1)))
            (All-weaker (λ x. among x ≡ true) (λ x. serial ≤ x) (λ x passes.
            let (other, (kept, at)) = of_serial entries x passes in
            subst (λ n. serial ≤ n) at (least_is test entries serial found 0 rising.0 rising.1 other kept.0 kept.1))
            (filter among serials) (filter_passes among serials))
      ] refl

  -- of two lists of serials the least is the lesser of their least
  pub least_of_two : (entries : List (ℕ × Binding)) (xs ys : List ℕ)
      → lesser (least_passing test entries xs) (least_passing test entries ys) ≡ least_passing test entries (xs ++ ys)
  least_of_two entries xs ys = grind (arith, nat_tests, filter-append, append-nil, least_with, fold-append)

-- The least hits of some serials, one by one and list by list.

-- a serial alone is the least that passes, if it does
pub passes_alone : (test : ℕ × Binding → Bool) (entries : List (ℕ × Binding)) (serial : ℕ) (passes : Bool)
    → passes ≡ passes_at test entries serial → then_some passes serial ≡ least_passing test entries (serial ∷ [])
passes_alone test entries serial passes is = grind (arith, nat_tests)

module _ (entries : List (ℕ × Binding)) (question : Question) where
  -- of two lists of serials the least hits are the lesser of theirs
  pub hits_of_two : (xs ys : List ℕ)
      → lesser_hits (least_hits entries question xs) (least_hits entries question ys)
      ≡ least_hits entries question (xs ++ ys)
  hits_of_two xs ys = grind (arith, nat_tests, least_of_two)

  -- with one more serial looked at
  abbrev pub with_serial : Hits → ℕ → Hits
  with_serial so_far serial = lesser_hits so_far (least_hits entries question (serial ∷ []))

  hits_from : (done xs : List ℕ)
      → fold with_serial (least_hits entries question done) xs ≡ least_hits entries question (done ++ xs)
  hits_from done [] = ap (least_hits entries question) (sym (append-nil done))
  hits_from done (x ∷ xs) =
      ap (λ so_far. fold with_serial so_far xs) (hits_of_two done (x ∷ []))
      ∙ hits_from (done ++ x ∷ []) xs ∙ ap (least_hits entries question) (append_assoc done (x ∷ []) xs)

  -- serial after serial the least hits come together
  pub one_by_one : (xs : List ℕ) → fold with_serial no_hits xs ≡ least_hits entries question xs
  one_by_one xs = hits_from [] xs

-- what a serial alone hits with, if its entry is found
pub hit_of : (question : Question) (entries : List (ℕ × Binding)) (serial : ℕ) (entry : ℕ × Binding) → AreRising entries
    → Some entry ≡ entry_at entries serial
    → record { deny = then_some (is_hit Deny question entry) serial; allow = then_some (is_hit Allow question entry) serial }
    ≡ least_hits entries question (serial ∷ [])
hit_of question entries serial entry rising found = λ i. record { deny = of Deny i; allow = of Allow i }
  where
    of : (permission : Permission) → then_some (is_hit permission question entry) serial
        ≡ least_passing (is_hit permission question) entries (serial ∷ [])
    of permission = passes_alone (is_hit permission question) entries serial (is_hit permission question entry)
        (passes_some (is_hit permission question) entries serial entry rising found)

-- a binding is a hit of its own permission alone
pub no_deny : (question : Question) (entry : ℕ × Binding) → entry.1.permission ≡ Allow → is_hit Deny question entry ≡ false
no_deny question entry is = grind (arith, nat_tests)

pub no_allow : (question : Question) (entry : ℕ × Binding) → entry.1.permission ≡ Deny → is_hit Allow question entry ≡ false
no_allow question entry is = grind (arith, nat_tests)

pub ruleset one_hit = (common_steps, passes_alone, passes_none, passes_some)

-- none passes where the last of the tests does not
pub none_reached : (a b c d : Bool) → a && (b && (c && (d && false))) ≡ false
none_reached a b c d = grind (arith, nat_tests)

-- Where no key stands, there is no hit.
nothing_along : (names : List (List ℕ)) → flat_map (λ (name : List ℕ). serials_of Prefixed nothing) names ≡ []
nothing_along [] = refl
nothing_along (name ∷ names) = nothing_along names

module _ (entries : List (ℕ × Binding)) (question : Question) (held_at : List ℕ → Held) (absent : held_at ≡ (λ key. nothing)) where
  pub no_hits_at : no_hits ≡ least_hits entries question (matching_serials held_at question.name)
  no_hits_at = rw (absent, nothing_along (prefixes question.name)) refl

  pub no_hits_from : no_hits ≡ least_hits entries question (serials_from held_at question)
  no_hits_from = rw (absent, nothing_along (prefixes question.name)) refl
