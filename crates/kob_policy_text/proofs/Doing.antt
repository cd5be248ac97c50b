-- What commands do to the bindings in force.
use Rattle.std.proofs.Common.{◌≡◌, ◌⊎◌, ◌∙◌, ◌∷◌, ◌++◌, ◌&&◌, ◌||◌, ℕ, Bool, Contains, List, [], true, not, sym, subst, ap, refl, arith, inl, inr, Some, length, ◌==◌}
use Rattle.std.proofs.lemmas.Bool.{both_ways, cases_Bool, false_from_ne_true, not_from_false, not-true}
use Rattle.std.proofs.lemmas.List.Elements.{Contains-append_cases, Contains-append_left, Contains-append_right}
use Rattle.std.specs.List.{filter, fold, list_any}
use Rattle.kob_names.proofs.SameBindings.{same_binding_decides}
use Rattle.kob_names.specs.Binding.{Binding, same_binding, same_pattern}
use Rattle.kob_authorizer.proofs.Entries.{any_passes, at_head, kept_by_filter, passing, was_kept}
use Rattle.kob_policy_review.proofs.Deciding.{any_some, some_of}
use Rattle.std.proofs.lemmas.Bool.Decides.{nat_tests}
use Rattle.kob_names.specs.Filter.{takes, takes_pattern}
use Rattle.kob_names.specs.Same.{same_operation, same_pattern_kind, same_permission, same_resource, same_text}
use Rattle.kob_names.specs.declared.kinds.PatternKind.{PatternKind}
use Rattle.kob_names.specs.declared.kinds.PatternKind.TheVariants.{Literal, Prefixed}
use Rattle.kob_policy_review.proofs.Standing.{first_or_rest}
use Rattle.kob_policy_text.specs.Steps.{exactly, is_among, pattern_of, with_step}
use Rattle.kob_policy_text.specs.declared.commands.Step.{Step}
use Rattle.kob_policy_text.specs.declared.commands.Step.TheVariants.{Add, Remove}

abbrev pub Entries : Type 0
Entries = List (ℕ × Binding)

-- a binding is in force, under some serial
abbrev pub Has : Entries → Binding → Type 0
Has entries binding = (entry : ℕ × Binding) × (Contains entries entry × (entry.1 ≡ binding))

pub among_has : (entries : Entries) (binding : Binding) → is_among entries binding ≡ true → Has entries binding
among_has entries binding is =
    let (entry, (there, same)) = passing (λ (other : ℕ × Binding). same_binding binding other.1) entries is in
    (entry, (there, sym ((same_binding_decides binding entry.1).0 same)))

pub has_among : (entries : Entries) (binding : Binding) → Has entries binding → is_among entries binding ≡ true
has_among entries binding (entry, (there, is)) =
    any_passes (λ (other : ℕ × Binding). same_binding binding other.1) entries entry there
    ((same_binding_decides binding entry.1).1 (sym is))

pub cases_has : (entries : Entries) (binding : Binding) → Has entries binding ⊎ ¬ Has entries binding
cases_has entries binding =
    elim (cases_Bool (is_among entries binding)) [
      | inl is ↦ inl (among_has entries binding is)
      | inr not_it ↦ inr (λ has. both_ways (is_among entries binding) not_it (has_among entries binding has))
    ]

-- Parts of what is done.

module _ {A : Type 0} where
  heads : (x y : A) (xs ys : List A) → x ∷ xs ≡ y ∷ ys → x ≡ y
  heads x y xs ys same = cc

  tails : (x y : A) (xs ys : List A) → x ∷ xs ≡ y ∷ ys → xs ≡ ys
  tails x y xs ys same = cc

  cons_same : (x y : A) (xs ys : List A) → x ≡ y → xs ≡ ys → x ∷ xs ≡ y ∷ ys
  cons_same x y xs ys first rest = cc

  -- what is done of two lists is a part of the first, or the first and a part of the second
  pub parted : (done left first second : List A) → done ++ left ≡ first ++ second
      → ((more : List A) × (done ++ more ≡ first))
      ⊎ ((more : List A) × ((done ≡ first ++ more) × (more ++ left ≡ second)))
  parted done left [] second is = inr (done, (refl, is))
  parted [] left (x ∷ first) second is = inl (x ∷ first, refl)
  parted (y ∷ done) left (x ∷ first) second is =
      let head = heads y x (done ++ left) (first ++ second) is in
      elim (parted done left first second (tails y x (done ++ left) (first ++ second) is)) [
        | inl (more, same) ↦ inl (more, cons_same y x (done ++ more) first head same)
        | inr (more, (same, rest)) ↦ inr (more, (cons_same y x done (first ++ more) head same, rest))
      ]

-- What commands do.

abbrev pub after_steps : Entries → List Step → Entries
after_steps entries done = fold with_step entries done

added_or_there : (entries : Entries) (binding other : Binding) → Has (entries ++ (0, binding) ∷ []) other
    → Has entries other ⊎ (binding ≡ other)
added_or_there entries binding other (entry, (there, is)) =
    elim (Contains-append_cases entries ((0, binding) ∷ []) entry there) [
      | inl before ↦ inl (entry, (before, is))
      | inr last ↦
          elim (first_or_rest (0, binding) [] entry last) [
            | inl same ↦ inr (ap (λ (one : ℕ × Binding). one.1) same ∙ is)
            | inr nothing ↦ absurd (omega (arith, nothing.1))
          ]
    ]

abbrev is_other : Binding → ℕ × Binding → Bool
is_other binding entry = not (same_binding binding entry.1)

left_there : (entries : Entries) (binding other : Binding) → Has (filter (is_other binding) entries) other
    → Has entries other × ¬ (binding ≡ other)
left_there entries binding other (entry, (there, is)) =
    let (was, passes) = was_kept (is_other binding) entries entry there in (
      (entry, (was, is)),
      λ same. both_ways (same_binding binding entry.1) (not-true _ passes)
          ((same_binding_decides binding entry.1).1 (same ∙ sym is)),
    )

there_left : (entries : Entries) (binding other : Binding) → Has entries other → ¬ (binding ≡ other)
    → Has (filter (is_other binding) entries) other
there_left entries binding other (entry, (there, is)) apart = (
  entry,
  (
    kept_by_filter (is_other binding) entries entry there
        (not_from_false _ (false_from_ne_true (same_binding binding entry.1)
        (λ same. apart ((same_binding_decides binding entry.1).0 same ∙ is)))),
    is,
  ),
)

pub later : (first : Step) (done : List Step) (step : Step) → ¬ Contains (first ∷ done) step → ¬ Contains done step
later first done step none there = none (Contains-append_right (first ∷ []) done step there)

-- a binding that is in force was before, or was added
pub from_either : (entries : Entries) (done : List Step) (binding : Binding) → Has (after_steps entries done) binding
    → Has entries binding ⊎ Contains done (Add binding)
from_either entries [] binding has = inl has
from_either entries (Add one ∷ done) binding has =
    elim (from_either (entries ++ (0, one) ∷ []) done binding has) [
      | inl there ↦
          elim (added_or_there entries one binding there) [
            | inl before ↦ inl before
            | inr same ↦ inr (subst (λ (b : Binding). Contains (Add one ∷ done) (Add b)) same
                (at_head (Add one) done))
          ]
      | inr after ↦ inr (Contains-append_right (Add one ∷ []) done (Add binding) after)
    ]
from_either entries (Remove one ∷ done) binding has =
    elim (from_either (filter (is_other one) entries) done binding has) [
      | inl there ↦ inl (left_there entries one binding there).0
      | inr after ↦ inr (Contains-append_right (Remove one ∷ []) done (Add binding) after)
    ]

-- what is not removed stays
pub stays : (entries : Entries) (done : List Step) (binding : Binding) → Has entries binding
    → ¬ Contains done (Remove binding)
    → Has (after_steps entries done) binding
stays entries [] binding has kept = has
stays entries (Add one ∷ done) binding (entry, (there, is)) kept =
    stays (entries ++ (0, one) ∷ []) done binding
    (entry, (Contains-append_left entries ((0, one) ∷ []) entry there, is))
    (later (Add one) done (Remove binding) kept)
stays entries (Remove one ∷ done) binding has kept =
    stays (filter (is_other one) entries) done binding
    (there_left entries one binding has
    (λ same. kept (subst (λ (b : Binding). Contains (Remove one ∷ done) (Remove b)) same
    (at_head (Remove one) done))))
    (later (Remove one) done (Remove binding) kept)

-- what is added and not removed is in force
pub comes : (entries : Entries) (done : List Step) (binding : Binding) → Contains done (Add binding)
    → ¬ Contains done (Remove binding) → Has (after_steps entries done) binding
comes entries [] binding there kept = absurd (omega (arith, there.1))
comes entries (Add one ∷ done) binding there kept =
    elim (first_or_rest (Add one) done (Add binding) there) [
      | inl same ↦
          stays (entries ++ (0, one) ∷ []) done binding (
            (0, one),
            (
              Contains-append_right entries ((0, one) ∷ []) (0, one) (at_head (0, one) []),
              one_is one binding same,
            ),
          )
          (later (Add one) done (Remove binding) kept)
      | inr more ↦ comes (entries ++ (0, one) ∷ []) done binding more (later (Add one) done (Remove binding) kept)
    ]
  where
    one_is : (one other : Binding) → Add one ≡ Add other → one ≡ other
    one_is one other same = cc
comes entries (Remove one ∷ done) binding there kept =
    elim (first_or_rest (Remove one) done (Add binding) there) [
      | inl same ↦ absurd cc
      | inr more ↦
          comes (filter (is_other one) entries) done binding more (later (Remove one) done (Remove binding) kept)
    ]

-- what is removed and not added is gone
pub goes : (entries : Entries) (done : List Step) (binding : Binding) → Contains done (Remove binding)
    → ¬ Contains done (Add binding) → ¬ Has (after_steps entries done) binding
goes entries [] binding there none has = omega (arith, there.1)
goes entries (Add one ∷ done) binding there none has =
    elim (first_or_rest (Add one) done (Remove binding) there) [
      | inl same ↦ absurd cc
      | inr more ↦ goes (entries ++ (0, one) ∷ []) done binding more (later (Add one) done (Add binding) none) has
    ]
goes entries (Remove one ∷ done) binding there none has =
    elim (first_or_rest (Remove one) done (Remove binding) there) [
      | inl same ↦
          elim (from_either (filter (is_other one) entries) done binding has) [
            | inl stayed ↦ (left_there entries one binding stayed).1 (one_is one binding same)
            | inr added ↦ later (Remove one) done (Add binding) none added
          ]
      | inr more ↦ goes (filter (is_other one) entries) done binding more (later (Remove one) done (Add binding) none)
          has
    ]
  where
    one_is : (one other : Binding) → Remove one ≡ Remove other → one ≡ other
    one_is one other same = cc

-- A filter that takes equal bindings alone.

kind_taken : (kind other : PatternKind) (name text : List ℕ)
    → takes_pattern (pattern_of kind) (Some name) (record { kind = other; name = text })
    ≡ (same_pattern_kind kind other && same_text name text)
kind_taken Literal Literal name text = refl
kind_taken Literal Prefixed name text = refl
kind_taken Prefixed Literal name text = refl
kind_taken Prefixed Prefixed name text = refl

in_order : (resource pattern principal host operation permission : Bool)
    → (((((resource && pattern) && principal) && host) && operation) && permission)
    ≡ (permission && (principal && (host && (operation && (resource && pattern)))))
in_order resource pattern principal host operation permission = grind (arith, nat_tests)

takes_exactly : (binding : Binding) (other : Binding) → takes (exactly binding) other ≡ same_binding binding other
takes_exactly binding other =
    ap (λ (pattern : Bool). ((((same_resource binding.resource other.resource && pattern)
    && same_text binding.principal other.principal) && same_text binding.host other.host)
    && same_operation binding.operation other.operation) && same_permission binding.permission other.permission)
    (kind_taken binding.pattern.kind other.pattern.kind binding.pattern.name other.pattern.name)
    ∙ in_order (same_resource binding.resource other.resource) (same_pattern binding.pattern other.pattern)
    (same_text binding.principal other.principal) (same_text binding.host other.host)
    (same_operation binding.operation other.operation) (same_permission binding.permission other.permission)

taken_alike : (entries : Entries) (binding : Binding)
    → list_any (λ (entry : ℕ × Binding). takes (exactly binding) entry.1) entries ≡ is_among entries binding
taken_alike [] binding = refl
taken_alike (entry ∷ entries) binding =
    ap (λ (b : Bool). b || list_any (λ (one : ℕ × Binding). takes (exactly binding) one.1) entries)
    (takes_exactly binding entry.1)
    ∙ ap (λ (b : Bool). same_binding binding entry.1 || b) (taken_alike entries binding)

some_counted : (entries : Entries) (count : ℕ) → count ≡ length entries → some_of entries ≡ not (count == 0)
some_counted [] count is = grind (arith, nat_tests)
some_counted (entry ∷ entries) count is = grind (arith, nat_tests)

pub found_among : (entries found : Entries) (binding : Binding) (count : ℕ)
    → found ≡ filter (λ (entry : ℕ × Binding). takes (exactly binding) entry.1) entries → count ≡ length found
    → is_among entries binding ≡ not (count == 0)
found_among entries found binding count is counts =
    sym (taken_alike entries binding)
    ∙ any_some (λ (entry : ℕ × Binding). takes (exactly binding) entry.1) entries
    ∙ ap some_of (sym is) ∙ some_counted found count counts
