-- Each binding that bears on all that another one does matches that one's name.
use Rattle.std.proofs.Common.{Bool, List, Some, ap, arith, cond, codes, find, map, nat_eq, not, refl, true, false, length, take, get_or, [], ◌&&◌, ◌++◌, ◌+◌, ◌<◌, ◌==◌, ◌∙◌, ◌∷◌, ◌≡◌, ℕ}
use Rattle.std.proofs.lemmas.Bool.{and_from, and_parts}
use Rattle.std.proofs.lemmas.Bool.Decides.{nat_tests}
use Rattle.std.proofs.lemmas.Grind.{common_steps}
use Rattle.std.proofs.lemmas.List.{map-append}
use Rattle.std.proofs.lemmas.List.Elements.{filter_more}
use Rattle.std.specs.List.{filter, starts_with}
use Rattle.std.specs.Option.{option_map}
use Rattle.kob_names.specs.Binding.{Binding, matches_by}
use Rattle.kob_names.specs.Same.{same_permission, same_resource, same_text}
use Rattle.kob_names.specs.declared.kinds.PatternKind.{PatternKind}
use Rattle.kob_names.specs.declared.kinds.PatternKind.TheVariants.{Literal, Prefixed}
use Rattle.kob_names.specs.declared.kinds.Permission.{Permission}
use Rattle.kob_authorizer.specs.Decide.{Contents}
use Rattle.kob_policy_review.specs.Classes.{is_on}
use Rattle.kob_policy_review.specs.Redundancy.{around, bears_on_all, binds_all, first_wider, is_outside, is_wider, reaches_all, takes_all, unused_entry}

takes_name : (wide : PatternKind) (start : List ℕ) (kind : PatternKind) (name : List ℕ)
    → takes_all wide start kind name ≡ true → matches_by wide start name ≡ true
takes_name Literal start Literal name takes = grind (arith, nat_tests)
takes_name Literal start Prefixed name takes = grind (arith, nat_tests)
takes_name Prefixed start Literal name takes =
    (and_parts (not (same_text name (codes "*"))) (starts_with nat_eq name start) takes).1
takes_name Prefixed start Prefixed name takes = takes

wider_is_on : (permission : Permission) (narrow wide : ℕ × Binding) → is_wider permission narrow wide ≡ true
    → is_on (around narrow) wide ≡ true
wider_is_on permission narrow wide is =
    let other = and_parts (not (wide.0 == narrow.0))
    (same_permission wide.1.permission permission && bears_on_all wide.1 narrow.1) is in
    let bears = and_parts (same_permission wide.1.permission permission) (bears_on_all wide.1 narrow.1) other.1 in
    let kind = and_parts (same_resource wide.1.resource narrow.1.resource)
    (takes_all wide.1.pattern.kind wide.1.pattern.name narrow.1.pattern.kind narrow.1.pattern.name
    && (binds_all (codes "User:*") wide.1.principal narrow.1.principal
    && (binds_all (codes "*") wide.1.host narrow.1.host && reaches_all wide.1 narrow.1))) bears.1 in
    let takes = and_parts
    (takes_all wide.1.pattern.kind wide.1.pattern.name narrow.1.pattern.kind narrow.1.pattern.name)
    (binds_all (codes "User:*") wide.1.principal narrow.1.principal
    && (binds_all (codes "*") wide.1.host narrow.1.host && reaches_all wide.1 narrow.1)) kind.1 in
    and_from _ _ kind.0
    (takes_name wide.1.pattern.kind wide.1.pattern.name narrow.1.pattern.kind narrow.1.pattern.name takes.0)

module _ {A : Type 0} (p q : A → Bool) (follows : (x : A) → p x ≡ true → q x ≡ true) where
  -- what is found is found among those that are kept
  find_kept : (xs : List A) → find p (filter q xs) ≡ find p xs
  find_kept [] = refl
  find_kept (x ∷ xs) = by (p x) (q x) refl refl (find_kept xs)
    where
      by : (b c : Bool) → p x ≡ b → q x ≡ c → find p (filter q xs) ≡ find p xs
          → find p (cond c (x ∷ filter q xs) (filter q xs)) ≡ cond b (Some x) (find p xs)
      by true true is kept rest = ap (λ b. cond b (Some x) (find p (filter q xs))) is
      by true false is kept rest = let must = follows x is in absurd (cc)
      by false true is kept rest = ap (λ b. cond b (Some x) (find p (filter q xs))) is ∙ rest
      by false false is kept rest = rest

pub first_near : (entries : List (ℕ × Binding)) (permission : Permission) (entry : ℕ × Binding)
    → first_wider (filter (is_on (around entry)) entries) permission entry ≡ first_wider entries permission entry
first_near entries permission entry =
    ap (option_map (λ (e : ℕ × Binding). e.0))
    (find_kept (is_wider permission entry) (is_on (around entry)) (wider_is_on permission entry) entries)

entry_if : (rules : Contents) (wanted : Bool) (entry : ℕ × Binding)
    → map (unused_entry rules) (cond wanted (entry ∷ []) []) ≡ cond wanted (unused_entry rules entry ∷ []) []
entry_if rules true entry = refl
entry_if rules false entry = refl

pub one_more_outside : (rules : Contents) (test : ℕ → Bool) (entries : List (ℕ × Binding)) (i : ℕ) (d : ℕ × Binding)
    → i < length entries
    → map (unused_entry rules) (filter (is_outside test) (take (i + 1) entries))
    ≡ map (unused_entry rules) (filter (is_outside test) (take i entries))
    ++ cond (is_outside test (get_or entries i d)) (unused_entry rules (get_or entries i d) ∷ []) []
one_more_outside rules test entries i d below =
    ap (map (unused_entry rules)) (filter_more (is_outside test) entries i d below)
    ∙ map-append (unused_entry rules) (filter (is_outside test) (take i entries)) _
    ∙ ap (λ t. map (unused_entry rules) (filter (is_outside test) (take i entries)) ++ t)
    (entry_if rules (is_outside test (get_or entries i d)) (get_or entries i d))

pub ruleset first_around = (common_steps, first_near)

pub ruleset outside_more = (common_steps, one_more_outside)
