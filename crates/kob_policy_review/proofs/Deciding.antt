-- What decides an answer, and when one binding alone is needed for it.
use Rattle.std.proofs.Common.{Bool, Contains, List, Option, Some, None, true, false, not, cond, codes, is_some, sym, ap, refl, [], ◌∷◌, ◌&&◌, ◌||◌, ◌≡◌, ◌∙◌, ℕ}
use Rattle.std.specs.List.{filter, list_any}
use Rattle.kob_names.specs.Binding.{Binding, is_granted, matches, reaches}
use Rattle.kob_names.specs.Same.{same_permission, same_resource, same_text}
use Rattle.kob_names.specs.declared.kinds.Operation.{Operation}
use Rattle.kob_names.specs.declared.kinds.Permission.{Permission}
use Rattle.kob_names.specs.declared.kinds.Permission.TheVariants.{Allow, Deny}
use Rattle.kob_authorizer.specs.Decide.{Contents, Question, first_serial, is_hit, is_match, is_super, unless_open, verdict_of}
use Rattle.kob_policy_review.proofs.Standing.{any_alike, any_kept}
use Rattle.kob_policy_review.specs.Alike.{is_yes}
use Rattle.kob_policy_review.specs.Classes.{covers_party, is_for, is_met, is_on}
use Rattle.kob_policy_review.specs.declared.class.Target.{Target}

-- An answer is yes for a super user; else where nothing denies, and something allows or all is open.

abbrev pub granted : Bool → Bool → Bool → Bool → Bool
granted super denied allowed opened = super || (not denied && (allowed || opened))

granted_by : (super : Bool) (deny allow : Option ℕ) (opened : Bool)
    → is_granted (unless_open opened (verdict_of super deny allow))
    ≡ granted super (is_some deny) (is_some allow) opened
granted_by true deny allow true = refl
granted_by true deny allow false = refl
granted_by false (Some deny) allow true = refl
granted_by false (Some deny) allow false = refl
granted_by false None (Some allow) true = refl
granted_by false None (Some allow) false = refl
granted_by false None None true = refl
granted_by false None None false = refl

abbrev pub some_of : {A : Type 0} → List A → Bool
some_of [] = false
some_of (x ∷ xs) = true

pub any_some : {A : Type 0} (p : A → Bool) (xs : List A) → list_any p xs ≡ some_of (filter p xs)
any_some p [] = refl
any_some p (x ∷ xs) =
    elim (p x) as (λ b. (b || list_any p xs) ≡ some_of (cond b (x ∷ filter p xs) (filter p xs))) [
      | true ↦ refl
      | false ↦ any_some p xs
    ]

first_some : (xs : List (ℕ × Binding)) → is_some (first_serial xs) ≡ some_of xs
first_some [] = refl
first_some (x ∷ xs) = refl

pub yes_is : (rules : Contents) (question : Question)
    → is_yes rules question ≡ granted (is_super rules.supers question.principal)
    (list_any (is_hit Deny question) rules.entries) (list_any (is_hit Allow question) rules.entries)
    (rules.everyone && not (list_any (is_match question) rules.entries))
yes_is rules question =
    granted_by (is_super rules.supers question.principal) (first_serial (filter (is_hit Deny question) rules.entries))
    (first_serial (filter (is_hit Allow question) rules.entries))
    (rules.everyone && not (list_any (is_match question) rules.entries))
    ∙ ap (λ d. granted (is_super rules.supers question.principal) d
    (is_some (first_serial (filter (is_hit Allow question) rules.entries)))
    (rules.everyone && not (list_any (is_match question) rules.entries)))
    (first_some (filter (is_hit Deny question) rules.entries) ∙ sym (any_some (is_hit Deny question) rules.entries))
    ∙ ap (λ a. granted (is_super rules.supers question.principal) (list_any (is_hit Deny question) rules.entries) a
    (rules.everyone && not (list_any (is_match question) rules.entries)))
    (first_some (filter (is_hit Allow question) rules.entries) ∙ sym (any_some (is_hit Allow question) rules.entries))

-- The answer of a class: only the bindings on its names that cover its principal count.

abbrev pub yes_in : Bool → Bool → List (ℕ × Binding) → Option (List ℕ) → Option (List ℕ) → Operation → Bool
yes_in super everyone matching principal host operation =
    granted super (some_of (filter (is_met Deny host operation) (filter (is_for principal) matching)))
    (some_of (filter (is_met Allow host operation) (filter (is_for principal) matching)))
    (everyone && not (some_of matching))

-- what is named covers what is asked alike
abbrev pub covers_text : List ℕ → List ℕ → List ℕ → Bool
covers_text all bound text = same_text bound text || same_text bound all

-- the class stands for the question among some entries
pub record Stands (entries : List (ℕ × Binding)) (question : Question) (target : Target)
    (principal host : Option (List ℕ)) : Type 0 where
  pub on : (entry : ℕ × Binding) → Contains entries entry → is_on target entry ≡ is_match question entry
  pub asks : (entry : ℕ × Binding) → Contains entries entry → is_on target entry ≡ true
      → is_for principal entry ≡ covers_text (codes "User:*") entry.1.principal question.principal
  pub from : (entry : ℕ × Binding) → Contains entries entry → is_on target entry ≡ true
      → is_for principal entry ≡ true
      → covers_party (codes "*") entry.1.host host ≡ covers_text (codes "*") entry.1.host question.host

hit_bools : (permission resource name who where_from reach on for_who at : Bool)
    → on ≡ (resource && name) → (on ≡ true → for_who ≡ who) → (on ≡ true → for_who ≡ true → at ≡ where_from)
    → (permission && (resource && (name && ((who && where_from) && reach))))
    ≡ (on && (for_who && (permission && (at && reach))))
hit_bools permission false name who where_from reach on for_who at is asks from =
    rw is (elim permission as (λ b. (b && false) ≡ false) [ true ↦ refl | false ↦ refl ])
hit_bools permission true false who where_from reach on for_who at is asks from =
    rw is (elim permission as (λ b. (b && false) ≡ false) [ true ↦ refl | false ↦ refl ])
hit_bools permission true true false where_from reach on for_who at is asks from =
    rw (is, asks is) (elim permission as (λ b. (b && false) ≡ false) [ true ↦ refl | false ↦ refl ])
hit_bools permission true true true where_from reach on for_who at is asks from =
    rw (is, asks is, from is (asks is)) refl

pub granted_same : (super denied denied' allowed allowed' everyone matched matched' : Bool) → denied ≡ denied'
    → allowed ≡ allowed' → matched ≡ matched'
    → granted super denied allowed (everyone && not matched)
    ≡ granted super denied' allowed' (everyone && not matched')
granted_same super denied denied' allowed allowed' everyone matched matched' d a m = cc

module _ (question : Question) (target : Target) (principal host : Option (List ℕ)) where
  pub hit_is : (entries : List (ℕ × Binding)) → Stands entries question target principal host
      → (permission : Permission)
      (entry : ℕ × Binding) → Contains entries entry
      → is_hit permission question entry
      ≡ (is_on target entry && (is_for principal entry && is_met permission host question.operation entry))
  hit_is entries stands permission entry there =
      hit_bools (same_permission entry.1.permission permission) (same_resource entry.1.resource question.resource)
      (matches entry.1.pattern question.name) (covers_text (codes "User:*") entry.1.principal question.principal)
      (covers_text (codes "*") entry.1.host question.host)
      (reaches permission entry.1.operation question.operation) (is_on target entry) (is_for principal entry)
      (covers_party (codes "*") entry.1.host host) (stands.on entry there) (stands.asks entry there)
      (stands.from entry there)

  pub hits_are : (entries : List (ℕ × Binding)) → Stands entries question target principal host
      → (permission : Permission)
      → list_any (is_hit permission question) entries
      ≡ some_of (filter (is_met permission host question.operation)
      (filter (is_for principal) (filter (is_on target) entries)))
  hits_are entries stands permission =
      any_alike (is_hit permission question)
      (λ entry. is_on target entry && (is_for principal entry && is_met permission host question.operation entry))
      entries (hit_is entries stands permission)
      ∙ sym (any_kept (is_on target)
      (λ entry. is_for principal entry && is_met permission host question.operation entry) entries)
      ∙ sym (any_kept (is_for principal) (is_met permission host question.operation) (filter (is_on target) entries))
      ∙ any_some (is_met permission host question.operation)
      (filter (is_for principal) (filter (is_on target) entries))

  -- a question is answered as the class that stands for it
  pub answered_as : (rules : Contents) → Stands rules.entries question target principal host
      → is_yes rules question ≡ yes_in (is_super rules.supers question.principal) rules.everyone
      (filter (is_on target) rules.entries) principal host question.operation
  answered_as rules stands =
      let d = hits_are rules.entries stands Deny in
      let a = hits_are rules.entries stands Allow in
      let m : list_any (is_match question) rules.entries ≡ some_of (filter (is_on target) rules.entries) =
      any_alike (is_match question) (is_on target) rules.entries (λ entry there. sym (stands.on entry there))
      ∙ any_some (is_on target) rules.entries in
      yes_is rules question ∙ granted_same (is_super rules.supers question.principal) _ _ _ _ rules.everyone _ _ d a m
