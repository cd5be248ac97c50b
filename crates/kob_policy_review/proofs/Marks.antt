-- A class stands for its representative, and for each question on its names.
use Rattle.std.proofs.Common.{Contains, List, Option, Some, None, true, codes, map, sym, subst, ap, refl, arith, inl, inr, sum, [], ◌∷◌, ◌++◌, ◌≡◌, ◌≢◌, ◌≤◌, ◌<◌, ◌∙◌, ℕ}
use Rattle.std.proofs.lemmas.List.Elements.{Contains-append_cases}
use Rattle.std.proofs.lemmas.List.Sums.{get_or-le-sum_by}
use Rattle.std.proofs.lemmas.Slice.Eq.{bytes_eq-Decides}
use Rattle.std.specs.List.{list_any, sum_by}
use Rattle.kob_names.proofs.SameBindings.{operation_decides}
use Rattle.kob_names.specs.Binding.{Binding, matches, matches_by}
use Rattle.kob_names.specs.Same.{same_operation, same_text}
use Rattle.kob_names.specs.declared.kinds.Operation.{Operation}
use Rattle.kob_names.specs.declared.kinds.Operation.TheVariants.{All}
use Rattle.kob_names.specs.declared.kinds.PatternKind.{PatternKind}
use Rattle.kob_names.specs.declared.kinds.PatternKind.TheVariants.{Literal, Prefixed}
use Rattle.kob_names.specs.declared.kinds.ResourceKind.{ResourceKind}
use Rattle.kob_names.specs.declared.kinds.ResourceKind.TheVariants.{Topic, Group, Cluster, TransactionalId}
use Rattle.kob_names.specs.declared.pattern.Pattern.{Pattern}
use Rattle.kob_authorizer.proofs.Entries.{any_passes, each, given_by, passing}
use Rattle.kob_authorizer.specs.Decide.{Question, is_super}
use Rattle.kob_policy_review.proofs.Deciding.{Stands, covers_text}
use Rattle.kob_policy_review.proofs.Standing.{and_same, covers_same, on_for, party_for, target_for}
use Rattle.kob_policy_review.proofs.Texts.{no_mark, same_when, starts_marked}
use Rattle.kob_policy_review.specs.Alike.{IsAskable, weight}
use Rattle.kob_policy_review.specs.Classes.{covers_party, is_for, is_on, matches_below, matches_names, names_text, open_targets, operations, party_text, representative, target_by, target_of, targets, the_cluster}
use Rattle.kob_policy_review.specs.Needed.{is_super_party}
use Rattle.kob_policy_review.specs.declared.class.Class.{Class}
use Rattle.kob_policy_review.specs.declared.class.Names.{Names}
use Rattle.kob_policy_review.specs.declared.class.Names.TheVariants.{Exactly, Below}
use Rattle.kob_policy_review.specs.declared.class.Target.{Target}

pub in_sum : {A : Type 0} (f : A → ℕ) (xs : List A) (x : A) → Contains xs x → f x ≤ sum_by f xs
in_sum f xs x there =
    subst (λ y. f y ≤ sum_by f xs) there.2 (get_or-le-sum_by f xs there.0 x there.1)

below_marked : (mark : ℕ) (kind : PatternKind) (bound start : List ℕ) → sum bound < mark
    → matches_below kind bound start ≡ matches_by kind bound (start ++ mark ∷ [])
below_marked mark Literal bound start low = rw (no_mark mark bound start low) refl
below_marked mark Prefixed bound start low = sym (starts_marked mark start bound low)

names_marked : (mark : ℕ) (pattern : Pattern) (names : Names) → sum pattern.name < mark
    → matches_names pattern names ≡ matches pattern (names_text mark names)
names_marked mark pattern (Exactly name) low = refl
names_marked mark pattern (Below start) low = below_marked mark pattern.kind pattern.name start low

party_marked : (mark : ℕ) (all bound : List ℕ) (party : Option (List ℕ)) → sum bound < mark
    → covers_party all bound party ≡ covers_text all bound (party_text mark party)
party_marked mark all bound (Some text) low = refl
party_marked mark all bound None low = rw (no_mark mark bound [] low) refl

-- a class stands for its representative
pub stands_marked : (mark : ℕ) (class : Class) (entries : List (ℕ × Binding))
    → ((entry : ℕ × Binding) → Contains entries entry → weight entry < mark)
    → Stands entries (representative mark class) class.target class.principal class.host
stands_marked mark class entries clear = record {
  on = λ entry there.
      and_same _ _ _ (λ _. names_marked mark entry.1.pattern class.target.names (omega (arith, clear entry there)));
  asks = λ entry there _.
      party_marked mark (codes "User:*") entry.1.principal class.principal (omega (arith, clear entry there));
  from = λ entry there _ _.
      party_marked mark (codes "*") entry.1.host class.host (omega (arith, clear entry there));
}

-- which is a super user where the class names one
pub super_marked : (mark : ℕ) (supers : List (List ℕ)) (party : Option (List ℕ))
    → ((user : List ℕ) → Contains supers user → sum user < mark)
    → is_super supers (party_text mark party) ≡ is_super_party supers party
super_marked mark supers (Some text) clear = refl
super_marked mark supers None clear = same_when _ _
    (λ found.
    let (user, (there, same)) = passing (same_text (mark ∷ [])) supers found in
    let is = ap sum ((bytes_eq-Decides (mark ∷ []) user).0 same) in
    absurd (omega (arith, is, clear user there)))
    (λ h. absurd cc)

-- The representative may be asked.

pub only_cluster : (kind : ResourceKind) (pattern : Pattern) (target : Target) → target_by kind pattern ≡ target
    → target.resource ≡ Cluster → target ≡ the_cluster
only_cluster Topic pattern target is of_cluster =
    let wrong : Topic ≡ Cluster = ap (λ (t : Target). t.resource) is ∙ of_cluster in absurd cc
only_cluster Group pattern target is of_cluster =
    let wrong : Group ≡ Cluster = ap (λ (t : Target). t.resource) is ∙ of_cluster in absurd cc
only_cluster TransactionalId pattern target is of_cluster =
    let wrong : TransactionalId ≡ Cluster = ap (λ (t : Target). t.resource) is ∙ of_cluster in absurd cc
only_cluster Cluster pattern target is of_cluster = sym is

pub cluster_alone : (entries : List (ℕ × Binding)) (target : Target) → Contains (targets entries) target
    → target.resource ≡ Cluster → target ≡ the_cluster
cluster_alone entries target there of_cluster =
    elim (Contains-append_cases open_targets (map target_of entries) target there) [
      | inl open_one ↦
          each (λ (t : Target). t.resource ≡ Cluster → t ≡ the_cluster) open_targets target (
            (λ is. absurd (let wrong : Topic ≡ Cluster = is in cc)),
            (
              (λ is. absurd (let wrong : Group ≡ Cluster = is in cc)),
              ((λ _. refl), ((λ is. absurd (let wrong : TransactionalId ≡ Cluster = is in cc)), tt)),
            ),
          ) open_one of_cluster
      | inr named ↦
          let (entry, (there', is)) = given_by target_of entries target named in
          only_cluster entry.1.resource entry.1.pattern target is of_cluster
    ]

not_all : (operation : Operation) → Contains operations operation → operation ≢ All
not_all operation there is =
    let found : list_any (same_operation All) operations ≡ true =
    any_passes (same_operation All) operations operation there ((operation_decides All operation).1 (sym is)) in cc

pub askable_marked : (mark : ℕ) (class : Class) (entries : List (ℕ × Binding)) → Contains operations class.operation
    → Contains (targets entries) class.target → IsAskable (representative mark class)
askable_marked mark class entries op on = record {
  operation = not_all class.operation op;
  name = λ of_cluster.
      ap (λ (t : Target). names_text mark t.names) (cluster_alone entries class.target on of_cluster);
}

-- The class in which a question stands.
pub stands_for : (entries some_entries : List (ℕ × Binding)) (question : Question) (principals hosts : List (List ℕ))
    → IsAskable question → ((entry : ℕ × Binding) → Contains some_entries entry → Contains entries entry)
    → ((entry : ℕ × Binding) → Contains some_entries entry
    → is_on (target_for entries question.resource question.name) entry ≡ true → Contains principals entry.1.principal)
    → ((entry : ℕ × Binding) → Contains some_entries entry
    → is_on (target_for entries question.resource question.name) entry ≡ true
    → is_for (party_for principals question.principal) entry ≡ true → Contains hosts entry.1.host)
    → Stands some_entries question (target_for entries question.resource question.name)
    (party_for principals question.principal) (party_for hosts question.host)
stands_for entries some_entries question principals hosts askable among who where_from = record {
  on = λ entry there. on_for entries question.resource question.name askable.name entry (among entry there);
  asks = λ entry there on.
      covers_same (codes "User:*") entry.1.principal question.principal principals (who entry there on);
  from = λ entry there on asks.
      covers_same (codes "*") entry.1.host question.host hosts (where_from entry there on asks);
}
