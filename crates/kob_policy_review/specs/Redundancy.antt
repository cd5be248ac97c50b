-- The bindings that no answer needs, and why.
use Rattle.std.specs.Prelude.{◌≡◌, ◌↔◌, Bool, List, ℕ, ◌&&◌, ◌||◌, not, ◌==◌, Option, Some, None, codes, find, All, Contains, map, nat_eq, true, false}
use Rattle.std.specs.List.{filter, list_all, list_any, starts_with}
use Rattle.std.specs.Option.{option_map}
use Rattle.kob_names.specs.Binding.{Binding, reaches}
use Rattle.kob_names.specs.Same.{same_permission, same_resource, same_text}
use Rattle.kob_names.specs.declared.kinds.PatternKind.{PatternKind}
use Rattle.kob_names.specs.declared.kinds.PatternKind.TheVariants.{Literal, Prefixed}
use Rattle.kob_names.specs.declared.kinds.Permission.{Permission}
use Rattle.kob_names.specs.declared.kinds.Permission.TheVariants.{Allow, Deny}
use Rattle.kob_authorizer.specs.Decide.{Contents, is_super}
use Rattle.kob_policy_review.specs.Alike.{AnswerAlike, without}
use Rattle.kob_policy_review.specs.Classes.{operations, target}
use Rattle.kob_policy_review.specs.declared.class.Names.TheVariants.{Exactly}
use Rattle.kob_policy_review.specs.declared.class.Target.{Target}
use Rattle.kob_policy_review.specs.Needed.{needed}
use Rattle.kob_policy_review.specs.declared.redundant.Reason.{Reason}
use Rattle.kob_policy_review.specs.declared.redundant.Reason.TheVariants.{CoveredBy, DeniedBy, Super, Together}
use Rattle.kob_policy_review.specs.declared.redundant.Unneeded.{Unneeded}

-- a pattern takes every name that another takes
abbrev pub takes_all : PatternKind → List ℕ → PatternKind → List ℕ → Bool
takes_all Literal wide kind name =
    same_text wide (codes "*") || (is_literal kind && same_text wide name)
  where
    is_literal : PatternKind → Bool
    is_literal Literal = true
    is_literal Prefixed = false
takes_all Prefixed wide Literal name =
    not (same_text name (codes "*")) && starts_with nat_eq name wide
takes_all Prefixed wide Prefixed name = starts_with nat_eq name wide

-- a text that is bound is bound by another too, which may be the word for all
abbrev pub binds_all : List ℕ → List ℕ → List ℕ → Bool
binds_all all wide narrow = same_text wide narrow || same_text wide all

-- one reaches each operation that the other reaches
abbrev pub reaches_all : Binding → Binding → Bool
reaches_all wide narrow = list_all (λ operation.
    not (reaches narrow.permission narrow.operation operation)
    || reaches wide.permission wide.operation operation) operations

-- a binding bears on all that another one does
abbrev pub bears_on_all : Binding → Binding → Bool
bears_on_all wide narrow =
    same_resource wide.resource narrow.resource
    && (takes_all wide.pattern.kind wide.pattern.name narrow.pattern.kind narrow.pattern.name
    && (binds_all (codes "User:*") wide.principal narrow.principal
    && (binds_all (codes "*") wide.host narrow.host && reaches_all wide narrow)))

-- another entry with this permission bears on all that an entry does
abbrev pub is_wider : Permission → ℕ × Binding → ℕ × Binding → Bool
is_wider permission narrow wide =
    not (wide.0 == narrow.0)
    && (same_permission wide.1.permission permission && bears_on_all wide.1 narrow.1)

-- the name that an entry's pattern has, on which each wider one bears
abbrev pub around : ℕ × Binding → Target
around entry = target entry.1.resource (Exactly entry.1.pattern.name)

-- the serial of the first such entry
abbrev pub first_wider : List (ℕ × Binding) → Permission → ℕ × Binding → Option ℕ
first_wider entries permission narrow =
    option_map (λ (entry : ℕ × Binding). entry.0) (find (is_wider permission narrow) entries)

abbrev pub reason_by : Permission → Bool → Option ℕ → Option ℕ → Reason
reason_by permission true same deny = Super
reason_by permission false (Some serial) deny = CoveredBy serial
reason_by Allow false None (Some serial) = DeniedBy serial
reason_by permission false None deny = Together

-- why a binding is not needed: the first of the reasons that holds
abbrev pub reason_of : Contents → ℕ × Binding → Reason
reason_of rules entry =
    reason_by entry.1.permission (is_super rules.supers entry.1.principal)
    (first_wider rules.entries entry.1.permission entry)
    (first_wider rules.entries Deny entry)

-- the serial fails a test
abbrev pub is_outside : (ℕ → Bool) → ℕ × Binding → Bool
is_outside test entry = not (test entry.0)

abbrev pub is_needed : Contents → ℕ → Bool
is_needed rules serial = list_any (λ other. other == serial) (needed rules)

-- the bindings that are needed nowhere, in order
abbrev pub unneeded : Contents → List (ℕ × Binding)
unneeded rules = filter (is_outside (is_needed rules)) rules.entries

abbrev pub unused_entry : Contents → ℕ × Binding → Unneeded
unused_entry rules entry = record { serial = entry.0; reason = reason_of rules entry }

-- the bindings that are needed nowhere, each with its reason
abbrev pub unused_in : Contents → List Unneeded
unused_in rules = map (unused_entry rules) (unneeded rules)

-- exactly the bindings are listed without which no answer at all changes, each with its reason
pub record ListsUnused (rules : Contents) (found : List Unneeded) : Type 0 where
  pub exact : (entry : ℕ × Binding) → Contains rules.entries entry
      → Contains found (unused_entry rules entry) ↔ AnswerAlike rules (without entry.0 rules)
  pub only : All (λ (one : Unneeded). (entry : ℕ × Binding) × (Contains rules.entries entry
      × (one ≡ unused_entry rules entry))) found
