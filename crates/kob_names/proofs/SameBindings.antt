-- Two bindings pass the test of equality exactly where they are equal.
use Rattle.std.proofs.Common.{sym, ◌∙◌, ◌↔◌, IsTrue, ◌≡◌, Bool, List, ℕ, ap}
use Rattle.std.specs.Bool.{Decides}
use Rattle.std.proofs.lemmas.Bool.Decides.{Decides-and, Decides-like}
use Rattle.std.proofs.lemmas.Slice.Eq.{bytes_eq-Decides}
use denote.Enum.Bare.{same_true, true_same}
use Rattle.kob_names.specs.Same.{same_operation, same_pattern_kind, same_permission, same_resource}
use Rattle.kob_names.specs.Binding.{same_binding, same_pattern, Binding}
use Rattle.kob_names.specs.declared.kinds.Operation.{Operation}
use Rattle.kob_names.specs.declared.kinds.PatternKind.{PatternKind}
use Rattle.kob_names.specs.declared.kinds.Permission.{Permission}
use Rattle.kob_names.specs.declared.kinds.ResourceKind.{ResourceKind}
use Rattle.kob_names.specs.declared.pattern.Pattern.{Pattern}
use Rattle.kob_names.specs.contracts.kinds.ResourceKind as resource
use Rattle.kob_names.specs.contracts.kinds.Operation as operation
use Rattle.kob_names.specs.contracts.kinds.PatternKind as kind
use Rattle.kob_names.specs.contracts.kinds.Permission as permission

pub permission_decides : (a b : Permission) → Decides (same_permission a b) (a ≡ b)
permission_decides a b = (same_true permission.the_type tt a b, true_same permission.the_type a b)

pub operation_decides : (a b : Operation) → Decides (same_operation a b) (a ≡ b)
operation_decides a b = (same_true operation.the_type tt a b, true_same operation.the_type a b)

pub resource_decides : (a b : ResourceKind) → Decides (same_resource a b) (a ≡ b)
resource_decides a b = (same_true resource.the_type tt a b, true_same resource.the_type a b)

pub kind_decides : (a b : PatternKind) → Decides (same_pattern_kind a b) (a ≡ b)
kind_decides a b = (same_true kind.the_type tt a b, true_same kind.the_type a b)

-- a pattern of its parts
abbrev patterned : PatternKind → List ℕ → Pattern
patterned kind name = record { kind = kind; name = name }

-- a binding of its parts
abbrev bound : Permission → List ℕ → List ℕ → Operation → ResourceKind → Pattern → Binding
bound permission principal host operation resource pattern = record {
  permission = permission;
  principal = principal;
  host = host;
  operation = operation;
  resource = resource;
  pattern = pattern;
}

pattern_decides : (a b : Pattern) → Decides (same_pattern a b) (a ≡ b)
pattern_decides a b =
    Decides-like (same_pattern a b)
    (λ same. let whole : patterned a.kind a.name ≡ patterned b.kind b.name = cc in whole)
    (λ same. (ap (λ (x : Pattern). x.kind) same, ap (λ (x : Pattern). x.name) same))
    (Decides-and _ _ (kind_decides a.kind b.kind) (bytes_eq-Decides a.name b.name))

pub same_binding_decides : (a b : Binding) → Decides (same_binding a b) (a ≡ b)
same_binding_decides a b =
    Decides-like (same_binding a b)
    (λ same.
    let whole : bound a.permission a.principal a.host a.operation a.resource a.pattern
    ≡ bound b.permission b.principal b.host b.operation b.resource b.pattern = cc in
    whole)
    (λ same. (
      ap (λ (x : Binding). x.permission) same,
      (
        ap (λ (x : Binding). x.principal) same,
        (
          ap (λ (x : Binding). x.host) same,
          (
            ap (λ (x : Binding). x.operation) same,
            (ap (λ (x : Binding). x.resource) same, ap (λ (x : Binding). x.pattern) same),
          ),
        ),
      ),
    ))
    (Decides-and _ _ (permission_decides a.permission b.permission)
    (Decides-and _ _ (bytes_eq-Decides a.principal b.principal)
    (Decides-and _ _ (bytes_eq-Decides a.host b.host)
    (Decides-and _ _ (operation_decides a.operation b.operation)
    (Decides-and _ _ (resource_decides a.resource b.resource) (pattern_decides a.pattern b.pattern))))))

-- an answer of the test is true exactly where the two are equal
pub same_binding_tells : (a b : Binding) (answer : Bool) → answer ≡ same_binding a b → IsTrue answer ↔ (a ≡ b)
same_binding_tells a b answer is =
    let decides = same_binding_decides a b in (λ yes. decides.0 (sym is ∙ yes), λ same. is ∙ decides.1 same)
