-- What contracts see of a binding: when two are equal, which drafts are one, and what it bears on.
use Rattle.kob_names.specs.declared.draft.Draft.{Draft}
use Rattle.std.specs.Prelude.{Bool, ◌&&◌, not, ◌==◌, nat_lt, if◌then◌else◌, Option, Some, None, length, codes, false, ◌||◌, List, ℕ, nat_eq, true}
use Rattle.kob_names.specs.Same.{same_text, same_operation, same_pattern_kind, same_permission, same_resource}
use Rattle.kob_names.specs.declared.pattern.Pattern.{Pattern}
use Rattle.kob_names.specs.TextRules.{name_limit}
use Rattle.kob_names.specs.declared.draft.BindingFault.{BindingFault}
use Rattle.kob_names.specs.declared.draft.BindingFault.TheVariants.{EmptyName, BadCluster, TooLong}
use Rattle.kob_names.specs.declared.kinds.ResourceKind.TheVariants.{Cluster}
use Rattle.std.specs.List.{starts_with}
use Rattle.kob_names.specs.declared.kinds.Operation.{Operation}
use Rattle.kob_names.specs.declared.kinds.Operation.TheVariants.{All, Read, Write, Delete, Alter, Describe, DescribeConfigs, AlterConfigs}
use Rattle.kob_names.specs.declared.kinds.PatternKind.{PatternKind}
use Rattle.kob_names.specs.declared.kinds.PatternKind.TheVariants.{Literal, Prefixed}
use Rattle.kob_names.specs.declared.kinds.Permission.{Permission}
use Rattle.kob_names.specs.declared.kinds.Permission.TheVariants.{Allow}
use Rattle.kob_names.specs.declared.verdict.Verdict.{Verdict}
use Rattle.kob_names.specs.declared.verdict.Verdict.TheVariants.{Super, AllowedBy, DeniedBy, NoAllow, NoAclFound}

-- a binding is seen as its parts, which are those of a draft without a fault
abbrev pub Binding : Type 0
Binding = Draft

-- two bindings are equal in every part
abbrev pub same_pattern : Pattern → Pattern → Bool
same_pattern a b = same_pattern_kind a.kind b.kind && same_text a.name b.name

abbrev pub same_binding : Binding → Binding → Bool
same_binding a b =
    same_permission a.permission b.permission
    && (same_text a.principal b.principal
    && (same_text a.host b.host
    && (same_operation a.operation b.operation
    && (same_resource a.resource b.resource
    && same_pattern a.pattern b.pattern))))

-- the cluster has one name
abbrev pub is_bad_cluster : Draft → Bool
is_bad_cluster draft =
    same_resource draft.resource Cluster
    && not (same_text draft.pattern.name (codes "kafka-cluster"))

-- the first rule for bindings that a draft breaks
abbrev pub draft_fault : Draft → Option BindingFault
draft_fault draft =
    if length draft.pattern.name == 0 then Some EmptyName
    else (if is_bad_cluster draft then Some BadCluster
    else (if nat_lt name_limit (length draft.pattern.name) then Some TooLong
    else None))

-- Which operations a bound one reaches, which names a pattern matches, and whom a binding covers.

-- Read, Write, Delete and Alter imply Describe, and AlterConfigs implies DescribeConfigs
abbrev pub is_implied : Operation → Operation → Bool
is_implied Read asked = same_operation asked Describe
is_implied Write asked = same_operation asked Describe
is_implied Delete asked = same_operation asked Describe
is_implied Alter asked = same_operation asked Describe
is_implied AlterConfigs asked = same_operation asked DescribeConfigs
is_implied bound asked = false

-- All reaches every operation, any other one itself, and an allow also what it implies
abbrev pub reaches : Permission → Operation → Operation → Bool
reaches permission bound asked =
    same_operation bound All || same_operation bound asked
    || (same_permission permission Allow && is_implied bound asked)

-- a literal pattern matches the equal name, `*` every name, a prefixed one all names beginning so
abbrev pub matches_by : PatternKind → List ℕ → List ℕ → Bool
matches_by Literal pattern name = same_text pattern name || same_text pattern (codes "*")
matches_by Prefixed pattern name = starts_with nat_eq name pattern

abbrev pub matches : Pattern → List ℕ → Bool
matches pattern name = matches_by pattern.kind pattern.name name

-- a binding for `User:*` covers every principal, and one for `*` every host
abbrev pub covers : Binding → List ℕ → List ℕ → Bool
covers binding principal host =
    (same_text binding.principal principal || same_text binding.principal (codes "User:*"))
    && (same_text binding.host host || same_text binding.host (codes "*"))

-- granted to a super user, by an allow, and where no binding matches what is open to everyone
abbrev pub is_granted : Verdict → Bool
is_granted Super = true
is_granted (AllowedBy serial) = true
is_granted (DeniedBy serial) = false
is_granted NoAllow = false
is_granted NoAclFound = true
