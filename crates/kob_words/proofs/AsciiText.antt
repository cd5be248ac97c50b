-- What is printed of a binding is ASCII.
use Rattle.std.proofs.Common.{◌≡◌, ℕ, true, List, [], ◌∷◌, ◌++◌, codes, refl, arith, Result, Ok, Err, OnOk}
use Rattle.std.specs.Char.{is_ascii}
use Rattle.std.specs.Fmt.{decimal}
use Rattle.std.specs.List.{list_all}
use Rattle.std.specs.Str.{IsAscii}
use Rattle.std.proofs.lemmas.Bool.Decides.{nat_tests}
use Rattle.std.proofs.lemmas.Fmt.{IsAscii-decimal, decimal_digit}
use Rattle.std.proofs.lemmas.Str.{IsAscii-append}
use Rattle.std.proofs.lemmas.Str.Ascii.{IsAscii-nil, IsAscii-cons}
use Rattle.kob_names.specs.Binding.{Binding}
use Rattle.kob_names.specs.declared.kinds.Operation.{Operation}
use Rattle.kob_names.specs.declared.kinds.Operation.TheVariants.{All, Read, Write, Create, Delete, Alter, Describe, ClusterAction, DescribeConfigs, AlterConfigs, IdempotentWrite}
use Rattle.kob_names.specs.declared.kinds.PatternKind.{PatternKind}
use Rattle.kob_names.specs.declared.kinds.PatternKind.TheVariants.{Literal, Prefixed}
use Rattle.kob_names.specs.declared.kinds.Permission.{Permission}
use Rattle.kob_names.specs.declared.kinds.Permission.TheVariants.{Allow, Deny}
use Rattle.kob_names.specs.declared.kinds.ResourceKind.{ResourceKind}
use Rattle.kob_names.specs.declared.kinds.ResourceKind.TheVariants.{Topic, Group, Cluster, TransactionalId}
use Rattle.kob_words.specs.Words.{grant_text, target_text, binding_text, operation_name, resource_name, pattern_name, permission_name, bytes_text}

-- a number below ten is printed as one digit
pub ruleset one_digit = (decimal_digit, IsAscii-decimal)

-- a literal text passes the test by computing
literal : (text : List ℕ) → list_all is_ascii text ≡ true → IsAscii text
literal [] passes = IsAscii-nil
literal (b ∷ bs) passes = IsAscii-cons b bs (grind (arith, nat_tests)) (literal bs (grind (arith, nat_tests)))

permission_ascii : (p : Permission) → IsAscii (permission_name p)
permission_ascii Allow = literal (codes "ALLOW") refl
permission_ascii Deny = literal (codes "DENY") refl

operation_ascii : (o : Operation) → IsAscii (operation_name o)
operation_ascii All = literal (codes "All") refl
operation_ascii Read = literal (codes "Read") refl
operation_ascii Write = literal (codes "Write") refl
operation_ascii Create = literal (codes "Create") refl
operation_ascii Delete = literal (codes "Delete") refl
operation_ascii Alter = literal (codes "Alter") refl
operation_ascii Describe = literal (codes "Describe") refl
operation_ascii ClusterAction = literal (codes "ClusterAction") refl
operation_ascii DescribeConfigs = literal (codes "DescribeConfigs") refl
operation_ascii AlterConfigs = literal (codes "AlterConfigs") refl
operation_ascii IdempotentWrite = literal (codes "IdempotentWrite") refl

resource_ascii : (r : ResourceKind) → IsAscii (resource_name r)
resource_ascii Topic = literal (codes "Topic") refl
resource_ascii Group = literal (codes "Group") refl
resource_ascii Cluster = literal (codes "Cluster") refl
resource_ascii TransactionalId = literal (codes "TransactionalId") refl

pattern_ascii : (k : PatternKind) → IsAscii (pattern_name k)
pattern_ascii Literal = literal (codes "LITERAL") refl
pattern_ascii Prefixed = literal (codes "PREFIXED") refl

-- a text, and another one after a space
spaced : (one two : List ℕ) → IsAscii one → IsAscii two → IsAscii (one ++ codes " " ++ two)
spaced one two first second =
    IsAscii-append (one ++ codes " ") two (IsAscii-append one (codes " ") first (literal (codes " ") refl)) second

pub grant_ascii : (b : Binding) → IsAscii (bytes_text b.principal) → IsAscii (bytes_text b.host)
    → IsAscii (grant_text b)
grant_ascii b principal host =
    spaced (permission_name b.permission ++ codes " " ++ bytes_text b.principal ++ codes " " ++ bytes_text b.host)
    (operation_name b.operation)
    (spaced (permission_name b.permission ++ codes " " ++ bytes_text b.principal) (bytes_text b.host)
    (spaced (permission_name b.permission) (bytes_text b.principal) (permission_ascii b.permission) principal) host)
    (operation_ascii b.operation)

pub target_ascii : (b : Binding) → IsAscii (bytes_text b.pattern.name) → IsAscii (target_text b)
target_ascii b name =
    spaced (resource_name b.resource ++ codes " " ++ pattern_name b.pattern.kind) (bytes_text b.pattern.name)
    (spaced (resource_name b.resource) (pattern_name b.pattern.kind) (resource_ascii b.resource)
    (pattern_ascii b.pattern.kind)) name

pub binding_ascii : (serial : ℕ) (b : Binding) → IsAscii (decimal serial) → IsAscii (grant_text b)
    → IsAscii (target_text b) → IsAscii (binding_text serial b)
binding_ascii serial b number grant target =
    spaced (codes "binding " ++ decimal serial ++ codes " " ++ grant_text b) (target_text b)
    (spaced (codes "binding " ++ decimal serial) (grant_text b)
    (IsAscii-append (codes "binding ") (decimal serial) (literal (codes "binding ") refl) number) grant)
    target

-- a line
pub line_ascii : (text : List ℕ) → IsAscii text → IsAscii (text ++ codes "\n")
line_ascii text is = IsAscii-append text (codes "\n") is (literal (codes "\n") refl)

-- a fact of what was done, from another one
pub on_ok : {A E : Type 0} (r : Result A E) (P Q : Type 0) → OnOk r P → (P → Q) → OnOk r Q
on_ok (Ok x) P Q holds follows = follows holds
on_ok (Err e) P Q holds follows = holds
