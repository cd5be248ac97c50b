-- What an authorizer holds.
use Rattle.std.specs.Prelude.{Bool, List, [], ◌∷◌, ℕ, ◌+◌, ◌≤◌, true, false, ◌&&◌, not, Option, Some, None, ◌≡◌, IsTrue, Contains}
use Rattle.kob_names.specs.Binding.{Binding, covers, matches, reaches}
use Rattle.kob_names.specs.declared.kinds.Operation.{Operation}
use Rattle.kob_names.specs.declared.kinds.ResourceKind.{ResourceKind}
use Rattle.kob_names.specs.declared.kinds.Permission.{Permission}
use Rattle.kob_names.specs.declared.kinds.Permission.TheVariants.{Allow, Deny}
use Rattle.kob_names.specs.declared.verdict.Verdict.{Verdict}
use Rattle.kob_names.specs.declared.verdict.Verdict.TheVariants.{Super, AllowedBy, DeniedBy, NoAllow, NoAclFound}
use Rattle.std.specs.List.{filter, list_any, AllByRecursion}
use Rattle.kob_names.specs.Same.{same_permission, same_resource, same_text}
use Rattle.kob_authorizer.specs.declared.question.Question as program

-- the bindings in force with their serials, in rising serials, the super users, whether what no
-- binding matches is open to everyone, and the serial that comes next
pub record Contents : Type 0 where
  pub entries : List (ℕ × Binding)
  pub supers : List (List ℕ)
  pub everyone : Bool
  pub next : ℕ

-- the contents, and for how many more bindings there is room already
pub record State : Type 0 where
  pub contents : Contents
  pub room : ℕ

-- nothing is in force yet, and 1 is the next serial
abbrev pub fresh_contents : List (List ℕ) → Bool → Contents
fresh_contents supers everyone =
    record { entries = []; supers = supers; everyone = everyone; next = 1 }

-- the serials rise from low on, and are below high
abbrev pub IsRising : ℕ → List (ℕ × Binding) → ℕ → Type 0
IsRising low [] high = low ≤ high
IsRising low (entry ∷ rest) high = (low ≤ entry.0) × IsRising (entry.0 + 1) rest high

-- The verdict on a question, read off the list of bindings in force (Kafka documentation,
-- "Authorization and ACLs"; `allow.everyone.if.no.acl.found` among the settings of a broker).

-- who asks from where for which operation on what
pub record Question : Type 0 where
  pub principal : List ℕ
  pub host : List ℕ
  pub operation : Operation
  pub resource : ResourceKind
  pub name : List ℕ

-- the question of these parts
abbrev pub question_of : List ℕ → List ℕ → Operation → ResourceKind → List ℕ → Question
question_of principal host operation resource name = record {
  principal = principal;
  host = host;
  operation = operation;
  resource = resource;
  name = name;
}

-- the binding has this permission and speaks of what is asked
abbrev pub is_hit : Permission → Question → ℕ × Binding → Bool
is_hit permission question entry =
    same_permission entry.1.permission permission
    && (same_resource entry.1.resource question.resource
    && (matches entry.1.pattern question.name
    && (covers entry.1 question.principal question.host
    && reaches permission entry.1.operation question.operation)))

-- the entries whose bindings have this permission and speak of what is asked, in rising serials
abbrev pub hits : List (ℕ × Binding) → Permission → Question → List (ℕ × Binding)
hits entries permission question = filter (is_hit permission question) entries

-- the serial of the first entry
abbrev pub first_serial : List (ℕ × Binding) → Option ℕ
first_serial [] = None
first_serial (entry ∷ rest) = Some entry.0

-- the principal is equal to a super user
abbrev pub is_super : List (List ℕ) → List ℕ → Bool
is_super supers principal = list_any (same_text principal) supers

-- a super user is granted everything; else a deny wins over every allow; without either, no
abbrev pub verdict_of : Bool → Option ℕ → Option ℕ → Verdict
verdict_of true deny allow = Super
verdict_of false (Some serial) allow = DeniedBy serial
verdict_of false None (Some serial) = AllowedBy serial
verdict_of false None None = NoAllow

-- the decision by the bindings in force and the super users alone
abbrev pub decide_by_bindings : List (ℕ × Binding) → List (List ℕ) → Question → Verdict
decide_by_bindings entries supers question =
    verdict_of (is_super supers question.principal)
    (first_serial (hits entries Deny question)) (first_serial (hits entries Allow question))

-- the pattern of the binding takes the name on the kind of resource
abbrev pub takes_name : ResourceKind → List ℕ → Binding → Bool
takes_name resource name binding =
    same_resource binding.resource resource && matches binding.pattern name

-- the pattern of a binding takes the name
abbrev pub has_match : List (ℕ × Binding) → ResourceKind → List ℕ → Bool
has_match entries resource name = list_any (λ entry. takes_name resource name entry.1) entries

-- the binding is for the kind of resource, and its pattern matches the name
abbrev pub is_match : Question → ℕ × Binding → Bool
is_match question entry = takes_name question.resource question.name entry.1

-- no binding matches the resource, whatever its principal, host, operation and permission
abbrev pub is_unmatched : List (ℕ × Binding) → Question → Bool
is_unmatched entries question = not (list_any (is_match question) entries)

-- what is open to everyone is granted where no allow is found
abbrev pub unless_open : Bool → Verdict → Verdict
unless_open true NoAllow = NoAclFound
unless_open opened verdict = verdict

-- the access decision: where the switch is on, what no binding matches is open to everyone
abbrev pub decide : Contents → Question → Verdict
decide contents question =
    unless_open (contents.everyone && is_unmatched contents.entries question)
    (decide_by_bindings contents.entries contents.supers question)

-- What a verdict means, said of the bindings in force and not by a search among them.

-- the binding has this permission and is for the kind of resource; its pattern matches the name,
-- it covers who asks and from where, and it reaches the operation
pub record Hits (wanted : Permission) (question : Question) (entry : ℕ × Binding) : Type 0 where
  pub permission : entry.1.permission ≡ wanted
  pub resource : entry.1.resource ≡ question.resource
  pub name : IsTrue (matches entry.1.pattern question.name)
  pub who : IsTrue (covers entry.1 question.principal question.host)
  pub operation : IsTrue (reaches wanted entry.1.operation question.operation)

-- no binding with this permission speaks of what is asked
abbrev pub NoneHits : Permission → Question → List (ℕ × Binding) → Type 0
NoneHits permission question entries = AllByRecursion
    (λ entry. ¬ Hits permission question entry) entries

-- it is the serial of a binding that hits, and no binding that hits has a lower one
pub record IsEarliest (permission : Permission) (question : Question)
    (entries : List (ℕ × Binding)) (serial : ℕ) : Type 0 where
  pub entry : ℕ × Binding
  pub in_force : Contains entries entry
  pub hits : Hits permission question entry
  pub serial_is : entry.0 ≡ serial
  pub least : AllByRecursion (λ other. Hits permission question other → serial ≤ other.0) entries

-- the binding is for the kind of resource, and its pattern matches the name
pub record Matches (question : Question) (entry : ℕ × Binding) : Type 0 where
  pub resource : entry.1.resource ≡ question.resource
  pub name : IsTrue (matches entry.1.pattern question.name)

-- no binding matches the resource, whatever its principal, host, operation and permission
abbrev pub NoneMatches : Question → List (ℕ × Binding) → Type 0
NoneMatches question entries = AllByRecursion (λ entry. ¬ Matches question entry) entries

-- a binding in force matches the resource
pub record SomeMatches (question : Question) (entries : List (ℕ × Binding)) : Type 0 where
  pub entry : ℕ × Binding
  pub in_force : Contains entries entry
  pub matches : Matches question entry

-- what is so where the verdict is given
abbrev pub IsTrueVerdict : Contents → Question → Verdict → Type 0
IsTrueVerdict contents question Super = Contains contents.supers question.principal
IsTrueVerdict contents question (DeniedBy serial) =
    ¬ Contains contents.supers question.principal
    × IsEarliest Deny question contents.entries serial
IsTrueVerdict contents question (AllowedBy serial) =
    ¬ Contains contents.supers question.principal
    × (NoneHits Deny question contents.entries
    × IsEarliest Allow question contents.entries serial)
IsTrueVerdict contents question NoAllow =
    ¬ Contains contents.supers question.principal
    × (NoneHits Deny question contents.entries
    × (NoneHits Allow question contents.entries
    × (IsTrue contents.everyone → SomeMatches question contents.entries)))
IsTrueVerdict contents question NoAclFound =
    ¬ Contains contents.supers question.principal
    × (IsTrue contents.everyone × NoneMatches question contents.entries)

-- the question, with the texts in place of the references to them
abbrev pub question_view : program.Question → Question
question_view question =
    question_of question.principal.now question.host.now question.operation question.resource
    question.name.now
