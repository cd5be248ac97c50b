-- A policy: the bindings of some files in the order in which they are read, the super users,
-- whether what no binding matches is open to everyone, and the release of the brokers.
use Rattle.std.specs.Prelude.{◌≡◌, ◌||◌, ◌&&◌, not, ℕ, Bool, false, List, [], ◌∷◌, ◌++◌, Option, Some, None, Result, Ok, Err, codes, is_none, length, nat_lt, if◌then◌else◌, ◌==◌, position}
use Rattle.kob_names.specs.Binding.{Binding, draft_fault, is_granted}
use Rattle.kob_script.specs.declared.fault.FaultKind.{FaultKind}
use Rattle.kob_script.specs.declared.fault.FaultKind.TheVariants.{BadName, NoResource}
use Rattle.kob_script.specs.declared.fault.Fault.{Fault}
use Rattle.kob_script.specs.declared.fault.ScriptError.{ScriptError}
use Rattle.kob_script.specs.declared.fault.LineError.{LineError}
use Rattle.kob_script.specs.Words.{◌>>=◌}
use Rattle.kob_script.specs.Script.{lines_in}
use Rattle.kob_policy_text.specs.declared.item.Grant.{Grant}
use Rattle.kob_policy_text.specs.declared.item.Item.{Item}
use Rattle.kob_policy_text.specs.declared.item.LeftOut.{LeftOut}
use Rattle.kob_policy_text.specs.declared.item.Target.{Target}
use Rattle.kob_policy_text.specs.declared.origin.Origin.{Origin}
use Rattle.kob_policy_text.specs.declared.origin.Omission.{Omission}
use Rattle.kob_policy_text.specs.Encoding.{plain_text}
use Rattle.kob_policy_text.specs.Joined.{Numbered, joined_lines}
use Rattle.kob_policy_text.specs.Lines.{SaysAt, has_heading}
use Rattle.kob_policy_text.specs.Objects.{is_array, objects_in}
use Rattle.kob_authorizer.specs.Decide.{Contents, decide, Question}
use Rattle.kob_authorizer.specs.Creation.{Added, addition, create_fault}
use Rattle.kob_authorizer.specs.declared.fault.CreateFault.{CreateFault}
use Rattle.kob_names.specs.Same.{same_permission, same_resource, same_text}
use Rattle.kob_names.specs.TextRules.{name_limit}
use Rattle.kob_names.specs.declared.kinds.Operation.TheVariants.{ClusterAction}
use Rattle.kob_names.specs.declared.kinds.Permission.TheVariants.{Deny}
use Rattle.kob_names.specs.declared.kinds.ResourceKind.TheVariants.{Cluster}
use Rattle.kob_policy_text.specs.Listing.{left_out_of}
use Rattle.kob_names.specs.declared.verdict.Verdict.{Verdict}
use Rattle.kob_script.specs.declared.fault.ScriptError.TheVariants as script_error
use Rattle.kob_script.specs.declared.fault.LineError.TheVariants as line_error
use Rattle.kob_policy_text.specs.declared.item.Item.TheVariants as item
use Rattle.kob_policy_text.specs.declared.release.Release.{Release}
use Rattle.kob_policy_text.specs.declared.release.Release.TheVariants.{Since28}
use Rattle.kob_policy_text.specs.declared.item.LeftOut.TheVariants as left_out
use Rattle.kob_names.specs.declared.verdict.Verdict.TheVariants as verdict

-- each binding stands beside its origin; the closings close what left out bindings are on; below a
-- heading, the next listed bindings are on what it names, or are left out
pub record Policy : Type 0 where
  pub supers : List (List ℕ)
  pub everyone : Bool
  pub release : Release
  pub bindings : List Binding
  pub origins : List Origin
  pub closings : List Binding
  pub omissions : List Omission
  pub skipped : List Origin
  pub has_list : Bool
  pub heading : Option (Option Target)

abbrev pub empty_policy : Policy
empty_policy = record {
  supers = [];
  everyone = false;
  release = Since28;
  bindings = [];
  origins = [];
  closings = [];
  omissions = [];
  skipped = [];
  has_list = false;
  heading = None;
}

-- no heading stands above the first line of a file
abbrev pub at_file : List ℕ → Policy → Policy
at_file text policy = record policy { has_list = has_heading text; heading = None }

-- what is left out, and whether it denies
abbrev pub omission : Origin → LeftOut → Bool → Omission
omission origin what denies = record { origin = origin; what = what; denies = denies }

abbrev pub with_omission : Policy → Origin → LeftOut → Bool → Policy
with_omission policy origin what denies =
    record policy { omissions = policy.omissions ++ omission origin what denies ∷ [] }

-- a line that says nothing of rules
abbrev pub with_skipped : Policy → Origin → Policy
with_skipped policy origin = record policy { skipped = policy.skipped ++ origin ∷ [] }

abbrev pub with_binding : Policy → Origin → Binding → Policy
with_binding policy origin binding = record policy {
  bindings = policy.bindings ++ binding ∷ [];
  origins = policy.origins ++ origin ∷ [];
}

-- a binding on the same pattern that covers nobody, since no client has such an address
abbrev pub closing_of : Binding → Binding
closing_of binding = record {
  permission = Deny;
  principal = codes "User:(left out)";
  host = codes "(left out)";
  operation = ClusterAction;
  resource = binding.resource;
  pattern = binding.pattern;
}

abbrev pub with_closed : Policy → Binding → Policy
with_closed policy closing = record policy { closings = policy.closings ++ closing ∷ [] }

-- A binding that is left out still closes its pattern where everyone may do what no binding
-- matches; one on a kind of resource that is not supported has no pattern here.
abbrev pub with_closing : Policy → LeftOut → Binding → Policy
with_closing policy left_out.Resource closing = policy
with_closing policy left_out.Principal closing = with_closed policy closing
with_closing policy left_out.Operation closing = with_closed policy closing

-- a binding whose pattern's name is one that a binding may have
abbrev pub binding_of : Binding → Result Binding FaultKind
binding_of draft = if is_none (draft_fault draft) then Ok draft else Err BadName

abbrev pub with_draft_left_out : Policy → Origin → LeftOut → Binding → Result Policy FaultKind
with_draft_left_out policy origin what draft = binding_of (closing_of draft) >>= λ closing.
    Ok (with_closing (with_omission policy origin what (same_permission draft.permission Deny))
    what closing)

abbrev pub with_draft_by : Option LeftOut → Policy → Origin → Binding → Result Policy FaultKind
with_draft_by (Some what) policy origin draft = with_draft_left_out policy origin what draft
with_draft_by None policy origin draft =
    binding_of draft >>= λ binding. Ok (with_binding policy origin binding)

-- with a binding more, which may be left out
abbrev pub with_draft : Policy → Origin → Binding → Result Policy FaultKind
with_draft policy origin draft = with_draft_by (left_out_of draft) policy origin draft

-- the listed binding with what its heading names
abbrev pub draft_under : Target → Grant → Binding
draft_under target grant = record {
  permission = grant.permission;
  principal = grant.principal;
  host = grant.host;
  operation = grant.operation;
  resource = target.resource;
  pattern = target.pattern;
}

-- with a binding more on what is named, or left out
abbrev pub with_row : Policy → Origin → Option Target → Grant → Result Policy FaultKind
with_row policy origin None grant =
    Ok (with_omission policy origin left_out.Resource (same_permission grant.permission Deny))
with_row policy origin (Some target) grant =
    with_draft policy origin (draft_under target grant)

abbrev pub with_grant : Policy → Origin → Option (Option Target) → Grant → Result Policy FaultKind
with_grant policy origin None grant = Err NoResource
with_grant policy origin (Some target) grant = with_row policy origin target grant

-- no binding may be on this
abbrev pub has_bad_name : Target → Bool
has_bad_name target =
    length target.pattern.name == 0 || ((same_resource target.resource Cluster
    && not (same_text target.pattern.name (codes "kafka-cluster")))
    || nat_lt name_limit (length target.pattern.name))

abbrev pub has_bad_heading : Option Target → Bool
has_bad_heading None = false
has_bad_heading (Some target) = has_bad_name target

abbrev pub with_heading : Policy → Option Target → Result Policy FaultKind
with_heading policy target =
    if has_bad_heading target then Err BadName else Ok (record policy { heading = Some target })

-- the policy with one thing more that was said
unfoldable pub with_item : Policy → Origin → Item → Result Policy FaultKind
with_item policy origin (item.Super user) =
    Ok (record policy { supers = policy.supers ++ user ∷ [] })
with_item policy origin (item.Everyone everyone) = Ok (record policy { everyone = everyone })
with_item policy origin (item.Brokers release) = Ok (record policy { release = release })
with_item policy origin (item.Rule draft) = with_draft policy origin draft
with_item policy origin (item.Resource target) = with_heading policy target
with_item policy origin (item.Grant grant) = with_grant policy origin policy.heading grant
with_item policy origin (item.Row target grant) = with_row policy origin target grant
with_item policy origin item.Skipped = Ok (with_skipped policy origin)
with_item policy origin (item.LeftOut what) = Ok (with_omission policy origin what false)

-- one thing after another, up to the first fault
unfoldable pub with_items : Policy → Origin → List Item → Result Policy FaultKind
with_items policy origin [] = Ok policy
with_items policy origin (first ∷ rest) =
    with_item policy origin first >>= λ next. with_items next origin rest

abbrev pub place : List ℕ → ℕ → Origin
place file line = record { file = file; line = line }

-- with a line more, the policy may be this
unfoldable pub LineMakes : List ℕ → Policy → ℕ → List ℕ → Result Policy FaultKind → Type 0
LineMakes file policy number line read =
    (said : Result (List Item) FaultKind)
    × SaysAt (is_none policy.heading) policy.has_list line said
    × ((said >>= with_items policy (place file number)) ≡ read)

-- the lines after one may make this, unless that one has a fault
abbrev pub ThenLines : ℕ → Result Policy FaultKind → (Policy → Type 0) → Result Policy Fault
    → Type 0
ThenLines number (Ok policy) Others read = Others policy
ThenLines number (Err kind) Others read = read ≡ Err (record { line = number; kind = kind })

-- the lines, each with its number, may make this
unfoldable pub LinesMake : List ℕ → Policy → List Numbered → Result Policy Fault → Type 0
LinesMake file policy [] read = read ≡ Ok policy
LinesMake file policy (line ∷ lines) read =
    (first : Result Policy FaultKind) × LineMakes file policy line.line line.text first
    × ThenLines line.line first (λ next. LinesMake file next lines read) read

-- the lines of a text, or the objects of an array, each with its number
unfoldable pub numbered_in : List ℕ → Result (List Numbered) Fault
numbered_in text =
    if is_array text then objects_in (lines_in text) else Ok (joined_lines (lines_in text))

abbrev pub EachMakes : List ℕ → Policy → Result (List Numbered) Fault → Result Policy Fault → Type 0
EachMakes file policy (Ok lines) read = LinesMake file policy lines read
EachMakes file policy (Err fault) read = read ≡ Err fault

abbrev pub TextMakes : List ℕ → Policy → Result (List ℕ) Fault → Result Policy Fault → Type 0
TextMakes file policy (Ok text) read = EachMakes file (at_file text policy) (numbered_in text) read
TextMakes file policy (Err fault) read = read ≡ Err fault

-- A file may make this of a policy, or have this first fault, with lines counted from 1. One that
-- is no text, or an array that is no JSON, has that fault whatever stands above it.
abbrev pub FileMakes : List ℕ → List ℕ → Policy → Result Policy Fault → Type 0
FileMakes file text policy read = TextMakes file policy (plain_text text) read

-- a fault with the number of its line
abbrev pub fault_at : ℕ → LineError → ScriptError
fault_at line (line_error.Memory e) = script_error.Memory e
fault_at line (line_error.Fault kind) = script_error.Fault (record { line = line; kind = kind })

-- The fault that was reported is what reading may end with; nothing is said where memory ran out.
abbrev pub IsStopped : {S : Type 0} → ScriptError → (Result S Fault → Type 0) → Type 0
IsStopped (script_error.Memory e) Makes = Unit {0}
IsStopped (script_error.Fault fault) Makes = Makes (Err fault)

-- What was read is what reading may make, unless memory ran out.
abbrev pub IsRead : {A S : Type 0} → Result A ScriptError → S → (Result S Fault → Type 0) → Type 0
IsRead (Ok x) new Makes = Makes (Ok new)
IsRead (Err error) new Makes = IsStopped error Makes

-- How a policy decides.

-- the bindings in the order in which they are read, with serials from 1; an equal one gets the
-- serial of the first
abbrev pub added : Policy → Added
added policy = addition [] 1 policy.bindings

-- and then what left out bindings close
abbrev pub closed : Policy → Added
closed policy = addition (added policy).entries (added policy).next policy.closings

-- what the authorizer holds
unfoldable pub contents_of : Policy → Contents
contents_of policy = record {
  entries = (closed policy).entries;
  supers = policy.supers;
  everyone = policy.everyone;
  next = (closed policy).next;
}

-- why no authorizer holds all these bindings
abbrev pub fault_by : Policy → Option CreateFault → Option CreateFault
fault_by policy None = create_fault (added policy).entries (added policy).next policy.closings
fault_by policy (Some fault) = Some fault

unfoldable pub open_fault : Policy → Option CreateFault
open_fault policy = fault_by policy (create_fault [] 1 policy.bindings)

-- the serial of each binding
unfoldable pub serials_of : Policy → List ℕ
serials_of policy = (added policy).serials

-- the access decision
abbrev pub may : Policy → Question → Verdict
may policy question = decide (contents_of policy) question

-- the answer is yes
abbrev pub is_yes : Policy → Question → Bool
is_yes policy question = is_granted (may policy question)

-- where the first binding with a serial stands
abbrev pub place_of : Policy → ℕ → Option ℕ
place_of policy serial = position (λ other. other == serial) (serials_of policy)

-- the place where a serial stands first, with one place more at which it stands or does not
abbrev pub first_place : Option ℕ → Bool → ℕ → Option ℕ
first_place (Some place) stands more = Some place
first_place None stands more = if stands then Some more else None

-- the serial that decides, if one does
abbrev pub deciding : Verdict → Option ℕ
deciding (verdict.DeniedBy serial) = Some serial
deciding (verdict.AllowedBy serial) = Some serial
deciding verdict.Super = None
deciding verdict.NoAllow = None
deciding verdict.NoAclFound = None
