-- The commands: their names, a row of words for each, a line's fault, and what they ask for.
use Rattle.std.specs.Prelude.{◌≡◌, ℕ, List, Option, Result, Ok, codes, if◌then◌else◌, [], ◌∷◌, Some, None, Err, map, Bool, false, true, find, option_map, bytes_eq, ok_or, MatchResult}
use Rattle.std.specs.Result.{result_err}
use Rattle.kob_acl_cli.specs.Commands.{commands, faults}
pub use Rattle.kob_acl_cli.specs.declared.args.CliArgs.{CliArgs}
use Rattle.kob_acl_cli.specs.declared.commands.AclCommand.TheVariants.{Create, Delete, Describe}
pub use Rattle.kob_acl_cli.specs.declared.commands.AclCommand.{AclCommand}
use Rattle.kob_acl_cli.specs.declared.fault.CommandFault.TheVariants as options
pub use Rattle.kob_acl_cli.specs.declared.fault.CommandFault.{CommandFault}
use Rattle.kob_names.specs.declared.filter.BindingFilter.{BindingFilter}
use Rattle.kob_names.specs.declared.filter.FilterPattern.{FilterPattern}
use Rattle.kob_names.specs.declared.filter.FilterPattern.TheVariants.{Any}
pub use Rattle.kob_rights.specs.declared.event.Event.{Event}
use Rattle.kob_rights.specs.declared.request.Request.TheVariants as ask
pub use Rattle.kob_rights.specs.declared.request.Request.{Request}
use Rattle.kob_names.specs.declared.draft.Draft.{Draft}
use Rattle.kob_script.specs.Words.{Fails, earlier, idem_of, record_of, number_of, which_of, before_of, text_of, named_principal, named_host, Word, first_kind, each, unless_found, ◌>>=◌, BadWord, BadLine, Usage, NoAction, BadName, BadMix, NoResource, NoPrincipal, Fault, FaultKind, LineError, Memory}
use Rattle.kob_script.specs.declared.command.Command.TheVariants.{CreateTopic, DeleteTopic, Metadata, Produce, Fetch, ListOffsets, DeleteRecords, InitProducer, Commit, Committed, Groups, DeleteGroup, CreateAcl, DescribeAcls, DeleteAcls}
pub use Rattle.kob_script.specs.declared.command.Command.{Command}
use Rattle.kob_script.specs.declared.command.Place.TheVariants.{One, OrDash, OrNone, Records, Texts}
use Rattle.kob_script.specs.declared.command.Place.{Place}
use Rattle.kob_script.specs.declared.command.Slot.TheVariants as slot
use Rattle.kob_script.specs.declared.command.Slot.{Slot}
use Rattle.kob_words.specs.Words.{operation_named, resource_named, filter_pattern_named, pattern_named, permission_named}

-- what a table has for a word
abbrev pub known : {A : Type 0} → (List ℕ → Option A) → Word → Result A FaultKind
known named word = ok_or (named word.decoded) BadWord

-- a filter takes any pattern by `-` too, which has to stand without escapes
abbrev pub filter_pattern_of : Word → Result FilterPattern FaultKind
filter_pattern_of word =
    if bytes_eq word.raw (codes "-") then Ok Any else known filter_pattern_named word

abbrev pub command_name : Command → List ℕ
command_name CreateTopic = codes "create-topic"
command_name DeleteTopic = codes "delete-topic"
command_name Metadata = codes "metadata"
command_name Produce = codes "produce"
command_name Fetch = codes "fetch"
command_name ListOffsets = codes "list-offsets"
command_name DeleteRecords = codes "delete-records"
command_name InitProducer = codes "init-producer"
command_name Commit = codes "commit"
command_name Committed = codes "committed"
command_name Groups = codes "groups"
command_name DeleteGroup = codes "delete-group"
command_name CreateAcl = codes "create-acl"
command_name DescribeAcls = codes "describe-acls"
command_name DeleteAcls = codes "delete-acls"

-- the command of a name, in lower case only
abbrev pub command_named : List ℕ → Option Command
command_named word =
    find (λ command. bytes_eq word (command_name command)) (Produce ∷ Fetch ∷ Commit ∷ Committed
    ∷ CreateTopic ∷ DeleteTopic ∷ Metadata ∷ ListOffsets ∷ DeleteRecords ∷ InitProducer ∷ Groups
    ∷ DeleteGroup ∷ CreateAcl ∷ DescribeAcls ∷ DeleteAcls ∷ [])

-- the words of a filter, `-` for ANY
abbrev pub filter_row : List Place
filter_row =
    OrDash slot.Resource ∷ OrDash slot.Text ∷ One slot.FilterPattern ∷ OrDash slot.Principal
    ∷ OrDash slot.Host ∷ OrDash slot.Operation ∷ OrDash slot.Permission ∷ []

-- the words after each command, in their order
abbrev pub row : Command → List Place
row CreateTopic = One slot.Text ∷ One slot.Number ∷ []
row DeleteTopic = One slot.Text ∷ []
row Metadata = OrNone slot.Text ∷ []
row Produce = One slot.Text ∷ One slot.Number ∷ One slot.Producer ∷ Records ∷ []
row Fetch = One slot.Text ∷ One slot.Number ∷ One slot.Number ∷ One slot.Number ∷ []
row ListOffsets = One slot.Text ∷ One slot.Number ∷ One slot.StartOrEnd ∷ []
row DeleteRecords = One slot.Text ∷ One slot.Number ∷ One slot.OffsetOrEnd ∷ []
row InitProducer = []
row Commit = One slot.Text ∷ One slot.Text ∷ One slot.Number ∷ One slot.Number ∷ []
row Committed = One slot.Text ∷ One slot.Text ∷ One slot.Number ∷ []
row Groups = []
row DeleteGroup = One slot.Text ∷ []
row CreateAcl =
    One slot.Permission ∷ One slot.Principal ∷ One slot.Host ∷ One slot.Operation
    ∷ One slot.Resource ∷ One slot.Pattern ∷ One slot.Text ∷ []
row DescribeAcls = filter_row
row DeleteAcls = filter_row

-- the row of a command's word, in lower case only; the words after `acl` are texts
abbrev pub row_named : List ℕ → Option (List Place)
row_named name =
    if bytes_eq name (codes "acl") then Some (Texts ∷ []) else option_map row (command_named name)

-- the fault that a word has in a slot
abbrev pub slot_fault : Slot → Word → Option FaultKind
slot_fault slot.Text word = result_err (text_of word)
slot_fault slot.Principal word = result_err (named_principal word)
slot_fault slot.Host word = result_err (named_host word)
slot_fault slot.Number word = result_err (number_of word)
slot_fault slot.StartOrEnd word = result_err (which_of word)
slot_fault slot.OffsetOrEnd word = result_err (before_of word)
slot_fault slot.Producer word = result_err (idem_of word)
slot_fault slot.Permission word = result_err (known permission_named word)
slot_fault slot.Operation word = result_err (known operation_named word)
slot_fault slot.Resource word = result_err (known resource_named word)
slot_fault slot.Pattern word = result_err (known pattern_named word)
slot_fault slot.FilterPattern word = result_err (filter_pattern_of word)

-- the faults of words at the places of a row; a word too few or too many is one of the line
abbrev pub faults_in : List Place → List Word → List (Option FaultKind)
faults_in [] [] = []
faults_in (Records ∷ places) words = []
faults_in (Texts ∷ places) words = result_err (each text_of words) ∷ []
faults_in (OrNone at ∷ []) [] = []
faults_in (OrNone at ∷ places) (word ∷ words) = slot_fault at word ∷ faults_in places words
faults_in (One at ∷ places) (word ∷ words) = slot_fault at word ∷ faults_in places words
faults_in (OrDash at ∷ places) (word ∷ words) =
    (if bytes_eq word.raw (codes "-") then None else slot_fault at word) ∷ faults_in places words
faults_in _ _ = Some BadLine ∷ []

-- the fault of the words of a row; a command that has none is no line
abbrev pub row_fault : Option (List Place) → List Word → Option FaultKind
row_fault None words = Some BadLine
row_fault (Some places) words = first_kind (faults_in places words)

-- the fault of a line's words, PRINCIPAL HOST COMMAND and the command's words
abbrev pub line_fault : List Word → Option FaultKind
line_fault (who ∷ from ∷ command ∷ words) =
    row_fault (option_map (λ places. One slot.Principal ∷ One slot.Host ∷ places)
    (row_named command.decoded)) (who ∷ from ∷ words)
line_fault _ = Some BadLine

-- a part of a filter: nothing for the word `-`, which has to stand without escapes
abbrev pub unless_dash : {A : Type 0} → Result A FaultKind → Word → Result (Option A) FaultKind
unless_dash read word =
    if bytes_eq word.raw (codes "-") then Ok None else (read >>= λ part. Ok (Some part))

-- what the words of a filter select
unfoldable pub filter_of : List Word → Result BindingFilter FaultKind
filter_of (resource ∷ name ∷ pattern ∷ who ∷ from ∷ operation ∷ permission ∷ []) = do
  kind ← unless_dash (known resource_named resource) resource
  selected ← filter_pattern_of pattern
  allowed ← unless_dash (known operation_named operation) operation
  effect ← unless_dash (known permission_named permission) permission
  text ← unless_dash (text_of name) name
  principal ← unless_dash (named_principal who) who
  host ← unless_dash (named_host from) from
  Ok (record {
    resource = kind;
    name = text;
    pattern = selected;
    principal = principal;
    host = host;
    operation = allowed;
    permission = effect;
  })
filter_of _ = Err BadLine

-- the binding that words write
unfoldable pub draft_of : List Word → Result Draft FaultKind
draft_of (permission ∷ who ∷ from ∷ operation ∷ resource ∷ pattern ∷ name ∷ []) = do
  effect ← known permission_named permission
  allowed ← known operation_named operation
  kind ← known resource_named resource
  matching ← known pattern_named pattern
  text ← text_of name
  principal ← named_principal who
  host ← named_host from
  Ok (record {
    permission = effect;
    principal = principal;
    host = host;
    operation = allowed;
    resource = kind;
    pattern = record { kind = matching; name = text };
  })
draft_of _ = Err BadLine

-- what each command asks for by the words after it
unfoldable pub request_of : Command → List Word → Result Request FaultKind
request_of CreateTopic (name ∷ partitions ∷ []) = do
  topic ← text_of name
  count ← number_of partitions
  Ok (ask.CreateTopics (record { name = topic; partitions = count }))
request_of DeleteTopic (name ∷ []) =
    text_of name >>= λ topic. Ok (ask.DeleteTopics (record { name = topic }))
request_of Metadata [] = Ok (ask.Metadata (record { topic = None }))
request_of Metadata (name ∷ []) =
    text_of name >>= λ topic. Ok (ask.Metadata (record { topic = Some topic }))
request_of Produce (name ∷ partition ∷ producer ∷ records) = do
  topic ← text_of name
  number ← number_of partition
  idem ← idem_of producer
  Ok (ask.Produce (record {
    topic = topic;
    partition = number;
    batch = record { idem = idem; records = map record_of records };
  }))
request_of Fetch (name ∷ partition ∷ first ∷ most ∷ []) = do
  topic ← text_of name
  number ← number_of partition
  offset ← number_of first
  max ← number_of most
  Ok (ask.Fetch (record { topic = topic; partition = number; offset = offset; max = max }))
request_of ListOffsets (name ∷ partition ∷ end ∷ []) = do
  topic ← text_of name
  number ← number_of partition
  which ← which_of end
  Ok (ask.ListOffsets (record { topic = topic; partition = number; which = which }))
request_of DeleteRecords (name ∷ partition ∷ end ∷ []) = do
  topic ← text_of name
  number ← number_of partition
  before ← before_of end
  Ok (ask.DeleteRecords (record { topic = topic; partition = number; before = before }))
request_of InitProducer [] = Ok ask.InitProducerId
request_of Commit (by ∷ name ∷ partition ∷ next ∷ []) = do
  group ← text_of by
  topic ← text_of name
  number ← number_of partition
  offset ← number_of next
  Ok (ask.OffsetCommit (record {
    group = group;
    topic = topic;
    partition = number;
    offset = offset;
  }))
request_of Committed (by ∷ name ∷ partition ∷ []) = do
  group ← text_of by
  topic ← text_of name
  number ← number_of partition
  Ok (ask.OffsetFetch (record { group = group; topic = topic; partition = number }))
request_of Groups [] = Ok ask.ListGroups
request_of DeleteGroup (name ∷ []) =
    text_of name >>= λ group. Ok (ask.DeleteGroups (record { group = group }))
request_of CreateAcl words =
    draft_of words >>= λ draft. Ok (ask.CreateAcls (record { drafts = draft ∷ [] }))
request_of DescribeAcls words =
    filter_of words >>= λ filter. Ok (ask.DescribeAcls (record { filter = filter }))
request_of DeleteAcls words =
    filter_of words >>= λ filter. Ok (ask.DeleteAcls (record { filter = filter }))
request_of _ _ = Err BadLine

-- the kind of a fault of options; out of memory is never one of theirs
abbrev pub kind_of : CommandFault → FaultKind
kind_of options.NoAction = NoAction
kind_of (options.BadName word) = BadName
kind_of options.BadMix = BadMix
kind_of options.NoResource = NoResource
kind_of options.NoPrincipal = NoPrincipal
kind_of (options.Memory e) = Usage

-- why options are no commands
abbrev pub error_of : CommandFault → LineError
error_of (options.Memory e) = Memory e
error_of fault = Fault (kind_of fault)

-- the commands, unless there are faults, of which the first counts
abbrev pub unless_faults : List CommandFault → List AclCommand → Result (List AclCommand) FaultKind
unless_faults [] made = Ok made
unless_faults (fault ∷ others) made = Err (kind_of fault)

-- the commands of clap's answer: options, or nothing if it refuses the words
abbrev pub acl_commands : Option CliArgs → Result (List AclCommand) FaultKind
acl_commands None = Err Usage
acl_commands (Some args) = unless_faults (faults args) (commands args)

abbrev pub acl_request : AclCommand → Request
acl_request (Create drafts) = ask.CreateAcls (record { drafts = drafts })
acl_request (Delete filter) = ask.DeleteAcls (record { filter = filter })
acl_request (Describe filter) = ask.DescribeAcls (record { filter = filter })

-- the events by which the principal and the host of a line ask
abbrev pub events_by : List ℕ → List ℕ → List Request → List Event
events_by principal host requests =
    map (λ request. record { principal = principal; host = host; request = request }) requests

-- the requests of a command's name and the words after it; only `acl` may ask for several
abbrev pub requests_by : Option CliArgs → List ℕ → List Word → Result (List Request) FaultKind
requests_by answer name words =
    if bytes_eq name (codes "acl") then (acl_commands answer >>= λ made. Ok (map acl_request made))
    else (ok_or (command_named name) BadLine >>= λ command.
    request_of command words >>= λ request. Ok (request ∷ []))

-- what the words of a line ask for by clap's answer to those of `acl`
unfoldable pub asked_by : Option CliArgs → List Word → Result (List Event) FaultKind
asked_by answer (who ∷ from ∷ command ∷ words) =
    unless_found (earlier (result_err (named_principal who)) (result_err (named_host from))) do
      principal ← named_principal who
      host ← named_host from
      requests ← requests_by answer command.decoded words
      Ok (events_by principal host requests)
asked_by answer _ = Err BadLine

-- All that was asked for: the event that was read, if one was, and others behind it.
abbrev pub AreRead : Bool → Option Event → List Event → List Event → Type 0
AreRead true (Some event) others all = all ≡ event ∷ others
AreRead true None others all = ⊥
AreRead false event others all = all ≡ others

-- These events were read, unless memory ran out or the words have a fault.
abbrev pub GivesEvents : Result Bool LineError → Option Event → List Event
    → Result (List Event) FaultKind → Type 0
GivesEvents (Ok read) event others told = MatchResult told (AreRead read event others) (λ _. ⊥)
GivesEvents (Err error) event others told = Fails error told

-- a line asks by `acl`
abbrev pub asks_by_acl : List Word → Bool
asks_by_acl (principal ∷ host ∷ command ∷ words) = bytes_eq command.decoded (codes "acl")
asks_by_acl _ = false

-- the events of a line by clap's answer to it, or its fault, that of words before that of options
unfoldable pub events_of : Option CliArgs → List Word → Result (List Event) FaultKind
events_of answer words = unless_found (line_fault words) (asked_by answer words)
