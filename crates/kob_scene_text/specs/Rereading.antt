-- Which events and bindings a script can write, so that what is printed of one is read back as it.
-- Not among them are a batch with headers, which aren't printed; a creation of several bindings or
-- of none, whose printed form no line has (an `acl` line asks for several by its options); and a
-- name without a byte, since each word has one.
use Rattle.std.specs.Prelude.{◌≡◌, ◌⊎◌, ◌<◌, ◌^◌, ◌++◌, ℕ, List, [], ◌∷◌, Option, None, Some, Ok, codes, length, nat_lt, true, is_some}
use Rattle.std.specs.List.{AllByRecursion, list_all}
use Rattle.std.specs.Str.{is_utf8}
use Rattle.kob_acl_cli.specs.declared.args.CliArgs.{CliArgs}
use Rattle.kob_names.specs.TextRules.{host_fault, principal_fault}
use Rattle.kob_names.specs.declared.batch.Idem.{Idem}
use Rattle.kob_names.specs.declared.draft.Draft.{Draft}
use Rattle.kob_names.specs.declared.filter.BindingFilter.{BindingFilter}
use Rattle.kob_names.specs.declared.record.Record.{Record}
use Rattle.kob_rights.specs.declared.event.Event.{Event}
use Rattle.kob_rights.specs.declared.on_partitions.Before.{Before}
use Rattle.kob_rights.specs.declared.on_partitions.Before.TheVariants as bounds
use Rattle.kob_rights.specs.declared.request.Request.{Request}
use Rattle.kob_rights.specs.declared.request.Request.TheVariants as requests
use Rattle.kob_script.specs.CommandLines.{draft_of, events_of}
use Rattle.kob_script.specs.Words.{words_of, ◌>>=◌}
use Rattle.kob_scene_text.specs.PrintedRequest.{event_text}
use Rattle.kob_scene_text.specs.Scenes.{Seen, asked, with_line, with_steps}
use Rattle.kob_words.specs.Words.{grant_text, target_text}

-- The words of what is printed ask for this event alone, whatever clap answers to them.
abbrev pub ReadsBack : Event → Type 0
ReadsBack event =
    (answer : Option CliArgs) → (words_of (event_text event) >>= events_of answer) ≡ Ok (event ∷ [])

-- The same in a scene, whatever it says before and whichever workers it declares.
abbrev pub ReadsBackInScene : Event → Type 0
ReadsBackInScene event =
    (answer : Option CliArgs) (so_far : Seen)
    → with_line answer so_far (event_text event) ≡ Ok (with_steps so_far (asked event ∷ []))

-- What is printed of a binding behind its serial is written in the words of a creation of it.
abbrev pub ReadsBackBinding : Draft → Type 0
ReadsBackBinding draft =
    (words_of (codes " " ++ grant_text draft ++ codes " " ++ target_text draft) >>= draft_of)
    ≡ Ok draft

-- bytes, and a number of 64 bits
abbrev pub AreBytes : List ℕ → Type 0
AreBytes bytes = list_all (λ byte. nat_lt byte 256) bytes ≡ true

abbrev pub IsNumber : ℕ → Type 0
IsNumber number = number < 2 ^ 64

-- names in UTF-8: a word has a byte, and a text that is a principal or a host has one
pub record IsName (text : List ℕ) : Type 0 where
  pub utf8 : is_utf8 text ≡ true
  pub some : 0 < length text

pub record IsPrincipal (text : List ℕ) : Type 0 where
  pub utf8 : is_utf8 text ≡ true
  pub valid : principal_fault text ≡ None

pub record IsHost (text : List ℕ) : Type 0 where
  pub utf8 : is_utf8 text ≡ true
  pub valid : host_fault text ≡ None

-- what holds of a part that is there
abbrev pub IfGiven : {A : Type 0} → (A → Type 0) → Option A → Type 0
IfGiven P None = Unit {0}
IfGiven P (Some part) = P part

pub record IsIdem (idem : Idem) : Type 0 where
  pub id : IsNumber idem.id
  pub epoch : IsNumber idem.epoch
  pub base : IsNumber idem.base

-- a record without headers, with a key or with a value that has a byte
pub record IsRecord (message : Record) : Type 0 where
  pub key : IfGiven AreBytes message.key
  pub value : AreBytes message.value
  pub some : (is_some message.key ≡ true) ⊎ (0 < length message.value)
  pub bare : message.headers ≡ []

abbrev pub IsBound : Before → Type 0
IsBound (bounds.Offset offset) = IsNumber offset
IsBound bounds.End = Unit {0}

pub record IsDraft (draft : Draft) : Type 0 where
  pub principal : IsPrincipal draft.principal
  pub host : IsHost draft.host
  pub name : IsName draft.pattern.name

pub record IsFilter (filter : BindingFilter) : Type 0 where
  pub name : IfGiven IsName filter.name
  pub principal : IfGiven IsPrincipal filter.principal
  pub host : IfGiven IsHost filter.host

-- one binding
abbrev pub IsOneDraft : List Draft → Type 0
IsOneDraft (draft ∷ []) = IsDraft draft
IsOneDraft (draft ∷ other ∷ drafts) = ⊥
IsOneDraft [] = ⊥

-- what a script can write, of each kind
abbrev pub IsWritten : Request → Type 0
IsWritten (requests.Produce p) =
    IsName p.topic × IsNumber p.partition × IfGiven IsIdem p.batch.idem
    × AllByRecursion IsRecord p.batch.records
IsWritten (requests.Fetch f) =
    IsName f.topic × IsNumber f.partition × IsNumber f.offset × IsNumber f.max
IsWritten (requests.ListOffsets o) = IsName o.topic × IsNumber o.partition
IsWritten (requests.Metadata m) = IfGiven IsName m.topic
IsWritten (requests.OffsetCommit c) =
    IsName c.group × IsName c.topic × IsNumber c.partition × IsNumber c.offset
IsWritten (requests.OffsetFetch c) = IsName c.group × IsName c.topic × IsNumber c.partition
IsWritten requests.ListGroups = Unit {0}
IsWritten (requests.DeleteGroups d) = IsName d.group
IsWritten (requests.CreateTopics t) = IsName t.name × IsNumber t.partitions
IsWritten (requests.DeleteTopics t) = IsName t.name
IsWritten (requests.DeleteRecords r) = IsName r.topic × IsNumber r.partition × IsBound r.before
IsWritten requests.InitProducerId = Unit {0}
IsWritten (requests.DescribeAcls d) = IsFilter d.filter
IsWritten (requests.CreateAcls c) = IsOneDraft c.drafts
IsWritten (requests.DeleteAcls d) = IsFilter d.filter

-- an event that a line of a script can write
pub record IsLine (event : Event) : Type 0 where
  pub principal : IsPrincipal event.principal
  pub host : IsHost event.host
  pub request : IsWritten event.request
