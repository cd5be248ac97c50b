-- How replies and faults are printed.
use Rattle.std.specs.Prelude.{ℕ, List, [], get_or, ◌++◌, codes, length, Option, Some, None, flat_map, ◌+◌, ◌∷◌, decimal}
use Rattle.kob_names.specs.Binding.{Binding}
use Rattle.kob_names.specs.declared.record.Record.{Record}
use Rattle.kob_names.specs.declared.verdict.Verdict.TheVariants.{Super, AllowedBy, DeniedBy, NoAllow, NoAclFound}
use Rattle.kob_names.specs.declared.verdict.Verdict.{Verdict}
use Rattle.kob_rights.specs.Reason.{code_number, code_name, reason_name}
use Rattle.kob_rights.specs.declared.code.Code.{Code}
use Rattle.kob_rights.specs.declared.reply.Body.TheVariants.{Created, Deleted, Committed, Serials, Bindings, Offset, Start, Commit, Records, Topics, Groups, Producer}
use Rattle.kob_rights.specs.declared.reply.Body.{Body}
use Rattle.kob_rights.specs.declared.reply.Reply.TheVariants.{Denied, Refused, Done}
use Rattle.kob_rights.specs.declared.reply.Reply.{Reply}
use Rattle.kob_script.specs.declared.fault.Fault.{Fault}
use Rattle.kob_words.specs.Words.{binding_text, bytes_text, counted, spaced}
use Rattle.kob_script.specs.Words.{FaultKind, rank}

-- NAME:PARTITIONS, after a space
abbrev pub topic_item : List ℕ × ℕ → List ℕ
topic_item (name, partitions) = spaced name ++ codes ":" ++ decimal partitions

-- KEY=, or nothing without a key
abbrev pub key_text : Option (List ℕ) → List ℕ
key_text None = []
key_text (Some key) = bytes_text key ++ codes "="

-- OFFSET:KEY=VALUE or OFFSET:VALUE; headers aren't printed
abbrev pub record_item : ℕ × Record → List ℕ
record_item (offset, message) =
    counted offset ++ codes ":" ++ key_text message.key ++ bytes_text message.value

-- a line of its own
abbrev pub binding_item : ℕ × Binding → List ℕ
binding_item (serial, binding) = codes "\n" ++ binding_text serial binding

abbrev pub body_text : Body → List ℕ
body_text Created = codes "created"
body_text Deleted = codes "deleted"
body_text Committed = codes "committed"
body_text (Serials serials) = codes "serials" ++ flat_map counted serials
body_text (Bindings bindings) =
    codes "bindings " ++ decimal (length bindings) ++ flat_map binding_item bindings
body_text (Offset offset) = codes "offset " ++ decimal offset
body_text (Start offset) = codes "start " ++ decimal offset
body_text (Commit None) = codes "commit -1"
body_text (Commit (Some offset)) = codes "commit " ++ decimal offset
body_text (Records records) = codes "records" ++ flat_map record_item records
body_text (Topics topics) = codes "topics" ++ flat_map topic_item topics
body_text (Groups groups) = codes "groups" ++ flat_map spaced groups
body_text (Producer id epoch) = codes "producer " ++ decimal id ++ codes " " ++ decimal epoch

-- a denial has none but the verdicts of denials
abbrev pub verdict_text : Verdict → List ℕ
verdict_text (DeniedBy serial) = codes "deny:" ++ decimal serial
verdict_text NoAllow = codes "no-allow"
verdict_text (AllowedBy serial) = codes "allow:" ++ decimal serial
verdict_text Super = codes "super"
verdict_text NoAclFound = codes "no-acl-found"

-- a verdict after another one
abbrev pub verdict_item : Verdict → List ℕ
verdict_item v = codes "," ++ verdict_text v

-- with commas between them
unfoldable pub verdicts_text : List Verdict → List ℕ
verdicts_text [] = []
verdicts_text (v ∷ others) = verdict_text v ++ flat_map verdict_item others

-- CODE CODENAME
abbrev pub code_text : Code → List ℕ
code_text code = decimal (code_number code) ++ codes " " ++ code_name code

abbrev pub outcome_text : Reply → List ℕ
outcome_text (Done body) = codes " ok " ++ body_text body
outcome_text (Denied code verdicts) =
    codes " denied " ++ code_text code ++ codes " " ++ verdicts_text verdicts
outcome_text (Refused code reason) =
    codes " refused " ++ code_text code ++ codes " " ++ reason_name reason

-- a reply with its number
abbrev pub reply_text : ℕ → Reply → List ℕ
reply_text number reply = decimal number ++ outcome_text reply ++ codes "\n"

-- the replies from one on, whose number is given
unfoldable pub replies_text : ℕ → List Reply → List ℕ
replies_text number [] = []
replies_text number (reply ∷ replies) = reply_text number reply ++ replies_text (number + 1) replies

-- replies are numbered from 1
abbrev pub text_of_replies : List Reply → List ℕ
text_of_replies replies = replies_text 1 replies

-- the line for a run that stopped after some requests, out of memory
abbrev pub stopped_text : ℕ → List ℕ
stopped_text done = codes "stopped after " ++ decimal done ++ codes "\n"

-- the names of the kinds, in their order
abbrev pub kind_text : FaultKind → List ℕ
kind_text kind =
    get_or (codes "BadEscape" ∷ codes "LateSetting" ∷ codes "BadLine" ∷ codes "BadText"
    ∷ codes "BadPrincipal" ∷ codes "BadHost" ∷ codes "BadNumber" ∷ codes "BadWord"
    ∷ codes "Usage" ∷ codes "NoAction" ∷ codes "BadName" ∷ codes "BadMix" ∷ codes "NoResource"
    ∷ codes "NoPrincipal" ∷ []) (rank kind) []

-- the whole output for a script with a fault
abbrev pub fault_text : Fault → List ℕ
fault_text fault =
    codes "fault line " ++ decimal fault.line ++ codes " " ++ kind_text fault.kind ++ codes "\n"
