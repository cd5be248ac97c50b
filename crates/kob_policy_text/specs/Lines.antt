-- What a line of a policy says: a listed line, a setting, or a line that creates bindings.
use Rattle.std.specs.Prelude.{◌≡◌, ◌==◌, ◌||◌, ◌&&◌, not, ℕ, Bool, true, false, List, [], ◌∷◌, filter, length, nat_lt, nat_eq, set, slice_get, is_some, Option, Some, None, ok_or, Result, Ok, Err, codes, if◌then◌else◌}
use Rattle.std.specs.List.{list_all, list_any, slice_split, starts_with}
use Rattle.std.specs.Option.{option_to_list}
use Rattle.std.specs.Str.{bytes_eq, str_eq_ignore_ascii_case}
use Rattle.kob_rights.specs.declared.event.Event.{Event}
use Rattle.kob_rights.specs.declared.request.Request.{Request}
use Rattle.kob_rights.specs.declared.request.Request.TheVariants.{CreateAcls}
use Rattle.kob_script.specs.CommandLines.{events_of}
use Rattle.kob_script.specs.declared.fault.FaultKind.{FaultKind}
use Rattle.kob_script.specs.declared.fault.FaultKind.TheVariants.{BadLine, BadWord}
use Rattle.kob_script.specs.Words.{◌>>=◌, each, host_of, principal_of, text_in, text_of, Word, word_of, words_of}
use Rattle.kob_names.specs.TextRules.{is_topic_byte}
use Rattle.kob_script.specs.Script.{asks_clap, lines_in, everyone_of, is_setting, is_super}
use Rattle.kob_policy_text.specs.declared.item.Item.{Item}
use Rattle.kob_policy_text.specs.declared.item.Item.TheVariants.{Super, Everyone, Brokers, LeftOut, Skipped}
use Rattle.kob_policy_text.specs.declared.item.LeftOut.TheVariants.{Principal}
use Rattle.kob_policy_text.specs.Options.{SaysOptions, rule_items}
use Rattle.kob_policy_text.specs.Releases.{release_named}
use Rattle.kob_policy_text.specs.Rows.{is_tabular, tabular_item}
use Rattle.kob_policy_text.specs.Shell.{shell_words}
use Rattle.kob_policy_text.specs.Listing.{heading_item, newer_grant, older_grant, is_other_kind, other_principal, user_in, around_first, first_parts, holds_mark, last_parts, trimmed}

-- one thing that is said
abbrev pub said : Result Item FaultKind → Result (List Item) FaultKind
said read = read >>= λ item. Ok (item ∷ [])

-- a super user; one of another kind is left out
abbrev pub super_or_left_out : List ℕ → Item
super_or_left_out user = if bytes_eq user other_principal then LeftOut Principal else Super user

unfoldable pub super_item : List ℕ → Result Item FaultKind
super_item bytes = user_in bytes >>= λ user. Ok (super_or_left_out user)

-- what stands between semicolons
abbrev pub between_semicolons : List ℕ → List (List ℕ)
between_semicolons value =
    filter (λ part. nat_lt 0 (length part)) (slice_split (λ byte. byte == 59) value)

-- `true` or `false`, in any ASCII case
abbrev pub everyone_item : List ℕ → Result Item FaultKind
everyone_item value =
    if str_eq_ignore_ascii_case value (codes "true") then Ok (Everyone true)
    else (if str_eq_ignore_ascii_case value (codes "false") then Ok (Everyone false)
    else Err BadWord)

-- KEY=VALUE, of the two settings of a broker that this product has
abbrev pub property_by : List ℕ → List ℕ → Result (List Item) FaultKind
property_by key value =
    if bytes_eq key (codes "super.users")
    then each (λ part. super_item (trimmed part)) (between_semicolons value)
    else (if bytes_eq key (codes "allow.everyone.if.no.acl.found")
    then said (everyone_item value) else Err BadLine)

unfoldable pub property_items : List ℕ → Result (List Item) FaultKind
property_items line =
    around_first line (codes "=") >>= λ parts. property_by (trimmed parts.0) (trimmed parts.1)

-- the rules in force, or those that `--add` puts there
abbrev pub is_heading : List ℕ → Bool
is_heading line =
    starts_with nat_eq line (codes "Current ACLs for resource ")
    || starts_with nat_eq line (codes "Adding ACLs for resource ")

-- above the rules of a principal, which have headings of their own
abbrev pub is_principal_heading : List ℕ → Bool
is_principal_heading line = starts_with nat_eq line (codes "ACLs for principal ")

-- a line of a list names what the bindings below it are on
abbrev pub is_heading_line : List ℕ → Bool
is_heading_line line = is_heading (trimmed line)

-- some line of a file does
abbrev pub has_heading : List ℕ → Bool
has_heading text = list_any is_heading_line (lines_in text)

abbrev pub is_newer_grant : List ℕ → Bool
is_newer_grant line = starts_with nat_eq line (codes "(principal=")

abbrev pub is_property : List ℕ → Bool
is_property line =
    starts_with nat_eq line (codes "super.users")
    || starts_with nat_eq line (codes "allow.everyone.if.no.acl.found")

abbrev pub is_comment : List ℕ → Bool
is_comment line = starts_with nat_eq line (codes "#")

-- a letter, a digit, a dot, an underscore or a dash
abbrev pub has_key_bytes : List ℕ → Bool
has_key_bytes key = list_all is_topic_byte key

abbrev pub is_key : List ℕ → Bool
is_key key = nat_lt 0 (length key) && has_key_bytes key

-- a setting of a broker that says nothing of rules
abbrev pub has_key : Option (List ℕ × List ℕ) → Bool
has_key None = false
has_key (Some parts) = is_key (trimmed parts.0)

abbrev pub is_other_property : List ℕ → Bool
is_other_property line = not (is_property line) && has_key (first_parts line (codes "="))

-- the line is not read by its words
unfoldable pub is_listed : List ℕ → Bool
is_listed line =
    is_comment line || (is_principal_heading line || (is_heading line || (is_newer_grant line
    || (is_property line || (is_tabular line
    || holds_mark line (codes " permission for operations: "))))))

-- what one thing says, or nothing
abbrev pub said_if : Result (Option Item) FaultKind → Result (List Item) FaultKind
said_if read = read >>= λ item. Ok (option_to_list item)

abbrev pub one_said : Result Item FaultKind → Result (Option Item) FaultKind
one_said read = read >>= λ item. Ok (Some item)

-- the one thing that a line of a list says, or a row of a table, if it says anything
abbrev pub listed_item : List ℕ → Result (Option Item) FaultKind
listed_item line =
    if is_heading line then one_said (heading_item line)
    else (if is_newer_grant line then one_said (newer_grant line)
    else (if is_tabular line then tabular_item line
    else one_said (older_grant line)))

-- what such a line says
unfoldable pub listed_items : List ℕ → Result (List Item) FaultKind
listed_items line =
    if is_comment line || is_principal_heading line then Ok []
    else (if is_property line then property_items line else said_if (listed_item line))

-- what stands after the last slash of a path
abbrev pub base_by : List ℕ → Option (List ℕ × List ℕ) → List ℕ
base_by path (Some parts) = parts.1
base_by path None = path

abbrev pub base_name : List ℕ → List ℕ
base_name path = base_by path (last_parts path (codes "/"))

-- the command is Kafka's tool, by whatever path, and no principal
unfoldable pub is_tool : List ℕ → Bool
is_tool command =
    not (starts_with nat_eq command (codes "User:"))
    && (bytes_eq (base_name command) (codes "kafka-acls")
    || bytes_eq (base_name command) (codes "kafka-acls.sh"))

-- what is after the word of Kafka's tool
abbrev pub arguments_by : Option (List ℕ × List ℕ) → Option (List ℕ)
arguments_by None = None
arguments_by (Some parts) = if is_tool parts.0 then Some parts.1 else None

unfoldable pub tool_arguments : List ℕ → Option (List ℕ)
tool_arguments line = arguments_by (first_parts line (codes " "))

-- the texts that a shell would pass to the tool
abbrev pub tool_texts : List ℕ → Result (List (List ℕ)) FaultKind
tool_texts arguments = shell_words arguments >>= each text_in

-- the super user of a line `super PRINCIPAL`
abbrev pub super_line : List Word → Result (List Item) FaultKind
super_line (name ∷ []) = said (super_item name.decoded)
super_line _ = Err BadLine

abbrev pub is_release : Word → Bool
is_release first = bytes_eq first.decoded (codes "kafka")

-- the release of a line `kafka VERSION`
abbrev pub release_line : List Word → Result (List Item) FaultKind
release_line (version ∷ []) =
    ok_or (release_named version.decoded) BadWord >>= λ release. Ok (Brokers release ∷ [])
release_line [] = Err BadLine
release_line (version ∷ second ∷ others) = Err BadLine

-- `super PRINCIPAL`, `everyone on` or `everyone off`
unfoldable pub setting_items : Word → List Word → Result (List Item) FaultKind
setting_items first arguments =
    if is_super first then super_line arguments
    else (everyone_of arguments >>= λ everyone. Ok (Everyone everyone ∷ []))

abbrev pub is_other_text : Result (List ℕ) FaultKind → Bool
is_other_text (Ok text) = is_other_kind text
is_other_text (Err kind) = false

abbrev pub names_other_kind : Word → Bool
names_other_kind word = is_other_text (text_of word)

-- the words create a binding for a principal of another kind
abbrev pub is_for_other_kind : List Word → Bool
is_for_other_kind (who ∷ from ∷ command ∷ permission ∷ principal ∷ others) =
    bytes_eq command.decoded (codes "create-acl")
    && names_other_kind principal
is_for_other_kind _ = false

-- the words, of which the fifth is in place of a principal of another kind
abbrev pub held_words : List Word → Result (List Word) FaultKind
held_words words =
    if is_for_other_kind words
    then (word_of other_principal >>= λ held. Ok (set words 4 held)) else Ok words

-- the bindings that a request creates; no other request says anything
abbrev pub rules_in : Request → Result (List Item) FaultKind
rules_in (CreateAcls made) = Ok (rule_items made.drafts)
rules_in _ = Err BadLine

-- the only event, where there is one and no more
abbrev pub only_event : List Event → Option Event
only_event events = if length events == 1 then slice_get events 0 else None

abbrev pub rules_by : Option Event → Result (List Item) FaultKind
rules_by (Some event) = rules_in event.request
rules_by None = Err BadLine

abbrev pub rules_of : List Event → Result (List Item) FaultKind
rules_of events = rules_by (only_event events)

-- what words say that do not ask by `acl`
unfoldable pub words_items : List Word → Result (List Item) FaultKind
words_items [] = Ok []
words_items (first ∷ arguments) =
    if is_setting first then setting_items first arguments
    else (if is_release first then release_line arguments
    else (held_words (first ∷ arguments) >>= events_of None >>= rules_of))

abbrev pub asker_of : List ℕ → List ℕ → Result (List ℕ × List ℕ) FaultKind
asker_of name address =
    principal_of name >>= λ principal. host_of address >>= λ host. Ok (principal, host)

-- the texts after `acl`; who asks from where does not matter, but has to be a principal and a host
abbrev pub texts_behind : Word → Word → List Word → Result (List (List ℕ)) FaultKind
texts_behind who from arguments = do
  name ← text_of who
  address ← text_of from
  texts ← each text_of arguments
  asker ← asker_of name address
  Ok texts

unfoldable pub acl_texts : List Word → Result (List (List ℕ)) FaultKind
acl_texts (who ∷ from ∷ command ∷ arguments) = texts_behind who from arguments
acl_texts words = Ok []

-- the words create bindings
abbrev pub is_creation : List Word → Bool
is_creation (who ∷ from ∷ command ∷ arguments) =
    bytes_eq command.decoded (codes "create-acl") || bytes_eq command.decoded (codes "acl")
is_creation _ = false

-- What the words of a line may say, by what clap may answer to those after `acl`.
abbrev pub SaysBy : Bool → List Word → Result (List Item) FaultKind → Type 0
SaysBy true words read = SaysOptions (acl_texts words) read
SaysBy false words read = words_items words ≡ read

abbrev pub SaysByWords : Result (List Word) FaultKind → Result (List Item) FaultKind → Type 0
SaysByWords (Ok words) read = SaysBy (asks_clap words) words read
SaysByWords (Err kind) read = read ≡ Err kind

-- What a line may say whose options are those of Kafka's tool.
abbrev pub SaysUnlisted : Option (List ℕ) → List ℕ → Result (List Item) FaultKind → Type 0
SaysUnlisted (Some arguments) line read = SaysOptions (tool_texts arguments) read
SaysUnlisted None line read = SaysByWords (words_of line) read

abbrev pub SaysIf : Bool → List ℕ → Result (List Item) FaultKind → Type 0
SaysIf true line read = listed_items line ≡ read
SaysIf false line read = SaysUnlisted (tool_arguments line) line read

-- A line may say this, by what clap may answer where it is asked.
unfoldable pub SaysTrimmed : List ℕ → Result (List Item) FaultKind → Type 0
SaysTrimmed line read = SaysIf (is_listed line) line read

-- words that no form of a policy has; a comment has none
abbrev pub are_foreign : Result (List Word) FaultKind → Bool
are_foreign (Ok []) = false
are_foreign (Ok (first ∷ arguments)) =
    not (is_setting first || (is_release first || is_creation (first ∷ arguments)))
are_foreign (Err kind) = true

-- A line that is of no form, such as one that a wrapper or a logger printed.
unfoldable pub is_foreign : List ℕ → Bool
is_foreign line =
    not (is_listed line || is_some (tool_arguments line)) && are_foreign (words_of line)

-- Above every heading, settings of a broker that say nothing of rules are skipped, and in a file
-- with a heading each line of no form.
unfoldable pub is_skipped : Bool → List ℕ → Bool
is_skipped has_list line = is_other_property line || (has_list && is_foreign line)

abbrev pub SaysIn : Bool → List ℕ → Result (List Item) FaultKind → Type 0
SaysIn true line read = read ≡ Ok (Skipped ∷ [])
SaysIn false line read = SaysTrimmed line read

-- What a line may say, above every heading of its file or not.
abbrev pub SaysAt : Bool → Bool → List ℕ → Result (List Item) FaultKind → Type 0
SaysAt above has_list line read =
    SaysIn (above && is_skipped has_list (trimmed line)) (trimmed line) read
