-- Questions, a line each.
use Rattle.std.specs.List.{list_any}
use Rattle.std.specs.Prelude.{◌+◌, ◌==◌, ◌||◌, ℕ, List, [], ◌∷◌, ◌++◌, Bool, true, false, not, ◌&&◌, is_some, Option, Some, None, Result, Ok, Err, codes, if◌then◌else◌, ok_or}
use Rattle.std.specs.Str.{bytes_eq}
use Rattle.kob_rights.specs.declared.event.Event.{Event}
use Rattle.kob_rights.specs.declared.request.Request.TheVariants.{Produce, OffsetCommit}
use Rattle.kob_script.specs.CommandLines.{events_of}
use Rattle.kob_script.specs.declared.fault.FaultKind.{FaultKind}
use Rattle.kob_script.specs.declared.fault.FaultKind.TheVariants.{BadHost, BadLine, BadWord}
use Rattle.kob_script.specs.declared.fault.Fault.{Fault}
use Rattle.kob_script.specs.Words.{◌>>=◌, each, text_of, principal_of, host_of, Word, word_of, words_of}
use Rattle.kob_script.specs.Script.{lines_in}
use Rattle.kob_names.specs.Same.{same_resource, same_text}
use Rattle.kob_names.specs.declared.kinds.ResourceKind.{ResourceKind}
use Rattle.kob_names.specs.declared.kinds.Operation.TheVariants.{Read, Write}
use Rattle.kob_names.specs.declared.kinds.ResourceKind.TheVariants.{Cluster, Group, Topic}
use Rattle.kob_policy_text.specs.declared.question.Access.{Access}
use Rattle.kob_policy_text.specs.declared.question.Act.{Act}
use Rattle.kob_policy_text.specs.declared.question.Act.TheVariants as act
use Rattle.kob_policy_text.specs.declared.question.Asker.{Asker}
use Rattle.kob_policy_text.specs.declared.question.Query.{Query}
use Rattle.kob_policy_text.specs.declared.question.Question.{Question}
use Rattle.kob_policy_text.specs.declared.question.Question.TheVariants.{May, Expect, Who, WhoConsumes, WhoBelow, Rights, Sees, Summary, Unused, Shadowed, Removable}
use Rattle.kob_policy_text.specs.declared.question.Right.{Right}
use Rattle.kob_policy_text.specs.Lines.{only_event}
use Rattle.kob_policy_text.specs.Listing.{known_operation, known_resource, trimmed}
use Rattle.kob_policy_text.specs.Shell.{shell_words}

-- the host of a question is one that asks: `*` stands for every host, in bindings alone
abbrev pub asking_host : List ℕ → Result (List ℕ) FaultKind
asking_host text = if same_text text (codes "*") then Err BadHost else host_of text

unfoldable pub host_in : Word → Result (List ℕ) FaultKind
host_in word = text_of word >>= asking_host

unfoldable pub asker_of : Word → Word → Result Asker FaultKind
asker_of principal host = do
  text ← text_of principal
  who ← principal_of text
  place ← host_in host
  Ok (record { principal = who; host = place })

-- the cluster has one name
abbrev pub full_name : ResourceKind → List ℕ → List ℕ
full_name resource name =
    if same_resource resource Cluster && same_text name (codes "cluster")
    then codes "kafka-cluster" else name

-- OPERATION RESOURCE NAME
unfoldable pub right_of : Word → Word → Word → Result Right FaultKind
right_of operation resource name = do
  kind ← ok_or (known_operation operation.decoded) BadWord
  on ← ok_or (known_resource resource.decoded) BadWord
  text ← text_of name
  Ok (record { operation = kind; resource = on; name = full_name on text })

-- two texts, one behind the other
unfoldable pub two_texts : Word → Word → Result (List ℕ × List ℕ) FaultKind
two_texts one other = do
  first ← text_of one
  second ← text_of other
  Ok (first, second)

abbrev pub by : Asker → Act → Access
by asker act = record { asker = asker; act = act }

-- PRINCIPAL HOST OPERATION RESOURCE NAME
unfoldable pub may_right : Word → Word → Word → Word → Word → Result Access FaultKind
may_right principal host operation resource name = do
  asker ← asker_of principal host
  right ← right_of operation resource name
  Ok (by asker (act.Right right))

abbrev pub produces : List ℕ → Act
produces topic = act.Request
    (Produce
    (record { topic = topic; partition = 0; batch = record { idem = None; records = [] } }))

-- PRINCIPAL HOST produce TOPIC
unfoldable pub may_produce : Word → Word → Word → Result Access FaultKind
may_produce principal host topic = do
  asker ← asker_of principal host
  name ← text_of topic
  Ok (by asker (produces name))

-- PRINCIPAL HOST produce TOPIC idempotent
unfoldable pub may_repeat : Word → Word → Word → Result Access FaultKind
may_repeat principal host topic = do
  asker ← asker_of principal host
  name ← text_of topic
  Ok (by asker (act.Idempotent name))

-- PRINCIPAL HOST produce TOPIC transactional ID
unfoldable pub may_transact : Word → Word → Word → Word → Result Access FaultKind
may_transact principal host topic id = do
  asker ← asker_of principal host
  names ← two_texts topic id
  Ok (by asker (act.Transactional names.0 names.1))

-- PRINCIPAL HOST consume TOPIC GROUP: fetch from the topic and commit offsets for the group
unfoldable pub may_consume : Word → Word → Word → Word → Result Access FaultKind
may_consume principal host topic group = do
  asker ← asker_of principal host
  names ← two_texts topic group
  Ok (by asker (act.Request
      (OffsetCommit (record { group = names.1; topic = names.0; partition = 0; offset = 0 }))))

abbrev pub access_of : Event → Access
access_of event =
    by (record { principal = event.principal; host = event.host }) (act.Request event.request)

-- what a request asks; none comes from `*`
abbrev pub access_by : Event → Result Access FaultKind
access_by event = if same_text event.host (codes "*") then Err BadHost else Ok (access_of event)

abbrev pub event_or_bad_line : Option Event → Result Access FaultKind
event_or_bad_line (Some event) = access_by event
event_or_bad_line None = Err BadLine

-- PRINCIPAL HOST COMMAND .., as a request is written in a script; `acl` is none
unfoldable pub may_request : List Word → Result Access FaultKind
may_request words = events_of None words >>= λ events. event_or_bad_line (only_event events)

abbrev pub is_word : Word → List ℕ → Bool
is_word word text = bytes_eq word.decoded text

-- PRINCIPAL HOST with three words more, the first of which says what is asked
unfoldable pub may_by : List Word → Word → Word → Word → Word → Word → Result Access FaultKind
may_by words principal host command one other =
    if is_some (known_operation command.decoded)
    then may_right principal host command one other
    else (if is_word command (codes "consume") then may_consume principal host one other
    else (if not (is_word command (codes "produce")) then may_request words
    else (if is_word other (codes "idempotent")
    then may_repeat principal host one else Err BadLine)))

-- PRINCIPAL HOST produce TOPIC transactional ID, or a request of six words
unfoldable pub may_six : List Word → Word → Word → Word → Word → Word → Word
    → Result Access FaultKind
may_six words principal host command topic how id =
    if is_word command (codes "produce") && is_word how (codes "transactional")
    then may_transact principal host topic id else may_request words

-- the words after `may`
abbrev pub may_words : List Word → Result Access FaultKind
may_words (principal ∷ host ∷ command ∷ topic ∷ []) =
    if is_word command (codes "produce") then may_produce principal host topic
    else may_request (principal ∷ host ∷ command ∷ topic ∷ [])
may_words (principal ∷ host ∷ command ∷ one ∷ other ∷ []) =
    may_by (principal ∷ host ∷ command ∷ one ∷ other ∷ []) principal host command one other
may_words (principal ∷ host ∷ command ∷ topic ∷ how ∷ id ∷ []) =
    may_six (principal ∷ host ∷ command ∷ topic ∷ how ∷ id ∷ []) principal host command topic how id
may_words words = may_request words

-- `yes` or `no`
abbrev pub expected_by : Word → Result Bool FaultKind
expected_by word =
    if is_word word (codes "yes") then Ok true
    else (if is_word word (codes "no") then Ok false else Err BadWord)

-- what is expected of the words after `may`
unfoldable pub expects : Word → List Word → Result Question FaultKind
expects answer words = do
  expected ← expected_by answer
  asked ← may_words words
  Ok (Expect expected asked)

-- expect yes MAY-QUESTION, expect no MAY-QUESTION
abbrev pub expect_words : List Word → Result Question FaultKind
expect_words (answer ∷ may ∷ words) =
    if is_word may (codes "may") then expects answer words else Err BadLine
expect_words _ = Err BadLine

abbrev pub right_to_write : List ℕ → Right
right_to_write topic = record { operation = Write; resource = Topic; name = topic }

abbrev pub right_to_read : ResourceKind → List ℕ → Right
right_to_read resource name = record { operation = Read; resource = resource; name = name }

-- who produce TOPIC
abbrev pub who_produces : Word → Result Question FaultKind
who_produces topic = text_of topic >>= λ name. Ok (Who (right_to_write name) None)

-- who consume TOPIC GROUP
abbrev pub who_consumes : Word → Word → Result Question FaultKind
who_consumes topic group = two_texts topic group
    >>= λ names. Ok (WhoConsumes (right_to_read Topic names.0) (right_to_read Group names.1))

abbrev pub who_may : Word → Word → Word → Result Question FaultKind
who_may operation resource name =
    right_of operation resource name >>= λ right. Ok (Who right None)

-- the cluster has one name, and no names that begin with a prefix
abbrev pub has_prefixes : Right → Result Question FaultKind
has_prefixes right =
    if same_resource right.resource Cluster then Err BadWord else Ok (WhoBelow right)

-- who OPERATION RESOURCE prefix NAME
abbrev pub who_below : Word → Word → Word → Result Question FaultKind
who_below operation resource name = right_of operation resource name >>= has_prefixes

-- who OPERATION RESOURCE NAME HOST
abbrev pub who_from : Word → Word → Word → Word → Result Question FaultKind
who_from operation resource name host = do
  right ← right_of operation resource name
  place ← host_in host
  Ok (Who right (Some place))

-- who produce TOPIC, who consume TOPIC GROUP, who OPERATION RESOURCE NAME, and HOST behind that, or
-- `prefix` before the name
abbrev pub who_words : List Word → Result Question FaultKind
who_words (command ∷ topic ∷ []) =
    if is_word command (codes "produce") then who_produces topic else Err BadLine
who_words (first ∷ second ∷ third ∷ []) =
    if is_word first (codes "consume") then who_consumes second third
    else who_may first second third
who_words (operation ∷ resource ∷ third ∷ fourth ∷ []) =
    if is_word third (codes "prefix") then who_below operation resource fourth
    else who_from operation resource third fourth
who_words _ = Err BadLine

-- rights PRINCIPAL
abbrev pub rights_anywhere : Word → Result Question FaultKind
rights_anywhere principal = text_of principal >>= principal_of >>= λ who. Ok (Rights who None)

-- rights PRINCIPAL HOST
abbrev pub rights_from : Word → Word → Result Question FaultKind
rights_from principal host =
    asker_of principal host >>= λ asker. Ok (Rights asker.principal (Some asker.host))

abbrev pub rights_words : List Word → Result Question FaultKind
rights_words (principal ∷ []) = rights_anywhere principal
rights_words (principal ∷ host ∷ []) = rights_from principal host
rights_words _ = Err BadLine

abbrev pub sees_words : List Word → Result Question FaultKind
sees_words (principal ∷ host ∷ []) = asker_of principal host >>= λ asker. Ok (Sees asker)
sees_words _ = Err BadLine

-- a question of one word
abbrev pub lone_question : Word → Result Question FaultKind
lone_question word =
    if is_word word (codes "summary") then Ok Summary
    else (if is_word word (codes "unused") then Ok Unused
    else (if is_word word (codes "shadowed") then Ok Shadowed
    else (if is_word word (codes "removable") then Ok Removable
    else Err BadLine)))

abbrev pub lone_words : Word → List Word → Result Question FaultKind
lone_words first [] = lone_question first
lone_words first _ = Err BadLine

-- a question by its first word
unfoldable pub question_by : Word → List Word → Result Question FaultKind
question_by first words =
    if is_word first (codes "may") then (may_words words >>= λ asked. Ok (May asked))
    else (if is_word first (codes "expect") then expect_words words
    else (if is_word first (codes "who") then who_words words
    else (if is_word first (codes "rights") then rights_words words
    else (if is_word first (codes "sees") then sees_words words
    else lone_words first words))))

-- the names of topics that are given, and the questions in their order, each beside its text
pub record Questions : Type 0 where
  pub topics : List (List ℕ)
  pub asked : List Query

abbrev pub with_topic : Questions → List ℕ → Questions
with_topic so_far name = record so_far { topics = so_far.topics ++ name ∷ [] }

-- topic NAME
abbrev pub topic_words : Questions → List Word → Result Questions FaultKind
topic_words so_far (name ∷ []) = text_of name >>= λ text. Ok (with_topic so_far text)
topic_words so_far _ = Err BadLine

-- a question beside its line, without white space at the ends
abbrev pub query : List ℕ → Question → Query
query line question = record { text = trimmed line; question = question }

abbrev pub with_question : List ℕ → Questions → Word → List Word → Result Questions FaultKind
with_question line so_far first words =
    question_by first words
    >>= λ question. Ok (record so_far { asked = so_far.asked ++ query line question ∷ [] })

-- a line more, of a file of names or of questions; a skipped line has no words
abbrev pub with_words : Bool → List ℕ → Questions → List Word → Result Questions FaultKind
with_words are_names line so_far [] = Ok so_far
with_words are_names line so_far (first ∷ words) =
    if are_names then topic_words so_far (first ∷ words)
    else (if is_word first (codes "topic") then topic_words so_far words
    else with_question line so_far first words)

-- a quote or a backslash
abbrev pub is_quoting : ℕ → Bool
is_quoting byte = byte == 34 || byte == 39 || byte == 92

abbrev pub has_quotes : List ℕ → Bool
has_quotes line = list_any is_quoting line

-- a line of questions is no options of a tool
abbrev pub or_bad_line : Result (List (List ℕ)) FaultKind → Result (List (List ℕ)) FaultKind
or_bad_line (Ok texts) = Ok texts
or_bad_line (Err kind) = Err BadLine

-- the words of a line as a shell cuts it, and then with their escapes read
unfoldable pub unquoted_words : List ℕ → Result (List Word) FaultKind
unquoted_words line = or_bad_line (shell_words line) >>= λ texts. each word_of texts

-- a line of which nothing is between its blanks, or that is skipped, has no words
abbrev pub unquoted : List ℕ → List Word → Result (List Word) FaultKind
unquoted line [] = Ok []
unquoted line (word ∷ words) = unquoted_words line

-- the words of a line, in which quotes are read as a shell reads them
abbrev pub words_in : Bool → List ℕ → Result (List Word) FaultKind
words_in true line = words_of line >>= unquoted line
words_in false line = words_of line

-- what the words of a line add, once they are read
abbrev pub with_read : Bool → List ℕ → Questions → Result (List Word) FaultKind
    → Result Questions FaultKind
with_read are_names line so_far read = read >>= with_words are_names line so_far

unfoldable pub with_line : Bool → Questions → List ℕ → Result Questions FaultKind
with_line are_names so_far line =
    with_read are_names line so_far (words_in (has_quotes line) line)

abbrev pub then_lines : ℕ → Result Questions FaultKind → (Questions → Result Questions Fault)
    → Result Questions Fault
then_lines number (Ok next) others = others next
then_lines number (Err kind) others = Err (record { line = number; kind = kind })

-- the lines from one on, whose number is given, up to the first fault
unfoldable pub lines_from : Bool → Questions → ℕ → List (List ℕ) → Result Questions Fault
lines_from are_names so_far number [] = Ok so_far
lines_from are_names so_far number (line ∷ lines) =
    then_lines number (with_line are_names so_far line)
    (λ next. lines_from are_names next (number + 1) lines)

-- what a text adds, or its first fault, with lines counted from 1
abbrev pub with_lines : Bool → Questions → List ℕ → Result Questions Fault
with_lines are_names so_far text = lines_from are_names so_far 1 (lines_in text)

-- the questions that a text adds
abbrev pub with_questions : Questions → List ℕ → Result Questions Fault
with_questions so_far text = with_lines false so_far text

-- the topics that a file of names adds, a name on a line
abbrev pub with_topics : Questions → List ℕ → Result Questions Fault
with_topics so_far text = with_lines true so_far text
