-- The line of an event is read as the event, if the words of its request are.
use Rattle.kob_scene_text.proofs.Words.{Bool, CliArgs, Event, List, None, Ok, Option, Result, Some, Word, [], ap, append_assoc, arith, codes, drop, false, if◌then◌else◌, nat_tests, refl, take, true, words_of, ℕ, ◌++◌, ◌+◌, ◌>>=◌, ◌∙◌, ◌∷◌, ◌≡◌}
use Rattle.std.proofs.Common.{bytes_eq, is_none, map, not, ok_or, option_map, position, suc}
use Rattle.std.specs.List.{before_first, position_or_len}
use Rattle.std.specs.Result.{result_err}
use Rattle.kob_names.specs.TextRules.{is_colon, principal_fault}
use Rattle.kob_names.specs.declared.principal.PrincipalFault.{PrincipalFault}
use Rattle.kob_names.specs.declared.principal.PrincipalFault.TheVariants.{NoColon, NotUser}
use Rattle.kob_scene_text.proofs.ReadBackLine.{AreWords, line_of, words_read}
use Rattle.kob_scene_text.proofs.ReadBackWords.{host_is_word, host_read, plain_word, principal_is_word, principal_read, text_word}
use Rattle.kob_scene_text.specs.PrintedRequest.{event_text, request_text}
use Rattle.kob_scene_text.specs.Rereading.{IsHost, IsPrincipal, ReadsBack}
use Rattle.kob_rights.specs.declared.request.Request.{Request}
use Rattle.kob_script.specs.CommandLines.{acl_commands, acl_request, asked_by, command_named, events_by, events_of, faults_in, line_fault, request_of, requests_by, row, row_fault, row_named}
use Rattle.kob_script.specs.Words.{earlier, first_kind, named_host, named_principal, unless_found}
use Rattle.kob_script.specs.declared.command.Command.{Command}
use Rattle.kob_script.specs.declared.command.Place.{Place}
use Rattle.kob_script.specs.declared.command.Place.TheVariants.{One, Texts}
use Rattle.kob_script.specs.declared.command.Slot.TheVariants as slot
use Rattle.kob_script.specs.declared.fault.FaultKind.{FaultKind}
use Rattle.kob_script.specs.declared.fault.FaultKind.TheVariants.{BadLine}
use Rattle.kob_words.proofs.Choices.{chosen_false}
use Rattle.kob_words.specs.Words.{bytes_text, spaced}

-- the words that a request is printed as ask for it
pub record IsAsked (request : Request) : Type 0 where
  pub name : List ℕ
  pub command : Command
  pub words : List Word
  pub printed : request_text request ≡ line_of (plain_word name ∷ words)
  pub are : AreWords (plain_word name ∷ words)
  pub no_options : bytes_eq name (codes "acl") ≡ false
  pub named : command_named name ≡ Some command
  pub faultless : first_kind (faults_in (row command) words) ≡ None
  pub asks : request_of command words ≡ Ok request

-- A principal begins with `User`, so that its line is no comment.

user_by : (none same : Bool) (others : Option PrincipalFault)
    → (if none then Some NoColon else (if not same then Some NotUser else others)) ≡ None → same ≡ true
user_by true same others valid = absurd cc
user_by false true others valid = refl
user_by false false others valid = absurd cc

begins_by : (colon : Bool) (byte n : ℕ) (rest : List ℕ)
    → bytes_eq (take (if not colon then 1 + n else 0) (byte ∷ rest)) (codes "User") ≡ true → byte ≡ 85
begins_by true byte n rest same = absurd cc
begins_by false byte n rest same =
    let next : 1 + n ≡ suc n = omega arith in
    let user = rw next at same in grind (arith, nat_tests)

pub begins_so : (byte : ℕ) (rest : List ℕ) → principal_fault (byte ∷ rest) ≡ None → byte ≡ 85
begins_so byte rest valid =
    let user = user_by (is_none (position is_colon (byte ∷ rest))) (bytes_eq (before_first is_colon (byte ∷ rest)) (codes "User")) _ valid in
    begins_by (is_colon byte) byte (position_or_len is_colon rest) rest user

pub begins : (text : List ℕ) → principal_fault text ≡ None → bytes_text text ≡ 85 ∷ bytes_text (drop 1 text)
begins [] valid = absurd cc
begins (byte ∷ rest) valid = ap (λ first. bytes_text (first ∷ rest)) (begins_so byte rest valid)

-- The words of a line that name a principal and a host, and then ask for a request.

abbrev fault_by : Result (List ℕ) FaultKind → Result (List ℕ) FaultKind → Option FaultKind → Option FaultKind
fault_by who from others = earlier (result_err who) (earlier (result_err from) others)

abbrev asked_for : Result (List ℕ) FaultKind → Result (List ℕ) FaultKind → Result (List Request) FaultKind
    → Result (List Event) FaultKind
asked_for who from requests =
    unless_found (earlier (result_err who) (result_err from))
    (who >>= λ principal. from >>= λ host. requests >>= λ found. Ok (events_by principal host found))

abbrev request_for : Option Command → List Word → Result (List Request) FaultKind
request_for found words = ok_or found BadLine >>= λ command. request_of command words >>= λ request. Ok (request ∷ [])

abbrev in_line : Option (List Place) → Option (List Place)
in_line places = option_map (λ others. One slot.Principal ∷ One slot.Host ∷ others) places

module _ (answer : Option CliArgs) (who from : Word) (principal host : List ℕ) (request : Request) (asked : IsAsked request)
    (is_who : named_principal who ≡ Ok principal) (is_from : named_host from ≡ Ok host) where
  row_found : row_named asked.name ≡ Some (row asked.command)
  row_found =
      chosen_false (bytes_eq asked.name (codes "acl")) (Some (Texts ∷ [])) (option_map row (command_named asked.name)) asked.no_options
      ∙ ap (option_map row) asked.named

  no_line_fault : line_fault (who ∷ from ∷ plain_word asked.name ∷ asked.words) ≡ None
  no_line_fault =
      let others = first_kind (faults_in (row asked.command) asked.words) in
      ap (λ places. row_fault (in_line places) (who ∷ from ∷ asked.words)) row_found
      ∙ ap (λ read. fault_by read (named_host from) others) is_who
      ∙ ap (λ read. fault_by (Ok principal) read others) is_from ∙ asked.faultless

  requests_read : requests_by answer asked.name asked.words ≡ Ok (request ∷ [])
  requests_read =
      chosen_false (bytes_eq asked.name (codes "acl")) (acl_commands answer >>= λ made. Ok (map acl_request made))
      (request_for (command_named asked.name) asked.words) asked.no_options
      ∙ ap (λ found. request_for found asked.words) asked.named
      ∙ ap (λ (read : Result Request FaultKind). read >>= λ found. Ok (found ∷ [])) asked.asks

  events_read : events_of answer (who ∷ from ∷ plain_word asked.name ∷ asked.words)
      ≡ Ok (record { principal = principal; host = host; request = request } ∷ [])
  unfolding events_of asked_by
  events_read =
      ap (λ fault. unless_found fault (asked_by answer (who ∷ from ∷ plain_word asked.name ∷ asked.words))) no_line_fault
      ∙ ap (λ read. asked_for read (named_host from) (requests_by answer asked.name asked.words)) is_who
      ∙ ap (λ read. asked_for (Ok principal) read (requests_by answer asked.name asked.words)) is_from
      ∙ ap (asked_for (Ok principal) (Ok host)) requests_read

module _ (event : Event) (who : IsPrincipal event.principal) (from : IsHost event.host) (asked : IsAsked event.request) where
  abbrev pub behind : List Word
  behind = text_word event.host ∷ plain_word asked.name ∷ asked.words

  -- the words of the line
  pub words_back : words_of (event_text event) ≡ Ok (text_word event.principal ∷ behind)
  words_back =
      let request : List Word = plain_word asked.name ∷ asked.words in
      let printed : event_text event ≡ line_of (text_word event.principal ∷ behind) =
      ap (λ text. spaced event.principal ++ spaced event.host ++ text) asked.printed
      ∙ append_assoc (spaced event.principal) (spaced event.host) (line_of request) in
      ap words_of printed
      ∙ words_read 85 (bytes_text (drop 1 event.principal)) (text_word event.principal) behind
      (begins event.principal who.valid) refl refl
      (principal_is_word event.principal who, (host_is_word event.host from, asked.are))

  -- what they ask for
  pub asked_back : (answer : Option CliArgs) → events_of answer (text_word event.principal ∷ behind) ≡ Ok (event ∷ [])
  asked_back answer =
      events_read answer (text_word event.principal) (text_word event.host) event.principal event.host event.request asked
      (principal_read (text_word event.principal) who) (host_read (text_word event.host) from)

  pub event_back : ReadsBack event
  event_back answer = ap (λ found. found >>= events_of answer) words_back ∙ asked_back answer
