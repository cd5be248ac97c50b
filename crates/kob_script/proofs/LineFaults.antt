-- The fault of a line, the first kind among those of its words, and how much words without one ask for.
use Rattle.kob_script.proofs.Imports.{AclCommand, BadLine, Bool, CliArgs, Command, CommandFault, Err, Event, Fails, Fault, FaultKind, Finds, GivesSeen, IsAmong, IsFirstFault, LineError, List, Memory, None, Ok, One, Option, Result, Some, Texts, Word, [], acl_commands, acl_request, arith, asks_by_acl, bytes_eq, codes, command_named, counted, earlier, error_of, false, first_kind, ok_or, if◌then◌else◌, inl, inr, length, length-map, line_fault, ltb-false, ltb-true, map, nat_tests, option_map, rank, refl, result_and, result_err, row, row_fault, true, unless_faults, unless_found, ℕ, ◌>>=◌, ◌∷◌, ◌≡◌, ◌≤◌, IsUtf8, is_utf8-from_IsUtf8, named_principal, principal_fault, get_or}
use Rattle.kob_script.specs.CommandLines.{asked_by, draft_of, events_of, filter_of, filter_pattern_of, known, request_of}
use Rattle.kob_script.proofs.Imports.{HidesNoFault, IsOk, Request, drop, events_by, faults_in, filter_row, slot_fault, sym, row_named, named_host, host_fault, unless_dash, Place}
use Rattle.kob_script.specs.declared.command.Command.TheVariants.{CreateTopic, DeleteTopic, Metadata, Produce, Fetch, ListOffsets, DeleteRecords, InitProducer, Commit, Committed, Groups, DeleteGroup, CreateAcl, DescribeAcls, DeleteAcls}
use Rattle.kob_script.specs.declared.command.Place.TheVariants.{OrDash, Records}
use Rattle.kob_script.specs.declared.command.Slot.TheVariants as slot
use Rattle.kob_words.specs.Words.{operation_named, pattern_named, permission_named, resource_named}
use Rattle.kob_script.specs.declared.command.Slot.{Slot}
use Rattle.kob_words.proofs.Choices.{chosen_false, chosen_true}
use Rattle.kob_script.specs.Words.{before_of, host_of, idem_of, number_of, principal_of, text_of, which_of}
use Rattle.kob_script.specs.declared.command.Slot.TheVariants.{Host, Principal}

-- the first of the faults is the one that reading gives
pub fails_first_of : (faults : List CommandFault) (fault : CommandFault) (commands : List AclCommand)
    → IsFirstFault faults fault → Fails (error_of fault) (unless_faults faults commands)
fails_first_of [] fault commands is_first = rw is_first tt
fails_first_of (first ∷ others) fault commands (inl is) = grind (arith, nat_tests)
fails_first_of (first ∷ others) fault commands (inr is) = rw is tt

-- what was read is dropped, and its fault kept
pub keeps_fault : {A B : Type 0} (view : A → B) (read : Result A LineError) (told : Result B FaultKind)
    (done : Result (Unit {0}) LineError) → GivesSeen view read told → HidesNoFault read (result_err told)
    → done ≡ result_and read (Ok tt) → Finds done (result_err told)
keeps_fault view (Ok x) told done gives hides is = rw (is, gives) refl
keeps_fault view (Err (Memory e)) told done gives hides is = rw is hides
keeps_fault view (Err (Fault kind)) told done gives hides is = rw (is, gives) refl

-- This is the first of the kinds among faults, if there are any.
abbrev pub IsFirst : Option FaultKind → List (Option FaultKind) → Type 0
IsFirst None faults = (kind : FaultKind) → IsAmong kind faults → ⊥
IsFirst (Some kind) faults =
    IsAmong kind faults × ((other : FaultKind) → IsAmong other faults → rank kind ≤ rank other)

behind_none : {P : Type 0} (kind : FaultKind) (faults : List (Option FaultKind)) → (IsAmong kind faults → P)
    → IsAmong kind (None ∷ faults) → P
behind_none kind faults next (inl is) = absurd cc
behind_none kind faults next (inr among) = next among

-- one fault more at the front
more : (one fault : Option FaultKind) (faults : List (Option FaultKind)) → IsFirst fault faults
    → IsFirst (earlier one fault) (one ∷ faults)
more None None faults nobody = λ kind. behind_none kind faults (nobody kind)
more None (Some kind) faults (among, least) = (inr among, λ other. behind_none other faults (least other))
more (Some one) None faults nobody = grind (arith, nat_tests)
more (Some one) (Some next) faults (among, least) = grind (arith, nat_tests, ltb-true, ltb-false)

first_of : (faults : List (Option FaultKind)) → IsFirst (first_kind faults) faults
first_of [] = λ kind among. among
first_of (fault ∷ faults) = more fault (first_kind faults) faults (first_of faults)

pub first_is : (faults : List (Option FaultKind)) (found : Option FaultKind) → first_kind faults ≡ found
    → IsFirst found faults
first_is faults found is = rw is at (first_of faults)

-- Words at the places of a row of which none has a fault are as many as the places.

first_none : (one : Option FaultKind) (faults : List (Option FaultKind)) → first_kind (one ∷ faults) ≡ None
    → (one ≡ None) × (first_kind faults ≡ None)
first_none None faults none = (refl, none)
first_none (Some kind) faults none = by (first_kind faults) none
  where
    by : (others : Option FaultKind) → earlier (Some kind) others ≡ None → (Some kind ≡ None) × (first_kind faults ≡ None)
    by None none = absurd cc
    by (Some other) none = absurd cc

module _ (P : List Word → Type 0) where
  at_end : (words : List Word) → first_kind (faults_in [] words) ≡ None → P [] → P words
  at_end [] none holds = holds
  at_end (word ∷ words) none holds = absurd cc

  at_one : (at : Slot) (places : List Place) (words : List Word) → first_kind (faults_in (One at ∷ places) words) ≡ None
      → ((word : Word) (others : List Word) → slot_fault at word ≡ None → first_kind (faults_in places others) ≡ None
      → P (word ∷ others)) → P words
  at_one at places [] none holds = absurd cc
  at_one at places (word ∷ others) none holds =
      let (here, more) = first_none (slot_fault at word) (faults_in places others) none in holds word others here more

  at_dash : (at : Slot) (places : List Place) (words : List Word) → first_kind (faults_in (OrDash at ∷ places) words) ≡ None
      → ((word : Word) (others : List Word) → (if bytes_eq word.raw (codes "-") then None else slot_fault at word) ≡ None
      → first_kind (faults_in places others) ≡ None → P (word ∷ others)) → P words
  at_dash at places [] none holds = absurd cc
  at_dash at places (word ∷ others) none holds =
      let fault = (if bytes_eq word.raw (codes "-") then None else slot_fault at word) in
      let (here, more) = first_none fault (faults_in places others) none in holds word others here more

-- a step of reading that has no fault
then_ok : {A B : Type 0} (read : Result A FaultKind) (f : A → Result B FaultKind) → result_err read ≡ None
    → ((x : A) → IsOk (f x)) → IsOk (read >>= f)
then_ok (Ok x) f none ok = ok x
then_ok (Err kind) f none ok = absurd cc

dash_ok : {A : Type 0} (read : Result A FaultKind) (word : Word)
    → (if bytes_eq word.raw (codes "-") then None else result_err read) ≡ None → result_err (unless_dash read word) ≡ None
dash_ok read word = by (bytes_eq word.raw (codes "-")) read
  where
    by : {A : Type 0} (dash : Bool) (read : Result A FaultKind) → (if dash then None else result_err read) ≡ None
        → result_err (if dash then Ok None else (read >>= λ part. Ok (Some part))) ≡ None
    by true read none = refl
    by false (Ok part) none = refl
    by false (Err kind) none = none

filter_reads : (words : List Word) → first_kind (faults_in filter_row words) ≡ None → IsOk (filter_of words)
unfolding filter_of
filter_reads words none =
    at_dash (λ ws. IsOk (filter_of ws)) slot.Resource (OrDash slot.Text ∷ One slot.FilterPattern ∷ OrDash slot.Principal ∷ OrDash slot.Host ∷ OrDash slot.Operation ∷ OrDash slot.Permission ∷ []) words none λ a w1 f1 n1.
    at_dash (λ ws. IsOk (filter_of (a ∷ ws))) slot.Text (One slot.FilterPattern ∷ OrDash slot.Principal ∷ OrDash slot.Host ∷ OrDash slot.Operation ∷ OrDash slot.Permission ∷ []) w1 n1 λ b w2 f2 n2.
    at_one (λ ws. IsOk (filter_of (a ∷ b ∷ ws))) slot.FilterPattern (OrDash slot.Principal ∷ OrDash slot.Host ∷ OrDash slot.Operation ∷ OrDash slot.Permission ∷ []) w2 n2 λ c w3 f3 n3.
    at_dash (λ ws. IsOk (filter_of (a ∷ b ∷ c ∷ ws))) slot.Principal (OrDash slot.Host ∷ OrDash slot.Operation ∷ OrDash slot.Permission ∷ []) w3 n3 λ d w4 f4 n4.
    at_dash (λ ws. IsOk (filter_of (a ∷ b ∷ c ∷ d ∷ ws))) slot.Host (OrDash slot.Operation ∷ OrDash slot.Permission ∷ []) w4 n4 λ e w5 f5 n5.
    at_dash (λ ws. IsOk (filter_of (a ∷ b ∷ c ∷ d ∷ e ∷ ws))) slot.Operation (OrDash slot.Permission ∷ []) w5 n5 λ f w6 f6 n6.
    at_dash (λ ws. IsOk (filter_of (a ∷ b ∷ c ∷ d ∷ e ∷ f ∷ ws))) slot.Permission [] w6 n6 λ g w7 f7 n7.
    at_end (λ ws. IsOk (filter_of (a ∷ b ∷ c ∷ d ∷ e ∷ f ∷ g ∷ ws))) w7 n7
    (then_ok (unless_dash (known resource_named a) a) _ (dash_ok (known resource_named a) a f1) λ _.
    then_ok (filter_pattern_of c) _ f3 λ _.
    then_ok (unless_dash (known operation_named f) f) _ (dash_ok (known operation_named f) f f6) λ _.
    then_ok (unless_dash (known permission_named g) g) _ (dash_ok (known permission_named g) g f7) λ _.
    then_ok (unless_dash (text_of b) b) _ (dash_ok (text_of b) b f2) λ _.
    then_ok (unless_dash (named_principal d) d) _ (dash_ok (named_principal d) d f4) λ _.
    then_ok (unless_dash (named_host e) e) _ (dash_ok (named_host e) e f5) λ _. refl)

draft_reads : (words : List Word) → first_kind (faults_in (row CreateAcl) words) ≡ None → IsOk (draft_of words)
unfolding draft_of
draft_reads words none =
    at_one (λ ws. IsOk (draft_of ws)) slot.Permission (One slot.Principal ∷ One slot.Host ∷ One slot.Operation ∷ One slot.Resource ∷ One slot.Pattern ∷ One slot.Text ∷ []) words none λ a w1 f1 n1.
    at_one (λ ws. IsOk (draft_of (a ∷ ws))) slot.Principal (One slot.Host ∷ One slot.Operation ∷ One slot.Resource ∷ One slot.Pattern ∷ One slot.Text ∷ []) w1 n1 λ b w2 f2 n2.
    at_one (λ ws. IsOk (draft_of (a ∷ b ∷ ws))) slot.Host (One slot.Operation ∷ One slot.Resource ∷ One slot.Pattern ∷ One slot.Text ∷ []) w2 n2 λ c w3 f3 n3.
    at_one (λ ws. IsOk (draft_of (a ∷ b ∷ c ∷ ws))) slot.Operation (One slot.Resource ∷ One slot.Pattern ∷ One slot.Text ∷ []) w3 n3 λ d w4 f4 n4.
    at_one (λ ws. IsOk (draft_of (a ∷ b ∷ c ∷ d ∷ ws))) slot.Resource (One slot.Pattern ∷ One slot.Text ∷ []) w4 n4 λ e w5 f5 n5.
    at_one (λ ws. IsOk (draft_of (a ∷ b ∷ c ∷ d ∷ e ∷ ws))) slot.Pattern (One slot.Text ∷ []) w5 n5 λ f w6 f6 n6.
    at_one (λ ws. IsOk (draft_of (a ∷ b ∷ c ∷ d ∷ e ∷ f ∷ ws))) slot.Text [] w6 n6 λ g w7 f7 n7.
    at_end (λ ws. IsOk (draft_of (a ∷ b ∷ c ∷ d ∷ e ∷ f ∷ g ∷ ws))) w7 n7
    (then_ok (known permission_named a) _ f1 λ _. then_ok (known operation_named d) _ f4 λ _.
    then_ok (known resource_named e) _ f5 λ _. then_ok (known pattern_named f) _ f6 λ _.
    then_ok (text_of g) _ f7 λ _. then_ok (named_principal b) _ f2 λ _. then_ok (named_host c) _ f3 λ _. refl)

map_ok : {A B : Type 0} (f : A → B) (read : Result A FaultKind) → IsOk read → IsOk (read >>= λ x. Ok (f x))
map_ok f (Ok x) ok = refl
map_ok f (Err kind) ok = absurd cc

-- Words without a fault are read.
pub reads : (command : Command) (words : List Word) → row_fault (Some (row command)) words ≡ None
    → IsOk (request_of command words)
unfolding request_of
reads CreateTopic words none =
    at_one (λ ws. IsOk (request_of CreateTopic ws)) slot.Text (One slot.Number ∷ []) words none λ a w1 f1 n1.
    at_one (λ ws. IsOk (request_of CreateTopic (a ∷ ws))) slot.Number [] w1 n1 λ b w2 f2 n2.
    at_end (λ ws. IsOk (request_of CreateTopic (a ∷ b ∷ ws))) w2 n2
    (then_ok (text_of a) _ f1 λ _. then_ok (number_of b) _ f2 λ _. refl)
reads DeleteTopic words none =
    at_one (λ ws. IsOk (request_of DeleteTopic ws)) slot.Text [] words none λ a w1 f1 n1.
    at_end (λ ws. IsOk (request_of DeleteTopic (a ∷ ws))) w1 n1
    (then_ok (text_of a) _ f1 λ _. refl)
reads Metadata [] none = refl
reads Metadata (a ∷ words) none =
    let (f1, n1) = first_none (slot_fault slot.Text a) (faults_in [] words) none in
    at_end (λ ws. IsOk (request_of Metadata (a ∷ ws))) words n1 (then_ok (text_of a) _ f1 λ _. refl)
reads Produce words none =
    at_one (λ ws. IsOk (request_of Produce ws)) slot.Text (One slot.Number ∷ One slot.Producer ∷ Records ∷ []) words none λ a w1 f1 n1.
    at_one (λ ws. IsOk (request_of Produce (a ∷ ws))) slot.Number (One slot.Producer ∷ Records ∷ []) w1 n1 λ b w2 f2 n2.
    at_one (λ ws. IsOk (request_of Produce (a ∷ b ∷ ws))) slot.Producer (Records ∷ []) w2 n2 λ c w3 f3 n3.
    (then_ok (text_of a) _ f1 λ _. then_ok (number_of b) _ f2 λ _. then_ok (idem_of c) _ f3 λ _. refl)
reads Fetch words none =
    at_one (λ ws. IsOk (request_of Fetch ws)) slot.Text (One slot.Number ∷ One slot.Number ∷ One slot.Number ∷ []) words none λ a w1 f1 n1.
    at_one (λ ws. IsOk (request_of Fetch (a ∷ ws))) slot.Number (One slot.Number ∷ One slot.Number ∷ []) w1 n1 λ b w2 f2 n2.
    at_one (λ ws. IsOk (request_of Fetch (a ∷ b ∷ ws))) slot.Number (One slot.Number ∷ []) w2 n2 λ c w3 f3 n3.
    at_one (λ ws. IsOk (request_of Fetch (a ∷ b ∷ c ∷ ws))) slot.Number [] w3 n3 λ d w4 f4 n4.
    at_end (λ ws. IsOk (request_of Fetch (a ∷ b ∷ c ∷ d ∷ ws))) w4 n4
    (then_ok (text_of a) _ f1 λ _. then_ok (number_of b) _ f2 λ _. then_ok (number_of c) _ f3 λ _.
    then_ok (number_of d) _ f4 λ _. refl)
reads ListOffsets words none =
    at_one (λ ws. IsOk (request_of ListOffsets ws)) slot.Text (One slot.Number ∷ One slot.StartOrEnd ∷ []) words none λ a w1 f1 n1.
    at_one (λ ws. IsOk (request_of ListOffsets (a ∷ ws))) slot.Number (One slot.StartOrEnd ∷ []) w1 n1 λ b w2 f2 n2.
    at_one (λ ws. IsOk (request_of ListOffsets (a ∷ b ∷ ws))) slot.StartOrEnd [] w2 n2 λ c w3 f3 n3.
    at_end (λ ws. IsOk (request_of ListOffsets (a ∷ b ∷ c ∷ ws))) w3 n3
    (then_ok (text_of a) _ f1 λ _. then_ok (number_of b) _ f2 λ _. then_ok (which_of c) _ f3 λ _. refl)
reads DeleteRecords words none =
    at_one (λ ws. IsOk (request_of DeleteRecords ws)) slot.Text (One slot.Number ∷ One slot.OffsetOrEnd ∷ []) words none λ a w1 f1 n1.
    at_one (λ ws. IsOk (request_of DeleteRecords (a ∷ ws))) slot.Number (One slot.OffsetOrEnd ∷ []) w1 n1 λ b w2 f2 n2.
    at_one (λ ws. IsOk (request_of DeleteRecords (a ∷ b ∷ ws))) slot.OffsetOrEnd [] w2 n2 λ c w3 f3 n3.
    at_end (λ ws. IsOk (request_of DeleteRecords (a ∷ b ∷ c ∷ ws))) w3 n3
    (then_ok (text_of a) _ f1 λ _. then_ok (number_of b) _ f2 λ _. then_ok (before_of c) _ f3 λ _. refl)
reads InitProducer words none = at_end (λ ws. IsOk (request_of InitProducer ws)) words none refl
reads Commit words none =
    at_one (λ ws. IsOk (request_of Commit ws)) slot.Text (One slot.Text ∷ One slot.Number ∷ One slot.Number ∷ []) words none λ a w1 f1 n1.
    at_one (λ ws. IsOk (request_of Commit (a ∷ ws))) slot.Text (One slot.Number ∷ One slot.Number ∷ []) w1 n1 λ b w2 f2 n2.
    at_one (λ ws. IsOk (request_of Commit (a ∷ b ∷ ws))) slot.Number (One slot.Number ∷ []) w2 n2 λ c w3 f3 n3.
    at_one (λ ws. IsOk (request_of Commit (a ∷ b ∷ c ∷ ws))) slot.Number [] w3 n3 λ d w4 f4 n4.
    at_end (λ ws. IsOk (request_of Commit (a ∷ b ∷ c ∷ d ∷ ws))) w4 n4
    (then_ok (text_of a) _ f1 λ _. then_ok (text_of b) _ f2 λ _. then_ok (number_of c) _ f3 λ _.
    then_ok (number_of d) _ f4 λ _. refl)
reads Committed words none =
    at_one (λ ws. IsOk (request_of Committed ws)) slot.Text (One slot.Text ∷ One slot.Number ∷ []) words none λ a w1 f1 n1.
    at_one (λ ws. IsOk (request_of Committed (a ∷ ws))) slot.Text (One slot.Number ∷ []) w1 n1 λ b w2 f2 n2.
    at_one (λ ws. IsOk (request_of Committed (a ∷ b ∷ ws))) slot.Number [] w2 n2 λ c w3 f3 n3.
    at_end (λ ws. IsOk (request_of Committed (a ∷ b ∷ c ∷ ws))) w3 n3
    (then_ok (text_of a) _ f1 λ _. then_ok (text_of b) _ f2 λ _. then_ok (number_of c) _ f3 λ _. refl)
reads Groups words none = at_end (λ ws. IsOk (request_of Groups ws)) words none refl
reads DeleteGroup words none =
    at_one (λ ws. IsOk (request_of DeleteGroup ws)) slot.Text [] words none λ a w1 f1 n1.
    at_end (λ ws. IsOk (request_of DeleteGroup (a ∷ ws))) w1 n1
    (then_ok (text_of a) _ f1 λ _. refl)
reads CreateAcl words none = map_ok _ (draft_of words) (draft_reads words none)
reads DescribeAcls words none = map_ok _ (filter_of words) (filter_reads words none)
reads DeleteAcls words none = map_ok _ (filter_of words) (filter_reads words none)

-- a fault that is none keeps nothing from being counted
count_found : {A : Type 0} (one other : Option FaultKind) (read : Result (List A) FaultKind) (count : Result ℕ FaultKind)
    → one ≡ None → other ≡ None → counted read ≡ count → counted (unless_found (earlier one other) read) ≡ count
count_found one other read count none1 none2 is = rw (none1, none2) is

-- a step after which another count stays
count_then : {A B : Type 0} (read : Result A FaultKind) (f : A → Result (List B) FaultKind) (count : Result ℕ FaultKind)
    → result_err read ≡ None → ((x : A) → counted (f x) ≡ count) → counted (read >>= f) ≡ count
count_then (Ok x) f count none is = is x
count_then (Err kind) f count none is = absurd cc

-- as many events as commands
as_many : (principal host : List ℕ) (told : Result (List AclCommand) FaultKind)
    → counted ((told >>= λ made. Ok (map acl_request made)) >>= λ asked. Ok (events_by principal host asked)) ≡ counted told
as_many principal host (Ok made) = grind (arith, nat_tests, length-map)
as_many principal host (Err kind) = refl

one_event : (principal host : List ℕ) (request : Result Request FaultKind) → IsOk request
    → counted ((request >>= λ made. Ok (made ∷ [])) >>= λ asked. Ok (events_by principal host asked)) ≡ Ok 1
one_event principal host (Ok made) ok = refl
one_event principal host (Err kind) ok = absurd cc

counted_unless : {A : Type 0} (fault : Option FaultKind) (read : Result (List A) FaultKind) (count : Result ℕ FaultKind)
    → (fault ≡ None → counted read ≡ count) → counted (unless_found fault read) ≡ unless_found fault count
counted_unless None read count is = is refl
counted_unless (Some kind) read count is = refl

-- the words for who asks, and what is asked
abbrev pub who_asks : Word → Word → Result (List Request) FaultKind → Result (List Event) FaultKind
who_asks who from asked =
    unless_found (earlier (result_err (named_principal who)) (result_err (named_host from)))
    (named_principal who >>= λ principal. named_host from >>= λ host. asked >>= λ requests. Ok (events_by principal host requests))

counted_by_fault : (answer : Option CliArgs) (words : List Word)
    → counted (events_of answer words)
    ≡ unless_found (line_fault words) (if asks_by_acl words then counted (acl_commands answer) else Ok 1)
unfolding events_of asked_by
counted_by_fault answer (who ∷ from ∷ command ∷ words) =
    by (bytes_eq command.decoded (codes "acl")) (command_named command.decoded)
  where
    by : (acl : Bool) (found : Option Command)
        → let fault = row_fault (option_map (λ places. One Principal ∷ One Host ∷ places) (if acl then Some (Texts ∷ []) else option_map row found)) (who ∷ from ∷ words)
        in counted (unless_found fault (who_asks who from (if acl then (acl_commands answer >>= λ made. Ok (map acl_request made))
        else (ok_or found BadLine >>= λ known. request_of known words >>= λ request. Ok (request ∷ [])))))
        ≡ unless_found fault (if acl then counted (acl_commands answer) else Ok 1)
    by true found = counted_unless _ _ _ λ none.
        let (f1, n1) = first_none (slot_fault Principal who) (slot_fault Host from ∷ faults_in (Texts ∷ []) words) none in
        let (f2, n2) = first_none (slot_fault Host from) (faults_in (Texts ∷ []) words) n1 in
        count_found _ _ _ _ f1 f2
        (count_then _ _ _ f1 λ principal. count_then _ _ _ f2 λ host. as_many principal host (acl_commands answer))
    by false None = refl
    by false (Some known) = counted_unless _ _ (Ok 1) λ none.
        let (f1, n1) = first_none (slot_fault Principal who) (slot_fault Host from ∷ faults_in (row known) words) none in
        let (f2, n2) = first_none (slot_fault Host from) (faults_in (row known) words) n1 in
        count_found _ _ _ _ f1 f2
        (count_then _ _ _ f1 λ principal. count_then _ _ _ f2 λ host. one_event principal host (request_of known words) (reads known words n2))
counted_by_fault answer _ = refl

-- a line that has no fault asks for one thing, or by `acl` for as many as there are commands
pub line_counted : (answer : Option CliArgs) (words : List Word) → line_fault words ≡ None
    → counted (events_of answer words) ≡ (if asks_by_acl words then counted (acl_commands answer) else Ok 1)
line_counted answer words none = rw none at (counted_by_fault answer words)

-- whether a line asks by `acl` is told by its third word
pub asks_acl : (words : List Word) (command : Word) → 3 ≤ length words → command ≡ get_or words 2 command
    → bytes_eq command.decoded (codes "acl") ≡ true → asks_by_acl words ≡ true
asks_acl (who ∷ from ∷ third ∷ arguments) command many is acl = rw is at acl
asks_acl _ command many is acl = absurd (omega (arith, many))

pub uncounts : {A : Type 0} (read : Result (List A) FaultKind) (e : LineError) → Fails e read → Fails e (counted read)
uncounts read (Memory e) fails = tt
uncounts read (Fault kind) fails = rw fails refl

pub one_counted : (answer : Option CliArgs) (words : List Word) → line_fault words ≡ None → asks_by_acl words ≡ false
    → counted (events_of answer words) ≡ Ok 1
one_counted answer words none plain = grind (arith, nat_tests, line_counted, chosen_false)

-- the fault of a line's words is that of the line
pub count_fails : (answer : Option CliArgs) (words : List Word) (e : LineError) → Finds (Err e) (line_fault words)
    → Fails e (counted (events_of answer words))
count_fails answer words (Memory e) found = tt
count_fails answer words (Fault kind) found = rw found at (counted_by_fault answer words)

-- what was counted can be read, and what was not has that fault
pub were_counted : {A : Type 0} (read : Result (List A) FaultKind) (count : ℕ) → counted read ≡ Ok count
    → (items : List A) × (read ≡ Ok items) × (count ≡ length items)
were_counted (Ok items) count is = (items, refl, cc)
were_counted (Err kind) count is = absurd cc

-- what words without a fault ask for is what their line asks for
pub were_asked : (answer : Option CliArgs) (words : List Word) (count : ℕ) (events : List Event)
    → counted (events_of answer words) ≡ Ok count → asked_by answer words ≡ Ok events → events_of answer words ≡ Ok events
unfolding events_of
were_asked answer words count events counts asked = grind (arith, nat_tests)

-- why a line that was counted is not read
pub asked_fails : (answer : Option CliArgs) (words : List Word) (count : ℕ) (e : LineError)
    → counted (events_of answer words) ≡ Ok count → Fails e (asked_by answer words) → Fails e (events_of answer words)
unfolding events_of
asked_fails answer words count (Memory e) counts fails = tt
asked_fails answer words count (Fault kind) counts fails = grind (arith, nat_tests)

pub uncounted : {A : Type 0} (read : Result (List A) FaultKind) (e : LineError) → Fails e (counted read) → Fails e read
uncounted read (Memory e) fails = tt
uncounted (Ok items) (Fault kind) fails = absurd cc
uncounted (Err other) (Fault kind) fails = cc

-- the principal and the host that were read last, if words name them again
pub principal_again : (word : Word) (kept : List ℕ) → IsUtf8 kept → principal_fault kept ≡ None → word.decoded ≡ kept
    → named_principal word ≡ Ok kept
unfolding principal_of
principal_again word kept text valid same = grind (arith, nat_tests, chosen_true, is_utf8-from_IsUtf8)

pub host_again : (word : Word) (kept : List ℕ) → IsUtf8 kept → host_fault kept ≡ None → word.decoded ≡ kept
    → named_host word ≡ Ok kept
unfolding host_of
host_again word kept text valid same = grind (arith, nat_tests, chosen_true, is_utf8-from_IsUtf8)

-- of three faults that whose kind comes first
earlier_of_three : (a b c : Option FaultKind) → earlier a (earlier b c) ≡ earlier (earlier a b) c
earlier_of_three None b c = refl
earlier_of_three (Some a) None c = refl
earlier_of_three (Some a) (Some b) None = refl
earlier_of_three (Some a) (Some b) (Some c) = grind (arith, nat_tests, ltb-true, ltb-false)

-- the faults of who asks, and then those of the other words
pub asker_before_others : (words : List Word) (who from command : Word) (places : List Place) (found : Result (Unit {0}) LineError)
    → 3 ≤ length words → who ≡ get_or words 0 who → from ≡ get_or words 1 from → command ≡ get_or words 2 command
    → row_named command.decoded ≡ Some places
    → Finds found (earlier (earlier (result_err (named_principal who)) (result_err (named_host from)))
    (first_kind (faults_in places (drop 3 words))))
    → Finds found (line_fault words)
asker_before_others (a ∷ b ∷ c ∷ others) who from command places found many is0 is1 is2 row_is finds =
    rw (sym is0, sym is1, sym is2, row_is, earlier_of_three) finds
asker_before_others _ who from command places found many is0 is1 is2 row_is finds = absurd (omega (arith, many))
