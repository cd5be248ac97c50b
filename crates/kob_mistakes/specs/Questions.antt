-- Which word of a question is wrong, and what is missing there. Cited by private functions alone.
use Rattle.std.specs.Prelude.{ℕ, ◌+◌, ◌-◌, ◌&&◌, ◌||◌, ◌==◌, nat_lt, not, Bool, false, List, [], ◌∷◌, Option, Some, None, codes, drop, length, slice_get, unwrap_or, if◌then◌else◌}
use Rattle.std.specs.List.{list_any}
use Rattle.std.specs.Option.{is_some, option_map}
use Rattle.std.specs.Str.{bytes_eq}
use Rattle.kob_mistakes.specs.Commands.{is_command}
use Rattle.kob_mistakes.specs.Kinds.{kind_named}
use Rattle.kob_mistakes.specs.Rows.{misfit}
use Rattle.kob_mistakes.specs.declared.kinds.Kind.{Kind}
use Rattle.kob_mistakes.specs.declared.kinds.Kind.TheVariants as kind
use Rattle.kob_mistakes.specs.declared.rows.Fit.{Fit}
use Rattle.kob_mistakes.specs.declared.rows.Fit.TheVariants.{Principal, Host, Act, Topic, Group, Name, Id, Prefix, Operation, Resource, ManyNamed, Answer, May, How}
use Rattle.kob_script.specs.Places.{fault_place}
use Rattle.kob_script.specs.Words.{Word}
use Rattle.kob_script.specs.declared.fault.FaultKind.{FaultKind}
use Rattle.kob_words.specs.Words.{operation_named}

abbrev pub is_word : Word → List ℕ → Bool
is_word word text = bytes_eq word.decoded text

-- behind `produce TOPIC` a word that says how, alone
abbrev pub how_row : Word → List Fit
how_row how =
    if is_word how (codes "transactional")
    then Principal ∷ Host ∷ Act ∷ Topic ∷ How ∷ Id ∷ []
    else Principal ∷ Host ∷ Act ∷ Topic ∷ How ∷ []

-- produce TOPIC, produce TOPIC idempotent, or produce TOPIC transactional ID, by the words behind
-- `produce`; with more words it is a request
abbrev pub produced_row : List Word → Option (List Fit)
produced_row [] = Some (Principal ∷ Host ∷ Act ∷ Topic ∷ [])
produced_row (topic ∷ []) = Some (Principal ∷ Host ∷ Act ∷ Topic ∷ [])
produced_row (topic ∷ how ∷ []) = Some (how_row how)
produced_row (topic ∷ how ∷ id ∷ words) = None

-- by the third word behind `may`, and the words behind that
abbrev pub row_of : Word → List Word → Option (List Fit)
row_of command rest =
    if is_word command (codes "consume")
    then Some (Principal ∷ Host ∷ Act ∷ Topic ∷ Group ∷ [])
    else (if is_word command (codes "produce") then produced_row rest
    else (if is_some (operation_named command.decoded)
    then Some (Principal ∷ Host ∷ Operation ∷ Resource ∷ Name ∷ []) else None))

-- behind `may`; a request has no row
abbrev pub access_row : List Word → Option (List Fit)
access_row [] = Some (Principal ∷ Host ∷ Act ∷ [])
access_row (principal ∷ []) = Some (Principal ∷ Host ∷ Act ∷ [])
access_row (principal ∷ host ∷ []) = Some (Principal ∷ Host ∷ Act ∷ [])
access_row (principal ∷ host ∷ command ∷ rest) = row_of command rest

-- a word that says what is asked for
unfoldable pub is_act : Word → Bool
is_act word =
    is_some (operation_named word.decoded) || is_word word (codes "consume")
    || is_command word.decoded

-- behind `may`, PRINCIPAL and what is asked for, without HOST between them
abbrev pub lacks_host : List Word → Bool
lacks_host [] = false
lacks_host (principal ∷ []) = false
lacks_host (principal ∷ second ∷ []) = is_act second
lacks_host (principal ∷ second ∷ third ∷ rest) = is_act second && not (is_act third)

abbrev pub place_in : Option (List Fit) → FaultKind → List Word → ℕ
place_in (Some row) fault words = misfit row words
place_in None fault words = unwrap_or (fault_place fault words) 2

-- a request is judged as a script's
abbrev pub access_place : FaultKind → List Word → ℕ
access_place fault words =
    if lacks_host words then misfit (Principal ∷ []) words
    else place_in (access_row words) fault words

abbrev pub behind_expected : FaultKind → ℕ → List Word → ℕ
behind_expected fault place [] = place
behind_expected fault place (answer ∷ []) = place
behind_expected fault place (answer ∷ may ∷ rest) =
    if place == 2 then access_place fault rest + 2 else place

-- behind `expect`
abbrev pub expected_place : FaultKind → List Word → ℕ
expected_place fault words = behind_expected fault (misfit (Answer ∷ May ∷ []) words) words

abbrev pub first_is : List Word → List ℕ → Bool
first_is [] text = false
first_is (first ∷ rest) text = is_word first text

-- among the words behind `who` is `prefix`
abbrev pub has_prefix : List Word → Bool
has_prefix words = list_any (λ word. is_word word (codes "prefix")) words

-- behind `who`
abbrev pub right_row : List Word → List Fit
right_row words =
    if first_is words (codes "produce") && nat_lt (length words) 3 then Act ∷ Topic ∷ []
    else (if first_is words (codes "consume") && nat_lt (length words) 4
    then Act ∷ Topic ∷ Group ∷ []
    else (if has_prefix words then Operation ∷ ManyNamed ∷ Prefix ∷ Name ∷ []
    else (if nat_lt (length words) 4 then Operation ∷ Resource ∷ Name ∷ []
    else Operation ∷ Resource ∷ Name ∷ Host ∷ [])))

-- the place behind the first word
abbrev pub place_behind : Kind → FaultKind → List Word → ℕ
place_behind kind.May fault words = access_place fault words
place_behind kind.Expect fault words = expected_place fault words
place_behind kind.Who fault words = misfit (right_row words) words
place_behind kind.Rights fault words = misfit (Principal ∷ Host ∷ []) words
place_behind kind.Sees fault words = misfit (Principal ∷ Host ∷ []) words
place_behind kind.Topic fault words = misfit (Name ∷ []) words
place_behind kind.Summary fault words = misfit [] words
place_behind kind.Unused fault words = misfit [] words
place_behind kind.Shadowed fault words = misfit [] words
place_behind kind.Removable fault words = misfit [] words

abbrev pub place_of_kind : Option Kind → FaultKind → List Word → ℕ
place_of_kind None fault words = 0
place_of_kind (Some kind) fault words = place_behind kind fault words + 1

-- the place of the word that is wrong, by the first word of the line
abbrev pub place_by_name : FaultKind → List Word → ℕ
place_by_name fault [] = 0
place_by_name fault (first ∷ rest) = place_of_kind (kind_named first.decoded) fault rest

-- a row with more places than there are words; the word at a place does not fit it
abbrev pub missing_of_row : List Fit → List Word → ℕ → Option Fit
missing_of_row row words place =
    if nat_lt (length words) (length row) then slice_get row place else None

abbrev pub missing_in : Option (List Fit) → List Word → ℕ → Option Fit
missing_in None words place = None
missing_in (Some row) words place = missing_of_row row words place

-- behind `may`
abbrev pub missing_access : List Word → ℕ → Option Fit
missing_access words place =
    if lacks_host words && place == 1 then Some Host
    else missing_in (access_row words) words place

-- behind `expect`
abbrev pub missing_expected : List Word → ℕ → Option Fit
missing_expected (answer ∷ may ∷ rest) place =
    if nat_lt place 2 then None else missing_access rest (place - 2)
missing_expected words place = missing_of_row (Answer ∷ May ∷ []) words place

-- what the words behind the first one lack at the place that is wrong
abbrev pub missing_behind : Kind → List Word → ℕ → Option Fit
missing_behind kind.May words place = missing_access words place
missing_behind kind.Expect words place = missing_expected words place
missing_behind kind.Who words place = missing_of_row (right_row words) words place
missing_behind kind.Rights words place = missing_of_row (Principal ∷ []) words place
missing_behind kind.Sees words place = missing_of_row (Principal ∷ Host ∷ []) words place
missing_behind kind.Topic words place = missing_of_row (Name ∷ []) words place
missing_behind kind.Summary words place = None
missing_behind kind.Unused words place = None
missing_behind kind.Shadowed words place = None
missing_behind kind.Removable words place = None

abbrev pub missing_of_kind : Option Kind → List Word → ℕ → Option Fit
missing_of_kind None words place = None
missing_of_kind (Some kind) words place = missing_behind kind words place

-- what a question of too few words lacks at the place that is wrong
abbrev pub missing_at : List Word → ℕ → Option Fit
missing_at [] place = None
missing_at (first ∷ rest) place =
    if place == 0 then None else missing_of_kind (kind_named first.decoded) rest (place - 1)

-- what is said of it
abbrev pub missing_text : Fit → List ℕ
missing_text Principal = codes "PRINCIPAL is missing here, as User:alice"
missing_text Host = codes "HOST is missing here, as 10.0.0.1"
missing_text Act = codes "an operation, produce, consume or a request is missing here"
missing_text Topic = codes "TOPIC is missing here, as orders"
missing_text Group = codes "GROUP is missing here, as billing"
missing_text Name = codes "NAME is missing here, as orders"
missing_text Id = codes "a transactional ID is missing here"
missing_text Prefix = codes "prefix is missing here"
missing_text Operation = codes "OPERATION is missing here, as Read or Write"
missing_text Resource =
    codes "RESOURCE is missing here: Topic, Group, Cluster or TransactionalId"
missing_text ManyNamed = codes "RESOURCE is missing here: Topic, Group or TransactionalId"
missing_text Answer = codes "yes or no is missing here"
missing_text May = codes "may is missing here"
missing_text How = codes "idempotent or transactional is missing here"

abbrev pub missing_hint : List Word → ℕ → Option (List ℕ)
missing_hint words place = option_map missing_text (missing_at words place)

-- A blank may cut a name in two where a word stands that is one too many, or stands before what is
-- asked for.

abbrev pub has_act : List Word → Bool
has_act words = list_any is_act words

abbrev pub is_cut_access : List Word → ℕ → Bool
is_cut_access words place =
    place == 2 && has_act (drop 3 words) || nat_lt 4 place && nat_lt place (length words)

abbrev pub is_cut_behind : Kind → List Word → ℕ → Bool
is_cut_behind kind.May words place = is_cut_access words place
is_cut_behind kind.Expect words place = is_cut_access (drop 2 words) (place - 2)
is_cut_behind kind.Who words place = place == 4
is_cut_behind kind.Rights words place = place == 2
is_cut_behind kind.Sees words place = place == 2 && nat_lt 2 (length words)
is_cut_behind kind.Topic words place = false
is_cut_behind kind.Summary words place = false
is_cut_behind kind.Unused words place = false
is_cut_behind kind.Shadowed words place = false
is_cut_behind kind.Removable words place = false

abbrev pub is_cut_of_kind : Option Kind → List Word → ℕ → Bool
is_cut_of_kind None words place = false
is_cut_of_kind (Some kind) words place = is_cut_behind kind words place

-- at the place that is wrong
abbrev pub is_cut : List Word → ℕ → Bool
is_cut [] place = false
is_cut (first ∷ rest) place =
    not (place == 0) && is_cut_of_kind (kind_named first.decoded) rest (place - 1)
