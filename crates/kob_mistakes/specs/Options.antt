-- Which word is wrong among the options of `acl`.
use Rattle.std.specs.Prelude.{ℕ, ◌+◌, ◌-◌, ◌==◌, ◌&&◌, ◌||◌, Bool, true, false, not, List, [], ◌∷◌, Option, Some, None, codes, drop, find, nat_eq, option_map, slice_get, take, unwrap_or, if◌then◌else◌}
use Rattle.std.specs.List.{position, starts_with}
use Rattle.std.specs.Option.{is_some, option_or}
use Rattle.std.specs.Result.{is_ok}
use Rattle.std.specs.Str.{bytes_eq}
use Rattle.kob_mistakes.specs.Lines.{as_text}
use Rattle.kob_mistakes.specs.declared.option.Value.{Value}
use Rattle.kob_mistakes.specs.declared.option.Value.TheVariants.{Unknown, Flag, Principal, Host, Operation, Pattern, Any}
use Rattle.kob_script.specs.Words.{Word, host_of, principal_of}
use Rattle.kob_script.specs.declared.fault.FaultKind.{FaultKind}
use Rattle.kob_script.specs.declared.fault.FaultKind.TheVariants as kind
use Rattle.kob_words.specs.Words.{filter_pattern_named, operation_named}

-- the options, and what value each has
unfoldable pub options : List (List ℕ × Value)
options =
    (codes "--add", Flag) ∷ (codes "--remove", Flag) ∷ (codes "--list", Flag)
    ∷ (codes "--cluster", Flag) ∷ (codes "--producer", Flag) ∷ (codes "--consumer", Flag)
    ∷ (codes "--idempotent", Flag) ∷ (codes "--force", Flag)
    ∷ (codes "--allow-principal", Principal) ∷ (codes "--deny-principal", Principal)
    ∷ (codes "--principal", Principal) ∷ (codes "--allow-host", Host)
    ∷ (codes "--deny-host", Host) ∷ (codes "--operation", Operation)
    ∷ (codes "--resource-pattern-type", Pattern) ∷ (codes "--topic", Any)
    ∷ (codes "--group", Any) ∷ (codes "--transactional-id", Any)
    ∷ (codes "--bootstrap-server", Any) ∷ (codes "--command-config", Any) ∷ []

abbrev pub value_in : List (List ℕ × Value) → List ℕ → Value
value_in known name =
    unwrap_or (option_map (λ one. one.1) (find (λ one. bytes_eq one.0 name) known)) Unknown

unfoldable pub value_of : List ℕ → Value
value_of name = value_in options name

-- NAME=VALUE, or NAME
abbrev pub name_of : List ℕ → List ℕ
name_of word =
    unwrap_or (option_map (λ at. take at word) (position (λ byte. byte == 61) word)) word

abbrev pub given_of : List ℕ → Option (List ℕ)
given_of word = option_map (λ at. drop (at + 1) word) (position (λ byte. byte == 61) word)

-- an option whose words end with its own
abbrev pub is_whole : Value → Bool → Bool
is_whole Unknown is_given = false
is_whole Flag is_given = not is_given
is_whole Principal is_given = is_given
is_whole Host is_given = is_given
is_whole Operation is_given = is_given
is_whole Pattern is_given = is_given
is_whole Any is_given = is_given

-- an option whose value is the word behind it
abbrev pub takes_next : Value → Bool → Bool
takes_next Unknown is_given = false
takes_next Flag is_given = false
takes_next Principal is_given = not is_given
takes_next Host is_given = not is_given
takes_next Operation is_given = not is_given
takes_next Pattern is_given = not is_given
takes_next Any is_given = not is_given

abbrev pub stands_alone : List ℕ → Bool
stands_alone word = is_whole (value_of (name_of word)) (is_some (given_of word))

-- a word that may be the value of the option before it
abbrev pub is_value : Option (List ℕ) → Bool
is_value None = false
is_value (Some word) = not (starts_with nat_eq word (codes "-")) || bytes_eq word (codes "-")

abbrev pub takes_value : List ℕ → Option (List ℕ) → Bool
takes_value word next =
    takes_next (value_of (name_of word)) (is_some (given_of word)) && is_value next

-- whether the next word is the value of an option; none where a word is no option, nor such a value
unfoldable pub taken_after : Bool → List ℕ → Option (List ℕ) → Option Bool
taken_after is_taken word next =
    if is_taken || stands_alone word then Some false
    else (if takes_value word next then Some true else None)

-- what stands at a place
abbrev pub decoded_at : List Word → ℕ → Option (List ℕ)
decoded_at words place = option_map (λ word. word.decoded) (slice_get words place)

-- the place of the first word that is no option, nor the value of the option before it; the first of
-- these words stands at a place, and is such a value or not
unfoldable pub misplaced : Bool → ℕ → List Word → Option ℕ
misplaced is_taken place [] = None
misplaced is_taken place (word ∷ words) =
    if is_taken || stands_alone word.decoded then misplaced false (place + 1) words
    else (if takes_value word.decoded (decoded_at words 0) then misplaced true (place + 1) words
    else Some place)

-- any bytes are a value
unfoldable pub is_free : Value → Bool
is_free Unknown = true
is_free Flag = true
is_free Principal = false
is_free Host = false
is_free Operation = false
is_free Pattern = false
is_free Any = false

unfoldable pub is_valid_text : Value → List ℕ → Bool
is_valid_text Unknown text = true
is_valid_text Flag text = true
is_valid_text Principal text = is_ok (principal_of text)
is_valid_text Host text = is_ok (host_of text)
is_valid_text Operation text = is_some (operation_named text)
is_valid_text Pattern text = is_some (filter_pattern_named text)
is_valid_text Any text = true

abbrev pub is_valid_as : Value → Option (List ℕ) → Bool
is_valid_as kind None = is_free kind
is_valid_as kind (Some text) = is_valid_text kind text

abbrev pub is_valid : Value → List ℕ → Bool
is_valid kind value = is_valid_as kind (as_text value)

abbrev pub unless_valid : Value → List ℕ → ℕ → Option ℕ
unless_valid kind value place = if is_valid kind value then None else Some place

-- the value stands behind `=`, or is the next word
abbrev pub misnamed_by : Value → Option (List ℕ) → Option (List ℕ) → ℕ → Option ℕ
misnamed_by kind (Some value) next place = unless_valid kind value place
misnamed_by kind None (Some next) place = unless_valid kind next (place + 1)
misnamed_by kind None None place = None

abbrev pub misnamed_at : List ℕ → Option (List ℕ) → ℕ → Option ℕ
misnamed_at word next place =
    misnamed_by (value_of (name_of word)) (given_of word) next place

-- the place of the first value of an option that is not valid
unfoldable pub misnamed : ℕ → List Word → Option ℕ
misnamed place [] = None
misnamed place (word ∷ words) =
    option_or (misnamed_at word.decoded (decoded_at words 0) place) (misnamed (place + 1) words)

-- for malformed options and for a bad name; every other fault is one of all of them together
abbrev pub place_among : FaultKind → List Word → ℕ → Option ℕ
place_among kind.BadEscape words first = None
place_among kind.LateSetting words first = None
place_among kind.BadLine words first = None
place_among kind.BadText words first = None
place_among kind.BadPrincipal words first = None
place_among kind.BadHost words first = None
place_among kind.BadNumber words first = None
place_among kind.BadWord words first = None
place_among kind.Usage words first = misplaced false first (drop first words)
place_among kind.NoAction words first = None
place_among kind.BadName words first = misnamed first (drop first words)
place_among kind.BadMix words first = None
place_among kind.NoResource words first = None
place_among kind.NoPrincipal words first = None

-- else the place before the options
abbrev pub option_place : FaultKind → List Word → ℕ → ℕ
option_place fault words first = unwrap_or (place_among fault words first) (first - 1)
