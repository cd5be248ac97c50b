-- Names of workers, and who works under them.
use Rattle.std.specs.Prelude.{ℕ, Bool, not, ◌&&◌, ◌||◌, ◌==◌, List, Option, Some, None, Result, Ok, Err, codes, length, nat_le, if◌then◌else◌, [], ◌∷◌, ◌+◌, take, drop}
use Rattle.std.specs.Char.{is_ascii_alphanumeric}
use Rattle.std.specs.List.{list_all, position}
use Rattle.std.specs.Option.{is_some, option_map}
use Rattle.std.specs.Str.{bytes_eq}
use Rattle.kob_script.specs.declared.fault.FaultKind.{FaultKind}
use Rattle.kob_script.specs.Words.{◌>>=◌, each, text_of, principal_of, host_of, Word, number_of, word_of}
use Rattle.kob_scene_text.specs.declared.fault.SceneFaultKind.{SceneFaultKind}
use Rattle.kob_scene_text.specs.declared.fault.SceneFaultKind.TheVariants.{BadWorkerName, NameTaken, BadPartitions, BadMax, BadRoute}
use Rattle.kob_scene_text.specs.declared.name.Who.{Who}
use Rattle.kob_scene_text.specs.declared.name.Worker.{Worker}
use Rattle.kob_scene_text.specs.declared.scene.Consumer.{Consumer}
use Rattle.kob_scene_text.specs.declared.scene.Sending.{Sending}
use Rattle.kob_scene_text.specs.declared.scene.Sending.TheVariants.{Proved, RetriesNew, DeletesFirst, NotIdempotent, Separate, VisibleLate}
use Rattle.kob_scene_text.specs.declared.scene.Service.{Service}
use Rattle.kob_scene_text.specs.declared.scene.Start.{Start}
use Rattle.kob_scene_text.specs.declared.scene.Start.TheVariants.{Earliest, Latest}
use Rattle.kob_scene_text.specs.declared.scene.Taking.{Taking}
use Rattle.kob_scene_text.specs.declared.scene.Taking.TheVariants as takings
use Rattle.kob_scene_text.specs.Reading.{as_scripts, ◌>>>◌, bad_line}
use Rattle.kob_router.specs.declared.placement.Placed.{Placed}
use Rattle.kob_router.specs.declared.settings.RouteBy.{RouteBy}
use Rattle.kob_router.specs.declared.settings.RouteBy.TheVariants.{AggregateType, AggregateId}
use Rattle.kob_router.specs.declared.settings.RouteSettings.{RouteSettings}
use Rattle.kob_router.specs.declared.settings.Routing.{Routing}
use Rattle.kob_router.specs.Route.{entries_of, is_template}
use Rattle.kob_script.specs.declared.fault.FaultKind.TheVariants.{BadLine, BadWord}
use Rattle.kob_scene_text.specs.declared.service_lines.DeclaredService.{DeclaredService}
use Rattle.bstr.specs.Find.{first_of, matches}
use Rattle.kob_router.specs.declared.place.Place.{Place}
use Rattle.kob_scene_text.specs.declared.consumer_lines.DeclaredConsumer.{DeclaredConsumer}
use Rattle.kob_scene_text.specs.declared.name.Worker.TheVariants as workers

-- the place of the service, or the consumer, of a name
abbrev pub service_named : List Service → List ℕ → Option ℕ
service_named services name = position (λ service. bytes_eq service.name name) services

abbrev pub consumer_named : List Consumer → List ℕ → Option ℕ
consumer_named consumers name = position (λ consumer. bytes_eq consumer.name name) consumers

-- a service, else a consumer
abbrev pub worker_at : Option ℕ → Option ℕ → Option Worker
worker_at (Some place) consumer = Some (workers.Service place)
worker_at None consumer = option_map workers.Consumer consumer

-- the worker of a name
abbrev pub worker_named : List Service → List Consumer → List ℕ → Option Worker
worker_named services consumers name =
    worker_at (service_named services name) (consumer_named consumers name)

-- the first words that begin a line of their own
abbrev pub is_keyword : List ℕ → Bool
is_keyword name =
    bytes_eq name (codes "super") || bytes_eq name (codes "everyone")
    || bytes_eq name (codes "service") || bytes_eq name (codes "consumer")
    || bytes_eq name (codes "journal") || bytes_eq name (codes "law")
    || bytes_eq name (codes "check") || bytes_eq name (codes "expect")

-- a letter, a digit, a dash or an underscore
abbrev pub is_name_byte : ℕ → Bool
is_name_byte byte = is_ascii_alphanumeric byte || byte == 45 || byte == 95

-- 1 to 64 of them, no keyword, and not `-`, by which the journal names whom a scene's own requests
-- are from
abbrev pub is_name : List ℕ → Bool
is_name name =
    not (length name == 0) && nat_le (length name) 64 && not (is_keyword name)
    && not (bytes_eq name (codes "-")) && list_all is_name_byte name

-- a name that is declared now
abbrev pub new_name : List Service → List Consumer → Word → Result (List ℕ) SceneFaultKind
new_name services consumers word =
    if not (is_name word.decoded) then Err BadWorkerName
    else (if is_some (worker_named services consumers word.decoded) then Err NameTaken
    else as_scripts (text_of word))

-- who a worker is, and where
abbrev pub who_of : Word → Word → Result Who FaultKind
who_of principal host =
    text_of principal >>= principal_of >>= λ principal.
    text_of host >>= host_of >>= λ host. Ok (record { principal = principal; host = host })

-- Lines that declare a service, behind its name.

-- the column of a word
abbrev pub by_named : Word → Result RouteBy FaultKind
by_named word =
    if bytes_eq word.decoded (codes "aggregatetype") then Ok AggregateType
    else (if bytes_eq word.decoded (codes "aggregateid") then Ok AggregateId else Err BadWord)

-- `by COLUMN` where the words begin so, and the words behind it
abbrev pub by_first : List Word → Result (RouteBy × List Word) FaultKind
by_first (keyword ∷ word ∷ rest) =
    if bytes_eq keyword.decoded (codes "by") then (by_named word >>= λ by. Ok (by, rest))
    else Ok (AggregateType, keyword ∷ word ∷ rest)
by_first words = Ok (AggregateType, words)

-- a keyword's text where the words begin with it, else a default, and the words behind it
abbrev pub text_first : List ℕ → List ℕ → List Word → Result (List ℕ × List Word) FaultKind
text_first expected default (keyword ∷ word ∷ rest) =
    if bytes_eq keyword.decoded expected then (text_of word >>= λ text. Ok (text, rest))
    else Ok (default, keyword ∷ word ∷ rest)
text_first expected default words = Ok (default, words)

abbrev pub settings_at_end : RouteBy → List ℕ → List ℕ → List Word
    → Result RouteSettings FaultKind
settings_at_end by replacement placement [] =
    Ok (record { by = by; replacement = replacement; placement = placement })
settings_at_end by replacement placement (word ∷ words) = Err BadLine

-- [by COLUMN] [replacement TEXT] [placement TEXT], else as by default
abbrev pub settings_of : List Word → Result RouteSettings FaultKind
settings_of words =
    by_first words >>= λ by.
    text_first (codes "replacement") (codes "outbox.event.${routedByValue}") by.1
    >>= λ replacement. text_first (codes "placement") [] replacement.1
    >>= λ placement. settings_at_end by.0 replacement.0 placement.0 placement.1

abbrev pub route_placed : RouteSettings → Option (List Placed) → Result Routing SceneFaultKind
route_placed settings None = Err BadRoute
route_placed settings (Some entries) =
    Ok (record { by = settings.by; template = settings.replacement; placement = entries })

-- the route by settings
abbrev pub route_of : RouteSettings → Result Routing SceneFaultKind
route_of settings =
    if is_template settings.replacement then route_placed settings (entries_of settings.placement)
    else Err BadRoute

-- 1 to 1,000 partitions
abbrev pub partitions_of : Word → Result ℕ SceneFaultKind
partitions_of word =
    as_scripts (number_of word) >>> λ number.
    if nat_le 1 number && nat_le number 1000 then Ok number else Err BadPartitions

-- the variant that two words name
abbrev pub sending_of : Word → Word → Option Sending
sending_of one other =
    if bytes_eq one.decoded (codes "retries") && bytes_eq other.decoded (codes "new")
    then Some RetriesNew
    else (if bytes_eq one.decoded (codes "deletes") && bytes_eq other.decoded (codes "first")
    then Some DeletesFirst
    else (if bytes_eq one.decoded (codes "not") && bytes_eq other.decoded (codes "idempotent")
    then Some NotIdempotent
    else (if bytes_eq one.decoded (codes "visible") && bytes_eq other.decoded (codes "late")
    then Some VisibleLate else None)))

abbrev pub sending_by : Option Sending → List Word → List Word → Sending × List Word
sending_by None all rest = (Proved, all)
sending_by (Some sending) all rest = (sending, rest)

-- a variant of two words where the words begin with them
abbrev pub sending_pair : List Word → Sending × List Word
sending_pair (one ∷ other ∷ rest) = sending_by (sending_of one other) (one ∷ other ∷ rest) rest
sending_pair words = (Proved, words)

-- a variant where the words begin with its name, else the proved router, and the words behind it
abbrev pub sending_first : List Word → Sending × List Word
sending_first [] = (Proved, [])
sending_first (one ∷ rest) =
    if bytes_eq one.decoded (codes "separate") then (Separate, rest) else sending_pair (one ∷ rest)

abbrev pub service_with : Word → Word → Word → List Word → Result DeclaredService SceneFaultKind
service_with principal host partitions words =
    as_scripts (who_of principal host) >>> λ who. partitions_of partitions >>> λ number.
    as_scripts (settings_of (sending_first words).1) >>> λ settings.
    route_of settings >>> λ route. Ok (record {
      who = who;
      settings = settings;
      routed = record { route = route; partitions = number };
      sending = (sending_first words).0;
    })

-- PRINCIPAL HOST partitions N, a variant or not, and the words of a route
abbrev pub service_of : List Word → Result DeclaredService SceneFaultKind
service_of (principal ∷ host ∷ keyword ∷ partitions ∷ words) =
    if bytes_eq keyword.decoded (codes "partitions")
    then service_with principal host partitions words else Err bad_line
service_of _ = Err bad_line

-- Lines that declare a consumer, behind its name.

-- what stands before and after the first `:`
unfoldable pub cut : List ℕ → Option (List ℕ × List ℕ)
cut word =
    option_map (λ place. (take place word, drop (place + 1) word))
    (first_of (matches word (codes ":") 0))

-- TOPIC:PARTITION, whose escapes are replaced after the cut
abbrev pub place_in : Option (List ℕ × List ℕ) → Result Place FaultKind
place_in None = Err BadLine
place_in (Some parts) =
    word_of parts.0 >>= text_of >>= λ topic. word_of parts.1 >>= number_of >>= λ partition.
    Ok (record { topic = topic; partition = partition })

abbrev pub place_of : Word → Result Place FaultKind
place_of word = place_in (cut word.raw)

-- [reads TOPIC:PARTITION ..]
abbrev pub places_of : List Word → Result (List Place) FaultKind
places_of [] = Ok []
places_of (keyword ∷ places) =
    if bytes_eq keyword.decoded (codes "reads") then each place_of places else Err BadLine

-- from 1 on
abbrev pub max_of : Word → Result ℕ SceneFaultKind
max_of word =
    as_scripts (number_of word) >>> λ number. if nat_le 1 number then Ok number else Err BadMax

-- where a consumer begins, by a word
abbrev pub start_named : Word → Result Start FaultKind
start_named word = if bytes_eq word.decoded (codes "latest") then Ok Latest else Err BadWord

-- `start latest` where the words begin so, else at the start, and the words behind it
abbrev pub start_first : List Word → Result (Start × List Word) FaultKind
start_first (keyword ∷ word ∷ rest) =
    if bytes_eq keyword.decoded (codes "start")
    then (start_named word >>= λ start. Ok (start, rest))
    else Ok (Earliest, keyword ∷ word ∷ rest)
start_first words = Ok (Earliest, words)

-- a variant where the words begin with its name, else the proved consumer, and the words behind it
abbrev pub taking_first : List Word → Taking × List Word
taking_first (one ∷ other ∷ rest) =
    if bytes_eq one.decoded (codes "commits") && bytes_eq other.decoded (codes "before")
    then (takings.CommitsBefore, rest)
    else (if bytes_eq one.decoded (codes "no") && bytes_eq other.decoded (codes "dedup")
    then (takings.NoDedup, rest) else (takings.Proved, one ∷ other ∷ rest))
taking_first words = (takings.Proved, words)

abbrev pub consumer_with : Word → Word → Word → Word → List Word
    → Result DeclaredConsumer SceneFaultKind
consumer_with principal host group max words =
    as_scripts (who_of principal host) >>> λ who. as_scripts (text_of group) >>> λ group.
    max_of max >>> λ max. as_scripts (start_first words) >>> λ start.
    as_scripts (places_of (taking_first start.1).1) >>> λ places.
    Ok (record {
      who = who;
      subscription = record { group = group; assignment = places; max = max };
      start = start.0;
      taking = (taking_first start.1).0;
    })

-- PRINCIPAL HOST group G max N, where it begins, how it takes in, and what is read
abbrev pub consumer_of : List Word → Result DeclaredConsumer SceneFaultKind
consumer_of (principal ∷ host ∷ first ∷ group ∷ second ∷ max ∷ words) =
    if bytes_eq first.decoded (codes "group") && bytes_eq second.decoded (codes "max")
    then consumer_with principal host group max words else Err bad_line
consumer_of _ = Err bad_line
