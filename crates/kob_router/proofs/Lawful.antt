-- What follows of the definitions.
use Rattle.kob_router.proofs.Words.{All, Event, List, None, Option, OutboxEvent, Place, Routing, Some, Target, arith, dispatch_of, event_id, if◌then◌else◌, inl, is_some, length, lower, message_of, nat_tests, parsed, parses_hyphenated, partition_of, place_of, refl, stored_event, sym, topic_fault, ℕ, ◌<◌, ◌≡◌, AllByRecursion, Bool, Dispatching, IsRouterRun, IsSending, KeepsRow, May, MayCall, Move, Reply, Request, State, [], after, subst, ◌∷◌}
use Rattle.kob_rights.specs.declared.on_partitions.Produce.{Produce as ProduceRequest}
use Rattle.kob_rights.specs.declared.request.Request.TheVariants as request

pub told : (routing : Routing) (event : Event) → event_id (message_of routing event) ≡ parsed event.id
told routing event = refl

pub told_back : (routing : Routing) (seq : ℕ) (event : OutboxEvent) → length event.id ≡ 16
    → All (λ byte. byte < 256) event.id → event_id (message_of routing (stored_event seq event)) ≡ Some event.id
told_back routing seq event long small = sym (parses_hyphenated lower event.id (inl refl) long small)

-- the place of a topic and a key, where the topic can have the name
abbrev place_at : Target → List ℕ → List ℕ → Option Place
place_at target topic key = if is_some (topic_fault topic) then None else Some
    (record { topic = topic; partition = partition_of key target.partitions })

pub one_place : (target : Target) (one two : Event) → one.aggregate_type ≡ two.aggregate_type
    → one.aggregate_id ≡ two.aggregate_id → place_of (dispatch_of target one) ≡ place_of (dispatch_of target two)
one_place target one two kind id = grind (arith, nat_tests)

-- ---- a batch that is sent again is the same

-- no other request may be made
only_this : (route : Dispatching) (s : State) (sent : ProduceRequest) (asked : Request) (heard : Option Reply)
    (marks : Bool) → IsSending route s sent → MayCall route s asked heard marks → asked ≡ request.Produce sent
only_this route s sent asked heard marks is may = grind (arith, nat_tests)

-- the outbox has no part in what is sent
sends_still : (route : Dispatching) (s t : State) (sent : ProduceRequest) → IsSending route s sent
    → t.producer ≡ s.producer → t.sequences ≡ s.sequences → t.hand ≡ s.hand → IsSending route t sent
sends_still route s t sent is producer sequences hand = grind (arith, nat_tests)

-- what was sent is what is sent after a move that keeps the row
kept_once : (route : Dispatching) (s : State) (move : Move) (sent : ProduceRequest) → IsSending route s sent
    → May route s move → KeepsRow move → IsSending route (after s move) sent
kept_once route s move sent is may keeps = grind (arith, nat_tests, sends_still, only_this)

sends_on : (route : Dispatching) (old new : State) (moves : List Move) (sent : ProduceRequest)
    → IsSending route old sent → IsRouterRun route old moves new → AllByRecursion KeepsRow moves
    → IsSending route new sent
sends_on route old new [] sent is run keep = subst (λ (s : State). IsSending route s sent) (sym run) is
sends_on route old new (move ∷ moves) sent is run keep =
    sends_on route (after old move) new moves sent (kept_once route old move sent is run.0 keep.0) run.1 keep.1

pub repeats : (route : Dispatching) (old new : State) (moves : List Move) (sent : ProduceRequest) (asked : Request)
    (heard : Option Reply) (marks : Bool) → IsSending route old sent → IsRouterRun route old moves new
    → AllByRecursion KeepsRow moves → MayCall route new asked heard marks → asked ≡ request.Produce sent
repeats route old new moves sent asked heard marks is run keep may =
    only_this route new sent asked heard marks (sends_on route old new moves sent is run keep) may
