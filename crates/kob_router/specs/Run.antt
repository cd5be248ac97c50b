-- The partition of a row, as Kafka's default partitioner picks it, and the next sequence there.
use Rattle.std.specs.Prelude.{ℕ, ◌+◌, ◌*◌, ◌/◌, ◌%◌, ◌^◌, List, [], ◌∷◌, length, bit_and, bit_xor, Bool, ◌&&◌, ◌==◌, if◌then◌else◌, Option, option_map, ◌≡◌, ◌<◌, true, false, None, Some}
use Rattle.std.specs.List.{list_any, slice_get}
use Rattle.kob_names.specs.Same.{same_text}
use Rattle.kob_producers.specs.Judge.{next_sequence}
use Rattle.kob_router.specs.declared.place.Place.{Place}
pub use Rattle.kob_router.specs.declared.sequences.Sequence.{Sequence}
use Rattle.kob_outbox.specs.Contents.{Event, Contents, empty, id_text, stored_event, first_bad, later_than, without_sent, is_recorded, next_seq, after_record}
use Rattle.kob_router.specs.declared.dispatch.Dispatch.{Dispatch}
use Rattle.kob_router.specs.declared.dispatch.Target.{Target}
use Rattle.kob_router.specs.Route.{key_of, routed_row}
use Rattle.kob_names.specs.declared.record.Record.{Record}
use Rattle.kob_names.specs.declared.batch.Batch.{Batch}
pub use Rattle.kob_rights.specs.declared.request.Request.{Request}
pub use Rattle.kob_rights.specs.declared.request.Request.TheVariants.{InitProducerId, Produce}
pub use Rattle.kob_rights.specs.declared.on_partitions.Produce.{Produce as ProduceRequest}
pub use Rattle.kob_rights.specs.declared.reply.Reply.{Reply}
pub use Rattle.kob_rights.specs.declared.reply.Reply.TheVariants.{Denied, Refused, Done}
use Rattle.kob_outbox.specs.declared.change.Change.{Change}
use Rattle.kob_outbox.specs.declared.event.OutboxEvent.{OutboxEvent}
pub use Rattle.kob_router.specs.declared.line.Call.{Call}
pub use Rattle.kob_router.specs.declared.sender.Producer.{Producer}
use Rattle.kob_rights.specs.declared.reply.Body.TheVariants as bodies

-- a product of 32 bits
abbrev pub times : ℕ → ℕ → ℕ
times a b = a * b % 2 ^ 32

-- the factor of every step
abbrev pub factor : ℕ
factor = 0x5bd1e995

-- a number, with its upper bits put over its lower ones
abbrev pub with_upper_bits : ℕ → ℕ → ℕ
with_upper_bits n bits = bit_xor n (n / 2 ^ bits)

-- four bytes as a number, the lowest first
abbrev pub word : ℕ → ℕ → ℕ → ℕ → ℕ
word a b c d = a + 2 ^ 8 * b + 2 ^ 16 * c + 2 ^ 24 * d

-- the hash after one more word
abbrev pub with_word : ℕ → ℕ → ℕ
with_word h k = bit_xor (times h factor) (times (with_upper_bits (times k factor) 24) factor)

-- the hash after the last bytes, which are fewer than four
abbrev pub with_rest : ℕ → ℕ → ℕ
with_rest h k = times (bit_xor h k) factor

-- the hash after all bytes: word by word, then the rest
abbrev pub with_bytes : ℕ → List ℕ → ℕ
with_bytes h [] = h
with_bytes h (a ∷ []) = with_rest h a
with_bytes h (a ∷ b ∷ []) = with_rest h (a + 2 ^ 8 * b)
with_bytes h (a ∷ b ∷ c ∷ []) = with_rest h (a + 2 ^ 8 * b + 2 ^ 16 * c)
with_bytes h (a ∷ b ∷ c ∷ d ∷ bytes) = with_bytes (with_word h (word a b c d)) bytes

-- the bits of a hash, mixed a last time
abbrev pub last_mix : ℕ → ℕ
last_mix h = with_upper_bits (times (with_upper_bits h 13) factor) 15

-- murmur2 with the seed that Kafka gives it
abbrev pub murmur2 : List ℕ → ℕ
murmur2 bytes = last_mix (with_bytes (bit_xor 0x9747b28c (length bytes % 2 ^ 32)) bytes)

-- the hash without its sign bit, modulo the number of partitions
abbrev pub partition_of : List ℕ → ℕ → ℕ
partition_of key partitions = bit_and (murmur2 key) 0x7fffffff % partitions

-- ---- the partitions that a router sends to, and the next sequence on each

-- the two are one partition of one topic
abbrev pub same_place : Place → Place → Bool
same_place one two = same_text one.topic two.topic && one.partition == two.partition

-- the place has a sequence
abbrev pub has_place : List Sequence → Place → Bool
has_place sequences place = list_any (λ s. same_place s.place place) sequences

-- the next sequence on a place, 0 where none was used
abbrev pub sequence_of : List Sequence → Place → ℕ
sequence_of [] place = 0
sequence_of (s ∷ sequences) place =
    if same_place s.place place then s.next else sequence_of sequences place

-- one sequence of the place was used
abbrev pub after_use : List Sequence → Place → List Sequence
after_use [] place = record { place = place; next = 1 } ∷ []
after_use (s ∷ sequences) place =
    if same_place s.place place
    then record { place = s.place; next = next_sequence s.next } ∷ sequences
    else s ∷ after_use sequences place

-- the place has a sequence from now on
abbrev pub with_sequence_for : List Sequence → Place → List Sequence
with_sequence_for [] place = record { place = place; next = 0 } ∷ []
with_sequence_for (s ∷ sequences) place =
    if same_place s.place place then s ∷ sequences else s ∷ with_sequence_for sequences place

-- ---- where a row goes, and as what

-- what is made of each row; nothing where no topic can have the name
abbrev pub Dispatching : Type 0
Dispatching = Event → Option Dispatch

-- the record of a row goes to its topic, to the partition of its key
abbrev pub dispatch_of : Target → Dispatching
dispatch_of target event =
    option_map (λ r. record {
      place = record { topic = r.topic; partition = partition_of (key_of event) target.partitions };
      message = r.message;
    }) (routed_row target.route event)

-- the place of what is sent
abbrev pub place_of : Option Dispatch → Option Place
place_of = option_map (λ d. d.place)

-- What a service and its router may do to an outbox and a broker.

-- the row that is sent until it is acknowledged, and where it goes
pub record Hand : Type 0 where
  pub event : Event
  pub place : Place

-- an outbox and its router
pub record State : Type 0 where
  pub outbox : Contents
  pub producer : Option Producer
  pub sequences : List Sequence
  pub hand : Option Hand

-- an empty outbox and a new router
abbrev pub start : State
start = record { outbox = empty; producer = None; sequences = []; hand = None }

-- the first row after the mark
abbrev pub next_row : Contents → Option Event
next_row c = slice_get (later_than c.mark c.events) 0

-- one thing that is done
pub data Move : Type 0 where
  -- an event is recorded
  Recorded : (change : Change) (event : OutboxEvent) → Move
  -- the rows up to the mark are dropped
  Swept : Move
  -- the router forgets what was in hand, its producer id and all sequences
  Restarted : Move
  -- the first row after the mark is taken in hand
  Took : (hand : Hand) → Move
  -- a call; where it marks, the mark then moves to the row in hand
  Called : (call : Call) (marks : Bool) → Move

-- the texts fit, the id was never recorded, and a number is left
pub record IsRecordable (c : Contents) (change : Change) (event : OutboxEvent) : Type 0 where
  pub fits : first_bad change event ≡ None
  pub fresh : is_recorded c.ids (id_text event.id) ≡ false
  pub room : next_seq c < 2 ^ 63

-- a batch of one record, with the producer's sequence
abbrev pub batch_of : Producer → ℕ → Record → Batch
batch_of producer base message = record {
  idem = Some (record { id = producer.id; epoch = producer.epoch; base = base });
  records = message ∷ [];
}

-- the one request that sends what is in hand: to its place, with the next sequence there
pub record IsSending (route : Dispatching) (s : State) (produce : ProduceRequest) : Type 0 where
  pub producer : Producer
  pub hand : Hand
  pub message : Record
  pub has_producer : s.producer ≡ Some producer
  pub has_hand : s.hand ≡ Some hand
  pub routed : route hand.event ≡ Some (record { place = hand.place; message = message })
  pub same_topic : produce.topic ≡ hand.place.topic
  pub same_partition : produce.partition ≡ hand.place.partition
  pub same_batch : produce.batch ≡ batch_of producer (sequence_of s.sequences hand.place) message

-- the reply was heard, and it says that the request is done
abbrev pub IsDone : Option Reply → Type 0
IsDone (Some (Done body)) = Unit {0}
IsDone _ = ⊥

-- a producer id is asked for where there is none; only what is in hand is sent, and it is
-- acknowledged only once the reply was heard that it is done
abbrev pub MayCall : Dispatching → State → Request → Option Reply → Bool → Type 0
MayCall route s InitProducerId heard marks = (s.producer ≡ None) × (marks ≡ false)
MayCall route s (Produce produce) heard marks =
    IsSending route s produce × (marks ≡ true → IsDone heard)
MayCall route s _ heard marks = ⊥

-- what may be done
abbrev pub May : Dispatching → State → Move → Type 0
May route s (Recorded change event) = IsRecordable s.outbox change event
May route s Swept = Unit {0}
May route s Restarted = Unit {0}
May route s (Took hand) =
    (s.hand ≡ None)
    × (next_row s.outbox ≡ Some hand.event)
    × (place_of (route hand.event) ≡ Some hand.place)
May route s (Called call marks) = MayCall route s call.request call.heard marks

-- the producer id after an INIT_PRODUCER_ID
abbrev pub producer_after : Option Producer → Request → Option Reply → Option Producer
producer_after old InitProducerId (Some (Done (bodies.Producer id epoch))) =
    Some (record { id = id; epoch = epoch })
producer_after old _ _ = old

-- the row in hand is acknowledged: the mark moves to it, its sequence is used, nothing is in hand
abbrev pub after_acknowledgement : State → Option Hand → State
after_acknowledgement s None = s
after_acknowledgement s (Some hand) = record {
  outbox = record s.outbox { mark = hand.event.seq };
  producer = s.producer;
  sequences = after_use s.sequences hand.place;
  hand = None;
}

-- what is done leaves
abbrev pub after : State → Move → State
after s (Recorded change event) = record s { outbox = after_record s.outbox change event }
after s Swept = record s { outbox = without_sent s.outbox.mark s.outbox }
after s Restarted = record { outbox = s.outbox; producer = None; sequences = []; hand = None }
after s (Took hand) = record {
  outbox = s.outbox;
  producer = s.producer;
  sequences = with_sequence_for s.sequences hand.place;
  hand = Some hand;
}
after s (Called call marks) =
    if marks then after_acknowledgement s s.hand
    else record s { producer = producer_after s.producer call.request call.heard }

-- these moves may be made one after another, and lead from one state to the other
abbrev pub IsRouterRun : Dispatching → State → List Move → State → Type 0
IsRouterRun route old [] new = new ≡ old
IsRouterRun route old (move ∷ moves) new =
    May route old move × IsRouterRun route (after old move) moves new

-- the move neither acknowledges the row in hand nor starts the router again
abbrev pub KeepsRow : Move → Type 0
KeepsRow (Called call marks) = marks ≡ false
KeepsRow Restarted = ⊥
KeepsRow _ = Unit {0}

-- the calls among the moves
abbrev pub calls_of : List Move → List Call
calls_of [] = []
calls_of (Called call marks ∷ moves) = call ∷ calls_of moves
calls_of (_ ∷ moves) = calls_of moves

-- the events that the moves record, with their numbers from this state on
abbrev pub events_of : Contents → List Move → List Event
events_of c [] = []
events_of c (Recorded change event ∷ moves) =
    stored_event (next_seq c) event ∷ events_of (after_record c change event) moves
events_of c (_ ∷ moves) = events_of c moves
