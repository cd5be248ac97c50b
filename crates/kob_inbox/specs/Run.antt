-- What a consumer may do to a broker and an inbox.
use Rattle.std.specs.Prelude.{ℕ, zero, suc, List, [], ◌∷◌, ◌++◌, true, if◌then◌else◌, Option, None, Some, ◌≡◌, ◌+◌, ◌%◌, ◌≤◌, length, option_map, take, false, slice_get, unwrap_or}
use Rattle.kob_router.specs.declared.place.Place.{Place}
use Rattle.kob_router.specs.Run.{same_place}
use Rattle.kob_inbox.specs.declared.cursors.Cursor.{Cursor}
use Rattle.kob_inbox.specs.declared.cursors.Standing.{Standing}
pub use Rattle.kob_names.specs.declared.record.Record.{Record}
pub use Rattle.kob_rights.specs.declared.request.Request.{Request}
pub use Rattle.kob_rights.specs.declared.request.Request.TheVariants.{Fetch, OffsetCommit, OffsetFetch}
pub use Rattle.kob_rights.specs.declared.reply.Reply.{Reply}
pub use Rattle.kob_rights.specs.declared.reply.Reply.TheVariants.{Denied, Refused, Done}
pub use Rattle.kob_rights.specs.declared.reply.Body.{Body}
pub use Rattle.kob_router.specs.declared.line.Call.{Call}
pub use Rattle.kob_inbox.specs.declared.fetcher.Subscription.{Subscription}
use Rattle.kob_inbox.specs.Contents.{Contents, Arrival, arrivals, taken_in}
use Rattle.kob_rights.specs.declared.reply.Body.TheVariants as bodies

-- so many partitions of a topic, from 0 on
abbrev pub first_partitions : List ℕ → ℕ → List Place
first_partitions topic zero = []
first_partitions topic (suc count) =
    first_partitions topic count ++ record { topic = topic; partition = count } ∷ []

-- ---- how far a consumer has come on each partition

-- the cursor of a partition, where it has one
abbrev pub cursor_of : List Cursor → Place → Option Cursor
cursor_of [] place = None
cursor_of (c ∷ cursors) place = if same_place c.place place then Some c else cursor_of cursors place

-- the cursors with this one in place of that of its partition
abbrev pub with_cursor : List Cursor → Cursor → List Cursor
with_cursor [] new = new ∷ []
with_cursor (c ∷ cursors) new =
    if same_place c.place new.place then new ∷ cursors else c ∷ with_cursor cursors new

-- a cursor without its partition
abbrev pub standing : Option Cursor → Option Standing
standing None = None
standing (Some c) = Some (record { position = c.position; uncommitted = c.uncommitted })

-- the cursors once so many records were taken in
abbrev pub with_progress : List Cursor → Place → ℕ → ℕ → List Cursor
with_progress cursors place zero position = cursors
with_progress cursors place (suc count) position =
    with_cursor cursors (record { place = place; position = position; uncommitted = true })

-- ---- the runs of a consumer

-- an inbox, a consumer's cursors, and the place in the assignment of the partition with the turn
pub record State : Type 0 where
  pub inbox : Contents
  pub cursors : List Cursor
  pub turn : ℕ

-- an empty inbox and a new consumer
abbrev pub start : State
start = record { inbox = []; cursors = []; turn = 0 }

-- one thing that is done
pub data Move : Type 0 where
  -- the consumer forgets all positions and which records were passed
  Restarted : Move
  -- a call; of the records that were heard so many are taken in
  Called : (call : Call) (count : ℕ) → Move

-- what is due on a partition: its position, else a commit of what was passed, else the next fetch
abbrev pub due : Subscription → Place → Option Standing → Request
due t place None =
    OffsetFetch (record { group = t.group; topic = place.topic; partition = place.partition })
due t place (Some c) =
    if c.uncommitted
    then OffsetCommit (record {
      group = t.group;
      topic = place.topic;
      partition = place.partition;
      offset = c.position;
    })
    else Fetch (record {
      topic = place.topic;
      partition = place.partition;
      offset = c.position;
      max = t.max;
    })

-- what is due on the partition that has the turn, where there is one
abbrev pub due_now : Subscription → List Cursor → ℕ → Option Request
due_now t cursors turn =
    option_map (λ place. due t place (standing (cursor_of cursors place))) (slice_get t.assignment turn)

-- the request is the one that is due on the partition that has the turn
pub record IsDue (t : Subscription) (s : State) (request : Request) : Type 0 where
  pub place : Place
  pub its_turn : slice_get t.assignment s.turn ≡ Some place
  pub is_due : request ≡ due t place (standing (cursor_of s.cursors place))

-- the records of a reply that was heard
abbrev pub records_heard : Option Reply → List (ℕ × Record)
records_heard (Some (Done (bodies.Records records))) = records
records_heard _ = []

-- what may be done: the call that is due, and the first of the records that it brings are taken in
abbrev pub May : Subscription → State → Move → Type 0
May t s Restarted = Unit {0}
May t s (Called call count) = IsDue t s call.request × (count ≤ length (records_heard call.heard))

-- the next assigned partition
abbrev pub next_turn : Subscription → ℕ → ℕ
next_turn t turn = (turn + 1) % length t.assignment

-- the position behind records
abbrev pub behind : ℕ → List (ℕ × Record) → ℕ
behind position [] = position
behind position (x ∷ records) = behind (x.0 + 1) records

-- a partition by its topic and number
abbrev pub place_at : List ℕ → ℕ → Place
place_at topic partition = record { topic = topic; partition = partition }

-- the records that a request takes in that was done, where it takes in so many
abbrev pub taken_from : Request → Body → ℕ → List Arrival
taken_from (Fetch asked) (bodies.Records records) count =
    arrivals (place_at asked.topic asked.partition) (take count records)
taken_from request body count = []

-- a position is what is committed, or 0; what is taken in moves it; what was committed is not due
abbrev pub cursors_after : List Cursor → Request → Body → ℕ → List Cursor
cursors_after cursors (OffsetFetch asked) (bodies.Commit committed) count =
    with_cursor cursors (record {
      place = place_at asked.topic asked.partition;
      position = unwrap_or committed 0;
      uncommitted = false;
    })
cursors_after cursors (OffsetCommit asked) body count = with_cursor cursors (record {
  place = place_at asked.topic asked.partition;
  position = asked.offset;
  uncommitted = false;
})
cursors_after cursors (Fetch asked) (bodies.Records records) count =
    with_progress cursors (place_at asked.topic asked.partition) count
    (behind asked.offset (take count records))
cursors_after cursors request body count = cursors

-- the turn then: it passes after a commit, and where there are no records
abbrev pub turn_after : Subscription → ℕ → Request → Body → ℕ
turn_after t turn (OffsetCommit asked) body = next_turn t turn
turn_after t turn (Fetch asked) (bodies.Records []) = next_turn t turn
turn_after t turn request body = turn

-- after a request that was done, and that takes in so many records
abbrev pub after_done : Subscription → State → Request → Body → ℕ → State
after_done t s request body count = record {
  inbox = taken_in s.inbox (taken_from request body count);
  cursors = cursors_after s.cursors request body count;
  turn = turn_after t s.turn request body;
}

-- after a call that takes in so many records: one that was lost, denied or refused leaves all
abbrev pub after_answer : Subscription → State → Request → Option Reply → ℕ → State
after_answer t s request (Some (Done body)) count = after_done t s request body count
after_answer t s request _ count = s

-- what is done leaves
abbrev pub after : Subscription → State → Move → State
after t s Restarted = record { inbox = s.inbox; cursors = []; turn = 0 }
after t s (Called call count) = after_answer t s call.request call.heard count

-- these moves may be made one after another, and lead from one state to the other
abbrev pub IsConsumerRun : Subscription → State → List Move → State → Type 0
IsConsumerRun t old [] new = new ≡ old
IsConsumerRun t old (move ∷ moves) new =
    May t old move × IsConsumerRun t (after t old move) moves new

-- the calls among the moves
abbrev pub calls_of : List Move → List Call
calls_of [] = []
calls_of (Called call count ∷ moves) = call ∷ calls_of moves
calls_of (Restarted ∷ moves) = calls_of moves

-- what a call takes in
abbrev pub taken_by : Request → Option Reply → ℕ → List Arrival
taken_by request (Some (Done body)) count = taken_from request body count
taken_by request _ count = []

-- what the moves take in, in order
abbrev pub taken_of : List Move → List Arrival
taken_of [] = []
taken_of (Called call count ∷ moves) = taken_by call.request call.heard count ++ taken_of moves
taken_of (Restarted ∷ moves) = taken_of moves
