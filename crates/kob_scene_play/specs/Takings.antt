-- How a consumer takes in that is a variant: one that commits before it takes in, and one that takes
-- each record in, whether its event id is there already or not.
use Rattle.std.specs.Prelude.{◌≡◌, ◌++◌, ℕ, List, [], ◌∷◌, Option, None, Some, Result, Ok, Err, flat_map, length, option_map}
use Rattle.kob_inbox.specs.Contents.{Arrival, Contents, Intake, intake_of, placed_intake}
use Rattle.kob_inbox.specs.Run.{State, after_answer, behind, due_now, place_at}
use Rattle.kob_inbox.specs.Tick.{Hears}
use Rattle.kob_connections.specs.Received.{Received, received_state}
use Rattle.kob_inbox.specs.declared.cursors.Cursor.{Cursor}
use Rattle.kob_inbox.specs.declared.fetcher.Fetcher.{Fetcher}
use Rattle.kob_inbox.specs.declared.fetcher.Subscription.{Subscription}
use Rattle.kob_inbox.specs.declared.inbox_row.InboxRow.{InboxRow}
use Rattle.kob_inbox.specs.declared.tick.Tick.{Tick}
use Rattle.kob_inbox.specs.declared.tick.Tick.TheVariants as ticks
use Rattle.kob_names.specs.declared.record.Record.{Record}
use Rattle.kob_outbox.specs.Contents.{id_text}
use Rattle.kob_rights.specs.Requests.{BodyWithin}
use Rattle.kob_rights.specs.declared.event.Event.{Event}
use Rattle.kob_rights.specs.declared.on_groups.OffsetCommit.{OffsetCommit as CommitRequest}
use Rattle.kob_rights.specs.declared.reply.Body.{Body}
use Rattle.kob_rights.specs.declared.reply.Body.TheVariants as bodies
use Rattle.kob_rights.specs.declared.reply.Reply.{Reply}
use Rattle.kob_rights.specs.declared.reply.Reply.TheVariants.{Done}
use Rattle.kob_rights.specs.declared.request.Request.{Request}
use Rattle.kob_rights.specs.declared.request.Request.TheVariants.{Fetch, OffsetCommit}
use Rattle.kob_router.specs.Route.{event_id}
use Rattle.kob_router.specs.declared.line.Call.{Call}
use Rattle.kob_router.specs.declared.place.Place.{Place}
use Rattle.kob_scene_play.specs.Asked.{committed_by}
use Rattle.kob_scene_play.specs.declared.holding.Held.{Held}
use Rattle.kob_scene_play.specs.declared.holding.Holding.{Holding}
use Rattle.kob_scene_play.specs.declared.holding.Holding.TheVariants.{Nothing, Fetched, Committed}
use Rattle.kob_scene_text.specs.declared.scene.Taking.{Taking}
use Rattle.kob_scene_text.specs.declared.scene.Taking.TheVariants as takings
use Rattle.kob_shared.specs.Journals.{event_by}

-- A consumer that commits before it takes in: it holds the records that a FETCH brings, commits the
-- position behind them, and then takes them in.

-- how far the proved consumer has come, and what is held
pub record Ahead : Type 0 where
  pub state : State
  pub holding : Holding

abbrev pub ahead : Received → Holding → Ahead
ahead receiver holding = record { state = received_state receiver; holding = holding }

-- the offsets of what is held are below the greatest
abbrev pub AreWithin : Holding → Type 0
AreWithin Nothing = Unit {0}
AreWithin (Fetched held) = BodyWithin (bodies.Records held.records)
AreWithin (Committed held) = BodyWithin (bodies.Records held.records)

-- the position behind what is held
abbrev pub position_of : Held → ℕ
position_of held = behind held.asked.offset held.records

-- its commit
abbrev pub commit_of : Subscription → Held → CommitRequest
commit_of t held = record {
  group = t.group;
  topic = held.asked.topic;
  partition = held.asked.partition;
  offset = position_of held;
}

-- what is asked next: the commit of what is held; nothing, where that was acknowledged; else what is
-- due to the proved consumer
abbrev pub asked_next : Subscription → List Cursor → ℕ → Holding → Option Request
asked_next t cursors turn Nothing = due_now t cursors turn
asked_next t cursors turn (Fetched held) = Some (OffsetCommit (commit_of t held))
asked_next t cursors turn (Committed held) = None

-- as the event of a principal at a host
abbrev pub asked_event : List ℕ → List ℕ → Fetcher → Holding → Option Event
asked_event principal host f holding =
    option_map (event_by principal host)
    (asked_next f.subscription f.cursors.items f.turn holding)

-- what is held of a body that a request brought: the records of a FETCH, where there are any; any
-- other body is not
abbrev pub held_or : Request → Body → Result Held Body
held_or (Fetch asked) (bodies.Records (first ∷ records)) =
    Ok (record { asked = asked; records = first ∷ records })
held_or request body = Err body

-- a body is held, and reported as the position behind it; or handled as the proved consumer does
abbrev pub IsHandled : Result Held Body → Subscription → Request → Ahead → Ahead → Tick → Type 0
IsHandled (Ok held) t request old new tick =
    (new ≡ record old { holding = Fetched held }) × (tick ≡ ticks.Placed (position_of held))
IsHandled (Err body) t request old new tick =
    (new.holding ≡ old.holding) × Hears t old.state new.state request body tick

-- what is done with a body: where something is held, it says that its commit is acknowledged
abbrev pub HandlesBody : Holding → Subscription → Request → Body → Ahead → Ahead → Tick → Type 0
HandlesBody Nothing t request body old new tick =
    IsHandled (held_or request body) t request old new tick
HandlesBody (Fetched held) t request body old new tick =
    (new ≡ record old { holding = Committed held }) × (tick ≡ ticks.Committed)
HandlesBody (Committed held) t request body old new tick = ⊥

-- what is done with a reply: one that was lost, denied or refused leaves all
abbrev pub HandlesReply : Subscription → Request → Option Reply → Ahead → Ahead → Tick → Type 0
HandlesReply t request (Some (Done body)) old new tick =
    HandlesBody old.holding t request body old new tick
HandlesReply t request heard old new tick = (new ≡ old) × (tick ≡ committed_by heard)

-- the proved consumer once it has taken in all that is held
abbrev pub with_held : Subscription → State → Held → State
with_held t s held =
    after_answer t s (Fetch held.asked) (Some (Done (bodies.Records held.records)))
    (length held.records)

-- the commit that is due to the proved consumer counts as acknowledged
abbrev pub CountsCommitted : Subscription → State → State → Type 0
CountsCommitted t old new =
    (commit : CommitRequest)
    × (due_now t old.cursors old.turn ≡ Some (OffsetCommit commit))
    × (new ≡ after_answer t old (OffsetCommit commit) (Some (Done bodies.Committed)) 0)

-- a tick that asks for nothing: what is held is taken in, and nothing is held then
abbrev pub TakesHeld : Holding → Subscription → Ahead → Ahead → Tick → Type 0
TakesHeld Nothing t old new tick = (new ≡ old) × (tick ≡ ticks.Idle)
TakesHeld (Fetched held) t old new tick = ⊥
TakesHeld (Committed held) t old new tick =
    (new.holding ≡ Nothing)
    × (tick ≡ ticks.Took (length held.records))
    × CountsCommitted t (with_held t old.state held) new.state

-- A consumer without dedup.

abbrev pub intake_by : Option (List ℕ) → Arrival → List Intake
intake_by None a = []
intake_by (Some id) a = intake_of (id_text id) a ∷ []

-- a record at an offset of a partition as it is taken in, if it has an event id
abbrev pub intake_at : Place → ℕ × Record → List Intake
intake_at place x =
    intake_by (event_id x.1) (record { place = place; offset = x.0; message = x.1 })

-- the records that a FETCH brought
abbrev pub intakes_heard : Request → Option Reply → List Intake
intakes_heard (Fetch asked) (Some (Done (bodies.Records records))) =
    flat_map (intake_at (place_at asked.topic asked.partition)) records
intakes_heard request heard = []

abbrev pub intakes_of : Call → List Intake
intakes_of call = intakes_heard call.request call.heard

-- each record with an event id that calls brought, whether its id is there already or not
abbrev pub intakes_by : List Call → List Intake
intakes_by calls = flat_map intakes_of calls

-- the event of a row
abbrev pub row_intake : InboxRow → Intake
row_intake row = (placed_intake row).1

-- What a consumer has taken in.

-- what the proved consumer's inbox has, or each record that came
abbrev pub inbox_by : Taking → Contents → Contents → Contents
inbox_by takings.Proved own every = own
inbox_by takings.CommitsBefore own every = own
inbox_by takings.NoDedup own every = every

-- with what calls brought
abbrev pub inbox_with : Taking → Contents → List Call → Contents
inbox_with takings.Proved inbox calls = inbox
inbox_with takings.CommitsBefore inbox calls = inbox
inbox_with takings.NoDedup inbox calls = inbox ++ intakes_by calls

-- after a tick of the proved consumer with these calls
abbrev pub inbox_after : Taking → Contents → Contents → List Call → Contents
inbox_after taking inbox own calls = inbox_with taking (inbox_by taking own inbox) calls
