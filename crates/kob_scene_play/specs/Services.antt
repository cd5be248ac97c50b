-- A service of a scene: what its router's ticks do, and what is done after them.
use Rattle.std.specs.List.{find, list_any}
use Rattle.std.specs.Prelude.{◌≡◌, ℕ, ◌-◌, ◌==◌, Bool, true, false, length, not, List, [], ◌∷◌, ◌++◌, Option, None, Some, Result, Ok, Err, map, option_map, string_bytes, if◌then◌else◌}
use Rattle.kob_delivery_check.specs.Unrecorded.{has_new_id}
use Rattle.kob_connections.specs.Calls.{IsJournaled}
use Rattle.kob_connections.specs.Relayed.{IsTick, Relayed, relayed_state}
use Rattle.kob_router.specs.declared.line.Loss.{Loss}
use Rattle.kob_router.specs.declared.line.Loss.TheVariants as losses
use Rattle.kob_outbox.specs.Contents.{Contents, Event, first_after, key_of, with_state}
use Rattle.kob_outbox.specs.declared.change.Change.{Change}
use Rattle.kob_outbox.specs.declared.event.OutboxEvent.{OutboxEvent}
use Rattle.kob_outbox.specs.declared.fault.RecordFault.{RecordFault}
use Rattle.kob_rights.specs.declared.request.Request.{Request}
use Rattle.kob_rights.specs.declared.request.Request.TheVariants.{Produce}
use Rattle.kob_router.specs.Run as routing
use Rattle.kob_router.specs.declared.line.Call.{Call}
use Rattle.kob_router.specs.declared.sender.HeldRow.{HeldRow}
use Rattle.kob_router.specs.declared.sender.Sender.{Sender}
use Rattle.kob_router.specs.declared.tick.Tick.{Tick}
use Rattle.kob_router.specs.declared.tick.Tick.TheVariants.{Moved, Idle, Repeat, Stopped}
use Rattle.kob_scene_play.specs.Asked.{HasLoss}
use Rattle.kob_scene_play.specs.declared.poll.Poll.{Poll}
use Rattle.kob_scene_play.specs.declared.poll.Poll.TheVariants.{Own, Past, Nothing}
use Rattle.kob_scene_text.specs.declared.scene.Sending.{Sending}
use Rattle.kob_scene_text.specs.declared.scene.Sending.TheVariants.{Proved, RetriesNew, DeletesFirst, NotIdempotent, Separate, VisibleLate}
use Rattle.kob_shared.specs.Journals.{Record}

-- where a message of the first call is lost, no reply to it is heard
abbrev pub LosesFirst : Loss → List Call → Type 0
LosesFirst loss [] = Unit {0}
LosesFirst losses.None (call ∷ calls) = Unit {0}
LosesFirst losses.BeforeServe (call ∷ calls) = call.heard ≡ None
LosesFirst losses.AfterServe (call ∷ calls) = call.heard ≡ None

-- a service: its number in the journal, who it is, how it sends, its router, its outbox, the events
-- that it recorded, swept ones included, those of which it wrote the business row alone, and the
-- numbers of its hidden rows
pub record Service : Type 0 where
  pub worker : ℕ
  pub principal : List ℕ
  pub host : List ℕ
  pub sending : Sending
  pub sender : Sender
  pub outbox : Contents
  pub recorded : List OutboxEvent
  pub unwritten : List OutboxEvent
  pub hidden : List ℕ

-- its router with its outbox
abbrev pub relayed_of : Service → Relayed
relayed_of service = record { outbox = service.outbox; router = service.sender }

abbrev pub service_state : Service → routing.State
service_state service = relayed_state (relayed_of service)

-- its number, who it is, how it sends, how it routes, what it did not record and what is hidden stay
pub record IsSameService (old new : Service) : Type 0 where
  pub worker : new.worker ≡ old.worker
  pub principal : new.principal ≡ old.principal
  pub host : new.host ≡ old.host
  pub sending : new.sending ≡ old.sending
  pub target : new.sender.target ≡ old.sender.target
  pub unwritten : new.unwritten ≡ old.unwritten
  pub hidden : new.hidden ≡ old.hidden

-- the events that were recorded, after a move
abbrev pub recorded_after : routing.Move → List OutboxEvent → List OutboxEvent
recorded_after (routing.Move.Recorded change event) events = events ++ event ∷ []
recorded_after move events = events

-- a move of a router's run that may be made, and that is
pub record Does (move : routing.Move) (old new : Service) : Type 0 where
  pub same : IsSameService old new
  pub recorded : new.recorded ≡ recorded_after move old.recorded
  pub may : routing.May (routing.dispatch_of old.sender.target) (service_state old) move
  pub done : service_state new ≡ routing.after (service_state old) move

-- How a service records.

-- an event of which the business row was written alone; each id is there once
abbrev pub with_unwritten : OutboxEvent → List OutboxEvent → List OutboxEvent
with_unwritten event events = if has_new_id events event then events ++ event ∷ [] else events

-- the business row is written, and the service crashes before it has recorded the event
abbrev pub crashed : Change → OutboxEvent → Service → Service
crashed change event service = record service {
  outbox = with_state service.outbox (key_of change) (string_bytes change.state);
  unwritten = with_unwritten event service.unwritten;
}

-- the row of a record that was made is hidden
abbrev pub hides : Result ℕ RecordFault → Service → Service
hides (Ok seq) service = record service { hidden = service.hidden ++ seq ∷ [] }
hides (Err fault) service = service

-- no row is hidden
abbrev pub shown : Service → Service
shown service = record service { hidden = [] }

-- How a service sends.

-- without the producer id of a batch
abbrev pub bare : Request → Request
bare (Produce asked) = Produce (record asked { batch = record asked.batch { idem = None } })
bare request = request

-- as the broker gets it: without the producer id, or as it is
abbrev pub asked_as : Bool → Request → Request
asked_as true request = bare request
asked_as false request = request

abbrev pub bare_call : Call → Call
bare_call call = record { request = bare call.request; heard = call.heard }

-- a router's calls as the broker gets them: as they are, or without producer ids
abbrev pub sent_whole : List Call → List Call
sent_whole calls = calls

abbrev pub sent_bare : List Call → List Call
sent_bare calls = map bare_call calls

abbrev pub sent_as : Bool → List Call → List Call
sent_as true = sent_bare
sent_as false = sent_whole

abbrev pub sent_by : Sending → List Call → List Call
sent_by Proved = sent_whole
sent_by RetriesNew = sent_whole
sent_by DeletesFirst = sent_whole
sent_by NotIdempotent = sent_bare
sent_by Separate = sent_whole
sent_by VisibleLate = sent_whole

-- the moves of one tick of its router, over a line of its own that loses the first call so; its
-- calls that were served are the journal's new entries, as the broker gets them
pub record IsRouterTick (sent : List Call → List Call) (loss : Loss) (old new : Service)
    (before after : Record) (tick : Tick) : Type 0 where
  pub same : IsSameService old new
  pub recorded : new.recorded ≡ old.recorded
  pub calls : List Call
  pub lost : LosesFirst loss calls
  pub journaled : IsJournaled old.worker old.principal old.host (sent calls) before after
  pub unmade : ℕ
  pub ticks : IsTick (relayed_of old) (relayed_of new) [] calls 0 unmade tick

-- What is done after a tick.

abbrev pub mark_past : ℕ → Option Event → ℕ
mark_past mark None = mark
mark_past mark (Some event) = event.seq

-- the mark is moved past the first row after it, if there is one
abbrev pub past_first : Contents → Contents
past_first outbox = record outbox { mark = mark_past outbox.mark (routing.next_row outbox) }

-- the router is new, and the first row that waits counts as acknowledged
pub record Skips (old new : Service) : Type 0 where
  pub same : IsSameService old new
  pub recorded : new.recorded ≡ old.recorded
  pub done : service_state new ≡ record {
    outbox = past_first old.outbox;
    producer = None;
    sequences = [];
    hand = None;
  }

-- the router is new after a call that was lost
abbrev pub StartsAgain : Tick → Service → Service → Type 0
StartsAgain (Moved seq) old new = new ≡ old
StartsAgain Idle old new = new ≡ old
StartsAgain Repeat old new = Does routing.Move.Restarted old new
StartsAgain (Stopped reason) old new = new ≡ old

-- a row that was not acknowledged is given up
abbrev pub GivesUp : Tick → Service → Service → Type 0
GivesUp (Moved seq) old new = new ≡ old
GivesUp Idle old new = new ≡ old
GivesUp Repeat old new = Skips old new
GivesUp (Stopped reason) old new = Skips old new

-- what a service does after a tick of its router
abbrev pub GoesOn : Sending → Tick → Service → Service → Type 0
GoesOn Proved tick old new = new ≡ old
GoesOn RetriesNew tick old new = StartsAgain tick old new
GoesOn DeletesFirst tick old new = GivesUp tick old new
GoesOn NotIdempotent tick old new = new ≡ old
GoesOn Separate tick old new = new ≡ old
GoesOn VisibleLate tick old new = new ≡ old

-- a step of the router, and what is done after it
pub record IsSeenTick (loss : Loss) (old new : Service) (before after : Record) (tick : Tick)
    : Type 0 where
  pub mid : Service
  pub ticked : IsRouterTick (sent_by old.sending) loss old mid before after tick
  pub goes_on : GoesOn old.sending tick mid new

-- What a router sees that goes by the numbers of rows and sees the visible ones alone.

-- the row of this number is hidden
abbrev pub is_hidden : List ℕ → ℕ → Bool
is_hidden hidden seq = list_any (λ number. number == seq) hidden

-- the hidden rows before the first visible one are passed by; without one, none is seen
abbrev pub poll_behind : Option Event → Poll
poll_behind None = Nothing
poll_behind (Some event) = Past (event.seq - 1)

-- by the rows that wait
abbrev pub poll_rows : List ℕ → List Event → Poll
poll_rows hidden [] = Own
poll_rows hidden (first ∷ rest) =
    if is_hidden hidden first.seq
    then poll_behind (find (λ event. not (is_hidden hidden event.seq)) rest) else Own

-- by the number of the row in flight, which is sent again whatever is hidden
abbrev pub poll_by : Option ℕ → List ℕ → Contents → Poll
poll_by (Some seq) hidden outbox = Own
poll_by None hidden outbox =
    poll_rows hidden (first_after outbox.mark 4294967295 outbox.events)

-- only a service with `visible late` has hidden rows
abbrev pub poll_of : Sending → Option HeldRow → List ℕ → Contents → Poll
poll_of VisibleLate hand hidden outbox =
    poll_by (option_map (λ held. held.row.seq) hand) hidden outbox
poll_of sending hand hidden outbox = Own

-- the mark moves to this number
abbrev pub passed_to : ℕ → Service → Service
passed_to seq service = record service { outbox = record service.outbox { mark = seq } }

-- one tick of a service, by what its router sees
abbrev pub IsPolledTick : Poll → Loss → Service → Service → Record → Record → Tick → Type 0
IsPolledTick Own loss old new before after tick = IsSeenTick loss old new before after tick
IsPolledTick (Past seq) loss old new before after tick =
    IsSeenTick loss (passed_to seq old) new before after tick
IsPolledTick Nothing loss old new before after tick =
    (new ≡ old) × (after ≡ before) × (tick ≡ Idle)

-- one tick of a service, whatever is lost
abbrev pub IsTickOfService : Loss → Service → Service → Record → Record → Tick → Type 0
IsTickOfService loss old new before after tick =
    IsPolledTick (poll_of old.sending old.sender.hand old.hidden old.outbox) loss old new before after
    tick

-- the tick has to be made again
abbrev pub is_repeat : Tick → Bool
is_repeat (Moved seq) = false
is_repeat Idle = false
is_repeat Repeat = true
is_repeat (Stopped reason) = false

-- one tick of a service, whose first call has this loss
abbrev pub IsServiceTick : Loss → Service → Service → Record → Record → Tick → Type 0
IsServiceTick loss old new before after tick =
    IsTickOfService loss old new before after tick
    × HasLoss loss (is_repeat tick) (length before.journal) (length after.journal)
