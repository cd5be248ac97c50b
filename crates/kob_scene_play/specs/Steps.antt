-- What an output has printed, and what of it is written. The workers of a scene, what their steps do,
-- and what they print.
use Rattle.std.specs.Io.KnownBytes.{Appends}
use Rattle.std.specs.Prelude.{◌≡◌, ℕ, ◌+◌, List, ◌++◌, Option, [], ◌∷◌, None, Bool, true, false, ◌⊎◌, length, Some, Result, Ok, Err, IsTrue, codes, map, nat_lt, is_some, if◌then◌else◌}
use Rattle.kob_router.specs.Line.{one_more}
use Rattle.kob_scene_text.specs.PrintedRows.{numbered, inbox_text, outbox_text, state_text, consumer_tick_text, crashed_text, recorded_text, service_tick_text}
use Rattle.kob_inbox.specs.Contents.{Contents as InboxContents, placed_intake}
use Rattle.kob_inbox.specs.declared.fetcher.Fetcher.{Fetcher}
use Rattle.kob_inbox.specs.declared.tick.Tick.{Tick as ConsumerAnswer}
use Rattle.kob_connections.specs.Calls.{IsJournaled}
use Rattle.kob_router.specs.declared.line.Loss.{Loss}
use Rattle.kob_outbox.specs.Contents.{id_text, stored_row, first_bad, first_bad_of_change, first_after, state_at, up_to, is_recorded, next_seq}
use Rattle.kob_router.specs.declared.line.Call.{Call}
use Rattle.kob_router.specs.declared.tick.Tick.{Tick as RouterAnswer}
use Rattle.std.specs.Fmt.{decimal}
use Rattle.std.specs.List.{enumerate_from}
use Rattle.std.specs.Option.{option_and_then}
use Rattle.kob_inbox.specs.declared.inbox_row.InboxRow.{InboxRow}
use Rattle.kob_outbox.specs.declared.event.Row.{Row}
use Rattle.kob_outbox.specs.declared.change.Change.{Change}
use Rattle.kob_outbox.specs.declared.event.OutboxEvent.{OutboxEvent}
use Rattle.kob_outbox.specs.declared.fault.RecordFault.{RecordFault}
use Rattle.kob_scene_play.specs.declared.consumer_steps.Left.{Left}
use Rattle.kob_scene_text.specs.declared.scene.ConsumerStep.{ConsumerStep}
use Rattle.kob_scene_text.specs.declared.scene.Recording.{Recording}
use Rattle.kob_scene_text.specs.declared.scene.Recording.TheVariants.{Whole, Crash, Late}
use Rattle.kob_scene_text.specs.declared.scene.ServiceStep.{ServiceStep}
use Rattle.kob_scene_text.specs.declared.scene.Start.{Start}
use Rattle.kob_scene_text.specs.declared.scene.Taking.{Taking}
use Rattle.kob_shared.specs.Journals.{Record}
use Rattle.kob_rights.specs.declared.event.Event.{Event}
use Rattle.kob_rights.specs.declared.reply.Reply.{Reply}
use Rattle.kob_scene_play.specs.Asked.{HasLoss, IsAsked}
use Rattle.kob_scene_play.specs.Begins.{IsBegun, start_event}
use Rattle.kob_scene_play.specs.Takings.{Ahead, HandlesReply, TakesHeld, asked_event, inbox_after}
use Rattle.kob_scene_play.specs.declared.holding.Holding.{Holding}
use Rattle.kob_scene_play.specs.declared.holding.Holding.TheVariants.{Nothing}
pub use Rattle.kob_scene_play.specs.Services.{Does, IsRouterTick, IsSameService, IsServiceTick, LosesFirst, Service, crashed, hides, recorded_after, service_state, shown}
use Rattle.kob_scene_play.specs.Forms.{last_needs}
use Rattle.kob_scene_play.specs.Needs.{behind}
use Rattle.kob_inbox.specs.Run as consuming
use Rattle.kob_inbox.specs.Tick as consumer_ticks
use Rattle.kob_inbox.specs.declared.tick.Tick.TheVariants as readings
use Rattle.kob_router.specs.declared.line.Loss.TheVariants as losses
use Rattle.kob_router.specs.Run as routing
use Rattle.kob_outbox.specs.declared.fault.RecordFault.TheVariants as faults
use Rattle.kob_router.specs.declared.tick.Tick.TheVariants as answers
use Rattle.kob_scene_play.specs.declared.consumer_steps.Left.TheVariants as left
use Rattle.kob_scene_text.specs.declared.scene.ConsumerStep.TheVariants as consumer_steps
use Rattle.kob_scene_text.specs.declared.scene.ServiceStep.TheVariants as service_steps
use Rattle.kob_scene_text.specs.declared.scene.Taking.TheVariants as takings

-- one answer, with the next number
abbrev pub IsPrinted : List ℕ → ℕ → ℕ → List ℕ → Type 0
IsPrinted answer told then_told text =
    (then_told ≡ one_more told) × (text ≡ numbered (one_more told) answer)

-- a text of this kind is printed behind what was there
abbrev pub Tells : (List ℕ → Type 0) → List ℕ → List ℕ → Type 0
Tells Is before now = (text : List ℕ) × Is text × (now ≡ before ++ text)

-- what was held and this text behind it are printed: their front is written, and the rest is held
abbrev pub Writes : Option (List ℕ) → List ℕ → Option (List ℕ) → List ℕ → List ℕ → Type 0
Writes before held now then_held text =
    (written : List ℕ) × (held ++ text ≡ written ++ then_held) × Appends before now written

-- Workers of a scene, and what their steps do.

-- a consumer: its number in the journal, who it is, where it begins on a partition without a commit,
-- how it takes in, how far it has come, the inbox by which the proved consumer takes each id in once,
-- what it holds, and what it has taken in, which is its own inbox unless it is without dedup
pub record Consumer : Type 0 where
  pub worker : ℕ
  pub principal : List ℕ
  pub host : List ℕ
  pub start : Start
  pub taking : Taking
  pub fetcher : Fetcher
  pub own : InboxContents
  pub holding : Holding
  pub inbox : InboxContents

abbrev pub consumer_state : Consumer → consuming.State
consumer_state consumer = consumer_ticks.state_of consumer.fetcher consumer.own

abbrev pub ahead_of : Consumer → Ahead
ahead_of consumer = record { state = consumer_state consumer; holding = consumer.holding }

-- its number, who it is, where it begins, how it takes in and what it reads stay
pub record IsSameConsumer (old new : Consumer) : Type 0 where
  pub worker : new.worker ≡ old.worker
  pub principal : new.principal ≡ old.principal
  pub host : new.host ≡ old.host
  pub start : new.start ≡ old.start
  pub taking : new.taking ≡ old.taking
  pub subscription : new.fetcher.subscription ≡ old.fetcher.subscription

-- it forgets its positions, and what it holds; what it has taken in stays
pub record Restarts (old new : Consumer) : Type 0 where
  pub same : IsSameConsumer old new
  pub forgets :
      consumer_state new
      ≡ consuming.after old.fetcher.subscription (consumer_state old) consuming.Move.Restarted
  pub holding : new.holding ≡ Nothing
  pub inbox : new.inbox ≡ old.inbox

-- the move of one tick of the proved consumer, over a line of its own that loses the first call so; its
-- call that was served is the journal's new entry
pub record IsCalled (loss : Loss) (old new : Consumer) (before after : Record) (calls : List Call)
    (tick : ConsumerAnswer) : Type 0 where
  pub same : IsSameConsumer old new
  pub holding : new.holding ≡ old.holding
  pub lost : LosesFirst loss calls
  pub journaled : IsJournaled old.worker old.principal old.host calls before after
  pub unmade : ℕ
  pub ticks :
      consumer_ticks.Ticks old.fetcher.subscription
      (consumer_ticks.point_of old.fetcher old.own [] 0)
      (consumer_ticks.point_of new.fetcher new.own calls unmade) tick

-- and what its calls brought is taken in: by its inbox, or without dedup each record
abbrev pub IsOwnTick : Loss → Consumer → Consumer → Record → Record → ConsumerAnswer → Type 0
IsOwnTick loss old new before after tick =
    (calls : List Call)
    × IsCalled loss old new before after calls tick
    × (new.inbox ≡ inbox_after old.taking old.inbox new.own calls)

-- what a consumer that commits before it takes in does with its next request, or without one
abbrev pub IsAheadBy : Option Event → Loss → Consumer → Consumer → Record → Record → ConsumerAnswer
    → Type 0
IsAheadBy None loss old new before after tick =
    (after ≡ before)
    × TakesHeld old.holding old.fetcher.subscription (ahead_of old) (ahead_of new) tick
IsAheadBy (Some event) loss old new before after tick =
    (heard : Option Reply)
    × IsAsked loss old.worker event before after heard
    × HandlesReply old.fetcher.subscription event.request heard (ahead_of old) (ahead_of new) tick

-- one tick of a consumer that commits before it takes in
pub record IsAheadTick (loss : Loss) (old new : Consumer) (before after : Record)
    (tick : ConsumerAnswer) : Type 0 where
  pub same : IsSameConsumer old new
  pub inbox : new.inbox ≡ new.own
  pub moves : IsAheadBy (asked_event old.principal old.host old.fetcher old.holding) loss old new
      before after tick

-- one tick by how the consumer takes in
abbrev pub IsTakingTick : Taking → Loss → Consumer → Consumer → Record → Record → ConsumerAnswer
    → Type 0
IsTakingTick takings.Proved loss old new before after tick = IsOwnTick loss old new before after tick
IsTakingTick takings.CommitsBefore loss old new before after tick =
    IsAheadTick loss old new before after tick
IsTakingTick takings.NoDedup loss old new before after tick =
    IsOwnTick loss old new before after tick

abbrev pub IsTickBy : Option Event → Loss → Consumer → Consumer → Record → Record → ConsumerAnswer
    → Type 0
IsTickBy None loss old new before after tick =
    IsTakingTick old.taking loss old new before after tick
IsTickBy (Some event) loss old new before after tick =
    (new ≡ old) × IsBegun loss old.worker event before after tick

-- one tick of a consumer, whatever is lost: where it has to begin, the commit of the end; else by how
-- it takes in
abbrev pub IsTickOfConsumer : Loss → Consumer → Consumer → Record → Record → ConsumerAnswer → Type 0
IsTickOfConsumer loss old new before after tick =
    IsTickBy (start_event old.start old.principal old.host old.fetcher before.journal) loss old new
    before after tick

-- the tick has to be made again
abbrev pub is_repeat_of_consumer : ConsumerAnswer → Bool
is_repeat_of_consumer (readings.Placed position) = false
is_repeat_of_consumer (readings.Took count) = false
is_repeat_of_consumer readings.Committed = false
is_repeat_of_consumer readings.Idle = false
is_repeat_of_consumer readings.Repeat = true
is_repeat_of_consumer (readings.Stopped reason) = false

-- one tick of a consumer, whose first call has this loss
abbrev pub IsConsumerTick : Loss → Consumer → Consumer → Record → Record → ConsumerAnswer → Type 0
IsConsumerTick loss old new before after tick =
    IsTickOfConsumer loss old new before after tick
    × HasLoss loss (is_repeat_of_consumer tick) (length before.journal) (length after.journal)

-- What the steps of a scene do, and what they print.

-- a run of ticks goes on after one that moved the mark, or that has to be made again
abbrev pub goes_on_after : RouterAnswer → Bool
goes_on_after (answers.Moved seq) = true
goes_on_after answers.Repeat = true
goes_on_after answers.Idle = false
goes_on_after (answers.Stopped reason) = false

-- after these ticks of a service, the last one first, its run goes on
abbrev pub service_goes_on : List RouterAnswer → Bool
service_goes_on [] = true
service_goes_on (last ∷ before) = goes_on_after last

-- what a tick of a consumer leaves to do
abbrev pub left_after : ConsumerAnswer → Left
left_after (readings.Placed position) = left.Something
left_after (readings.Took count) = left.Something
left_after readings.Committed = left.Something
left_after readings.Idle = left.Idle
left_after readings.Repeat = left.Something
left_after (readings.Stopped reason) = left.Stopped

-- how many ticks in a row were idle, with one more tick; none where that one ends the run of a
-- consumer with so many partitions
abbrev pub idle_with : ℕ → Left → ℕ → Option ℕ
idle_with partitions left.Something idle = Some 0
idle_with partitions left.Idle idle = if nat_lt (idle + 1) partitions then Some (idle + 1) else None
idle_with partitions left.Stopped idle = None

-- how many of these ticks, the last one first, were idle in a row; none where one ends the run
abbrev pub idle_in_row : ℕ → List ConsumerAnswer → Option ℕ
idle_in_row partitions [] = Some 0
idle_in_row partitions (last ∷ before) =
    option_and_then (idle_with partitions (left_after last)) (idle_in_row partitions before)

-- after these ticks of a consumer, the last one first, its run goes on: it is not stopped, and not
-- every partition was idle in turn
abbrev pub consumer_goes_on : ℕ → List ConsumerAnswer → Bool
consumer_goes_on partitions ticks = is_some (idle_in_row partitions ticks)

-- ticks of a worker, the last one first: each goes on from where the one before it ended, and prints
-- its line with the next number
abbrev pub AreTicks : {Worker Answer : Type 0}
    → (Worker → Worker → Record → Record → Answer → Type 0)
    → (Record → Record → Answer → List ℕ) → List Answer
    → Worker → Worker → Record → Record → ℕ → ℕ → List ℕ → Type 0
AreTicks IsTick line [] old new before after told then_told text =
    (new ≡ old) × (after ≡ before) × (then_told ≡ told) × (text ≡ [])
AreTicks {Worker} IsTick line (tick ∷ ticks) old new before after told then_told text =
    (mid : Worker) × (between : Record) × (mid_told : ℕ) × (front back : List ℕ)
    × AreTicks IsTick line ticks old mid before between told mid_told front
    × IsTick mid new between after tick
    × IsPrinted (line between after tick) mid_told then_told back
    × (text ≡ front ++ back)

-- after each of these ticks the run goes on
abbrev pub AllGoOn : {Answer : Type 0} → (List Answer → Bool) → List Answer → Type 0
AllGoOn goes_on [] = Unit {0}
AllGoOn goes_on (last ∷ before) = (goes_on (last ∷ before) ≡ true) × AllGoOn goes_on before

-- a run of ticks, the last one first, ends with the first one after which it does not go on, or with
-- the 1,000,000th
abbrev pub EndsRun : {Answer : Type 0} → (List Answer → Bool) → List Answer → Type 0
EndsRun goes_on [] = ⊥
EndsRun goes_on (last ∷ before) =
    AllGoOn goes_on before
    × ((goes_on (last ∷ before) ≡ false) ⊎ (length before ≡ 999999))

-- a run began with these ticks, after each of which it goes on, and they print this
abbrev pub BeginsRun : {Worker Answer : Type 0}
    → (Worker → Worker → Record → Record → Answer → Type 0)
    → (Record → Record → Answer → List ℕ) → (List Answer → Bool)
    → Worker → Record → ℕ → ℕ → List ℕ → Type 0
BeginsRun {Worker} {Answer} IsTick line goes_on old before told then_told text =
    (ticks : List Answer) × (mid : Worker) × (between : Record)
    × AllGoOn goes_on ticks
    × AreTicks IsTick line ticks old mid before between told then_told text

-- an event was recorded with its change under the next number, or nothing was: a text does not fit,
-- or the id was recorded before
abbrev pub Records : Change → OutboxEvent → Service → Service → Result ℕ RecordFault → Type 0
Records change event old new (Ok seq) =
    Does (routing.Move.Recorded change event) old new × (seq ≡ next_seq old.outbox)
Records change event old new (Err (faults.BadField column)) =
    (new ≡ old) × (first_bad change event ≡ Some column)
Records change event old new (Err faults.DuplicateId) =
    (new ≡ old) × IsTrue (is_recorded old.outbox.ids (id_text event.id))
Records change event old new (Err (faults.Memory e)) = new ≡ old
Records change event old new (Err faults.Store) = new ≡ old

-- the business row was written alone, or nothing was: a text does not fit
abbrev pub Crashes : Change → OutboxEvent → Service → Service → Result (Unit {0}) RecordFault → Type 0
Crashes change event old new (Ok done) =
    (new ≡ crashed change event old) × (first_bad_of_change change ≡ None)
Crashes change event old new (Err (faults.BadField column)) =
    (new ≡ old) × (first_bad_of_change change ≡ Some column)
Crashes change event old new (Err faults.DuplicateId) = ⊥
Crashes change event old new (Err (faults.Memory e)) = new ≡ old
Crashes change event old new (Err faults.Store) = new ≡ old

-- what a record does, and what it prints
abbrev pub IsRecord : Recording → Change → OutboxEvent → Service → Service → ℕ → ℕ → List ℕ → Type 0
IsRecord Whole change event old new told then_told text =
    (answer : Result ℕ RecordFault)
    × Records change event old new answer
    × IsPrinted (recorded_text answer) told then_told text
IsRecord Crash change event old new told then_told text =
    (answer : Result (Unit {0}) RecordFault)
    × Crashes change event old new answer
    × IsPrinted (crashed_text answer) told then_told text
IsRecord Late change event old new told then_told text =
    (answer : Result ℕ RecordFault) × (mid : Service)
    × Records change event old mid answer
    × (new ≡ hides answer mid)
    × IsPrinted (recorded_text answer) told then_told text

-- what the last request of a tick lacked that stopped the worker
abbrev pub service_lacks : RouterAnswer → List ℕ → List ℕ
service_lacks (answers.Stopped reason) needs = behind needs
service_lacks tick needs = []

abbrev pub consumer_lacks : ConsumerAnswer → List ℕ → List ℕ
consumer_lacks (readings.Stopped reason) needs = behind needs
consumer_lacks tick needs = []

-- the answer to a tick, and what a stopped one lacked
abbrev pub service_line : Record → Record → RouterAnswer → List ℕ
service_line before after tick =
    service_tick_text tick
    ++ service_lacks tick (last_needs (length before.journal) after.journal)

abbrev pub consumer_line : Record → Record → ConsumerAnswer → List ℕ
consumer_line before after tick =
    consumer_tick_text tick
    ++ consumer_lacks tick (last_needs (length before.journal) after.journal)

-- how many rows a sweep dropped
abbrev pub swept_text : ℕ → List ℕ
swept_text count = codes " ok swept " ++ decimal count

-- how many rows were hidden
abbrev pub visible_text : ℕ → List ℕ
visible_text count = codes " ok visible " ++ decimal count

-- one tick of a service's router, and its answer
abbrev pub IsServiceAnswer : Loss → RouterAnswer → Service → Service → Record → Record → ℕ → ℕ
    → List ℕ → Type 0
IsServiceAnswer loss tick old new before after told then_told text =
    IsServiceTick loss old new before after tick
    × IsPrinted (service_line before after tick) told then_told text

-- one tick of a consumer, and its answer
abbrev pub IsConsumerAnswer : Loss → ConsumerAnswer → Consumer → Consumer → Record → Record
    → ℕ → ℕ → List ℕ → Type 0
IsConsumerAnswer loss tick old new before after told then_told text =
    IsConsumerTick loss old new before after tick
    × IsPrinted (consumer_line before after tick) told then_told text

-- what a step of a service does that makes no tick, and the text that it prints; before it so many
-- answers were printed, and then so many
abbrev pub IsServiceChange : ServiceStep → Service → Service → ℕ → ℕ → List ℕ → Type 0
IsServiceChange (service_steps.Record change event recording) old new told then_told text =
    IsRecord recording change event old new told then_told text
IsServiceChange (service_steps.Tick loss) old new told then_told text = ⊥
IsServiceChange service_steps.Run old new told then_told text = ⊥
IsServiceChange service_steps.Restart old new told then_told text =
    Does routing.Move.Restarted old new × IsPrinted (codes " ok restarted") told then_told text
IsServiceChange service_steps.Sweep old new told then_told text =
    Does routing.Move.Swept old new
    × IsPrinted (swept_text (length (up_to old.outbox.mark old.outbox.events))) told then_told text
IsServiceChange service_steps.Outbox old new told then_told text =
    (rows : List Row)
    × (new ≡ old)
    × (map stored_row rows ≡ first_after old.outbox.mark 4294967295 old.outbox.events)
    × (then_told ≡ one_more told)
    × (text ≡ outbox_text (one_more told) old.outbox.mark rows)
IsServiceChange (service_steps.Business kind key) old new told then_told text =
    (new ≡ old)
    × (then_told ≡ one_more told)
    × (text ≡ state_text (one_more told) (state_at kind key old.outbox.business))
IsServiceChange service_steps.Visible old new told then_told text =
    (new ≡ shown old) × IsPrinted (visible_text (length old.hidden)) told then_told text

-- the ticks of a run of a service that a fault stopped, and what they print
abbrev pub BeginsService : Service → Record → ℕ → ℕ → List ℕ → Type 0
BeginsService = BeginsRun (IsServiceTick losses.None) service_line service_goes_on

-- what a step of a service does, and the text that it prints; without a tick the journal stays
abbrev pub IsServiceStep : ServiceStep → Service → Service → Record → Record → ℕ → ℕ → List ℕ
    → Type 0
IsServiceStep (service_steps.Tick loss) old new before after told then_told text =
    (tick : RouterAnswer) × IsServiceAnswer loss tick old new before after told then_told text
IsServiceStep service_steps.Run old new before after told then_told text =
    (ticks : List RouterAnswer)
    × AreTicks (IsServiceTick losses.None) service_line ticks old new before after told
    then_told text
    × EndsRun service_goes_on ticks
IsServiceStep step old new before after told then_told text =
    (after ≡ before) × IsServiceChange step old new told then_told text

-- what a step of a consumer does that makes no tick, and the text that it prints
abbrev pub IsConsumerChange : ConsumerStep → Consumer → Consumer → ℕ → ℕ → List ℕ → Type 0
IsConsumerChange (consumer_steps.Tick loss) old new told then_told text = ⊥
IsConsumerChange consumer_steps.Run old new told then_told text = ⊥
IsConsumerChange consumer_steps.Restart old new told then_told text =
    Restarts old new × IsPrinted (codes " ok restarted") told then_told text
IsConsumerChange consumer_steps.Inbox old new told then_told text =
    (rows : List InboxRow)
    × (new ≡ old)
    × (map placed_intake rows ≡ enumerate_from 1 old.inbox)
    × (then_told ≡ one_more told)
    × (text ≡ inbox_text (one_more told) rows)

-- the ticks of a run of a consumer that a fault stopped, and what they print
abbrev pub BeginsConsumer : Consumer → Record → ℕ → ℕ → List ℕ → Type 0
BeginsConsumer old =
    BeginsRun (IsConsumerTick losses.None) consumer_line
    (consumer_goes_on (length old.fetcher.subscription.assignment)) old

-- what a step of a consumer does, and the text that it prints; without a tick the journal stays
abbrev pub IsConsumerStep : ConsumerStep → Consumer → Consumer → Record → Record → ℕ → ℕ → List ℕ
    → Type 0
IsConsumerStep (consumer_steps.Tick loss) old new before after told then_told text =
    (tick : ConsumerAnswer) × IsConsumerAnswer loss tick old new before after told then_told text
IsConsumerStep consumer_steps.Run old new before after told then_told text =
    (ticks : List ConsumerAnswer)
    × AreTicks (IsConsumerTick losses.None) consumer_line ticks old new before after told
    then_told text
    × EndsRun (consumer_goes_on (length old.fetcher.subscription.assignment)) ticks
IsConsumerStep step old new before after told then_told text =
    (after ≡ before) × IsConsumerChange step old new told then_told text

-- a tick of a service and its answer, and whether the next tick has something to do
abbrev pub IsTold : Loss → Bool → Service → Service → Record → Record → ℕ → ℕ → List ℕ
    → List ℕ → Type 0
IsTold loss goes_on old new before after told then_told held then_held =
    (tick : RouterAnswer)
    × (goes_on ≡ goes_on_after tick)
    × Tells (IsServiceAnswer loss tick old new before after told then_told) held then_held

-- a tick of a consumer and its answer, and what it leaves to do
abbrev pub IsReadOnce : Loss → Left → Consumer → Consumer → Record → Record → ℕ → ℕ → List ℕ
    → List ℕ → Type 0
IsReadOnce loss rest old new before after told then_told held then_held =
    (tick : ConsumerAnswer)
    × (rest ≡ left_after tick)
    × Tells (IsConsumerAnswer loss tick old new before after told then_told) held then_held
