-- A service and a consumer since they began.
use Rattle.std.specs.Prelude.{ℕ, List, [], ◌∷◌, ◌++◌, ◌+◌, ◌≡◌, ◌<◌, ◌≤◌, length, take, Option, Some, None, Result, Ok, Err, ◌⊎◌, suc, alloc_error}
use Rattle.std.specs.List.{AllByRecursion}
use Rattle.kob_inbox.specs.Contents.{Contents}
use Rattle.kob_inbox.specs.declared.fetcher.Fetcher.{Fetcher}
use Rattle.kob_connections.specs.Relayed.{HasConsumerRun, IsTick, Relayed, HasServiceRun}
use Rattle.kob_connections.specs.declared.program_fault.ProgramFault.{ProgramFault}
use Rattle.kob_connections.specs.declared.program_fault.ProgramFault.TheVariants as program
use Rattle.kob_outbox.specs.Contents.{Event}
use Rattle.kob_delivery.specs.Delivered.{ReachesInOrder}
use Rattle.kob_router.specs.Run.{dispatch_of}
use Rattle.kob_router.specs.declared.line.Call.{Call}
use Rattle.kob_shared.specs.declared.journal.Entry.{Entry}
use Rattle.kob_endpoints.specs.declared.reaching.DeliveryFault.{DeliveryFault}
use Rattle.kob_endpoints.specs.declared.reaching.DeliveryFault.TheVariants as faults
use Rattle.kob_inbox.specs.Tick as consumer
use Rattle.kob_inbox.specs.Tick.{Point, Ticks}
use Rattle.kob_inbox.specs.declared.fetcher.Subscription.{Subscription}
use Rattle.kob_inbox.specs.declared.tick.Tick.{Tick}
use Rattle.kob_inbox.specs.declared.tick.Tick.TheVariants as took
use Rattle.kob_rights.specs.declared.code.Code.{Code}
use Rattle.kob_rights.specs.declared.code.Code.TheVariants.{OffsetOutOfRange}
use Rattle.kob_delivery.specs.Served.{served_to}
use Rattle.kob_delivery.specs.View.{ArePrivate, IsBreach}
use Rattle.kob_router.specs.Line.{AreServed, Served}
use Rattle.kob_router.specs.Tick as router
use Rattle.kob_router.specs.declared.tick.Tick as router_tick
use Rattle.kob_router.specs.declared.tick.Tick.TheVariants as sent
use Rattle.kob_router.specs.declared.tick.StopReason.{StopReason}
use Rattle.kob_router.specs.declared.tick.StopReason.TheVariants as stops
use Rattle.kob_rights.specs.declared.reply.Reply.TheVariants.{Done, Denied, Refused}

-- a service: its outbox with its router, the calls of the lines that it handed out, and its line
pub record Service (L : Type 0) : Type 0 where
  pub relayed : Relayed
  pub earlier : List Call
  pub line : L

-- a consumer with its inbox, the calls of the lines that it handed out, and its line
pub record Reader (L : Type 0) : Type 0 where
  pub fetcher : Fetcher
  pub inbox : Contents
  pub earlier : List Call
  pub line : L

-- a service that began with an empty outbox made these calls and recorded these rows
abbrev pub IsSenderRun : Relayed → List Call → List Event → Type 0
IsSenderRun r calls rows =
    HasServiceRun (dispatch_of r.router.target) (router.state_of r.router r.outbox) calls rows

-- such rows there are
abbrev pub HasRun : Relayed → List Call → Type 0
HasRun r calls = (rows : List Event) × IsSenderRun r calls rows

-- the service went on, and recorded no row
abbrev pub RecordsNoRow : Relayed → List Call → Relayed → List Call → Type 0
RecordsNoRow old calls new then_calls =
    (rows : List Event) → IsSenderRun old calls rows → IsSenderRun new then_calls rows

-- how the work of sending all rows ends at a tick, if it does: no row waits, or no further tick mends
-- what stopped it
abbrev pub sending_after : router_tick.Tick → Option (Result (Unit {0}) ProgramFault)
sending_after sent.Idle = Some (Ok tt)
sending_after (sent.Moved seq) = None
sending_after sent.Repeat = None
sending_after (sent.Stopped (stops.Rejected reply)) = None
sending_after (sent.Stopped stops.BadTopic) = Some (Err program.BadText)
sending_after (sent.Stopped (stops.Memory refused)) = Some (Err (program.Memory refused))
sending_after (sent.Stopped stops.Store) = Some (Err program.Store)

-- a service and what its line reports, at one time
pub record Moment : Type 0 where
  pub relayed : Relayed
  pub calls : List Call
  pub unmade : ℕ

abbrev pub at : Relayed → List Call → ℕ → Moment
at relayed calls unmade = record { relayed = relayed; calls = calls; unmade = unmade }

-- a tick of a service led from one moment to another
abbrev pub IsTickBetween : Moment → Moment → router_tick.Tick → Type 0
IsTickBetween old new tick =
    IsTick old.relayed new.relayed old.calls new.calls old.unmade new.unmade tick

-- such ticks in a row led from one to another, the latest of them first
abbrev pub AreTicks : {P T : Type 0} → (P → P → T → Type 0) → List T → P → P → Type 0
AreTicks Ticks [] before now = before ≡ now
AreTicks {P} Ticks (tick ∷ ticks) before now =
    (last : P) × AreTicks Ticks ticks before last × Ticks last now tick

-- these ticks, the latest first, are no more than may be made, and the work of sending all rows went
-- on after all but the latest: only that one may have found no row
abbrev pub AreTries : ℕ → List router_tick.Tick → Type 0
AreTries most [] = Unit {0}
AreTries most (tick ∷ ticks) =
    AllByRecursion (λ one. sending_after one ≡ None) ticks × (length (tick ∷ ticks) ≤ most)

-- some such ticks were made
abbrev pub TriesFor : ℕ → Moment → Moment → Type 0
TriesFor most before now =
    (ticks : List router_tick.Tick) × AreTicks IsTickBetween ticks before now × AreTries most ticks

-- the work ends with this fault after these ticks: the latest says so, or it is `Stopped` after as
-- many as may be made
abbrev pub EndsSending : ℕ → List router_tick.Tick → ProgramFault → Type 0
EndsSending most [] fault = (most ≡ 0) × (fault ≡ program.Stopped)
EndsSending most (tick ∷ ticks) fault =
    AreTries most (tick ∷ ticks)
    × ((sending_after tick ≡ Some (Err fault))
    ⊎ ((sending_after tick ≡ None) × (length (tick ∷ ticks) ≡ most) × (fault ≡ program.Stopped)))

-- some such ticks were made
abbrev pub SendsFor : ℕ → Moment → Moment → ProgramFault → Type 0
SendsFor most before now fault =
    (ticks : List router_tick.Tick) × AreTicks IsTickBetween ticks before now
    × EndsSending most ticks fault

-- some service that has run so far made this tick
pub record IsSomeTick (tick : router_tick.Tick) : Type 0 where
  pub before : Moment
  pub now : Moment
  pub ran : HasRun before.relayed before.calls
  pub made : IsTickBetween before now tick

-- this holds of some service that has run so far
abbrev pub OfSomeService : (Relayed → Type 0) → Type 0
OfSomeService P =
    (relayed : Relayed) × ((calls : List Call) × HasRun relayed calls) × P relayed

-- a consumer that began with an empty inbox made these calls
abbrev pub IsReaderRun : Fetcher → Contents → List Call → Type 0
IsReaderRun f inbox calls = HasConsumerRun f.subscription (consumer.state_of f inbox) calls

-- a refusal that no further tick mends: the position is not an offset of the partition
abbrev pub fault_of_code : Code → Option ProgramFault
fault_of_code OffsetOutOfRange = Some program.NotServed
fault_of_code _ = None

-- why the work of taking records in ends at a step that stopped, if it does
abbrev pub fault_of_stop : StopReason → Option ProgramFault
fault_of_stop (stops.Rejected (Done body)) = None
fault_of_stop (stops.Rejected (Denied code verdicts)) = None
fault_of_stop (stops.Rejected (Refused code reason)) = fault_of_code code
fault_of_stop stops.BadTopic = None
fault_of_stop (stops.Memory refused) = Some (program.Memory refused)
fault_of_stop stops.Store = Some program.Store

-- why it ends at a tick, if it does
abbrev pub taking_after : Tick → Option ProgramFault
taking_after (took.Placed position) = None
taking_after (took.Took records) = None
taking_after took.Committed = None
taking_after took.Idle = None
taking_after took.Repeat = None
taking_after (took.Stopped reason) = fault_of_stop reason

-- a tick of a consumer whose inbox had fewer rows than so many
abbrev pub TicksBelow : ℕ → Subscription → Point → Point → Tick → Type 0
TicksBelow rows t old new tick = (length old.state.inbox < rows) × Ticks t old new tick

-- the work of taking records in went on after each of these ticks
abbrev pub WentOn : List Tick → Type 0
WentOn ticks = AllByRecursion (λ tick. taking_after tick ≡ None) ticks

-- The work ends with this fault after these ticks, the latest first: that one says so, or it is
-- `Stopped` after as many as may be made. It went on after all others.
abbrev pub EndsTaking : ℕ → List Tick → ProgramFault → Type 0
EndsTaking most [] fault = (most ≡ 0) × (fault ≡ program.Stopped)
EndsTaking most (tick ∷ ticks) fault =
    WentOn ticks × (length (tick ∷ ticks) ≤ most)
    × ((taking_after tick ≡ Some fault)
    ⊎ ((taking_after tick ≡ None) × (length (tick ∷ ticks) ≡ most) × (fault ≡ program.Stopped)))

-- The work of taking so many rows in ends so after these ticks, the latest first, when so many are
-- there: well only if they are enough. Otherwise it is out of memory to read them, or the latest tick
-- says the fault, or it is `Stopped` after as many as may be made, and they are not enough.
abbrev pub EndsTakingRows : ℕ → ℕ → List Tick → ℕ → Result (Unit {0}) ProgramFault → Type 0
EndsTakingRows rows most ticks there (Ok done) =
    (rows ≤ there) × WentOn ticks × (length ticks ≤ most)
EndsTakingRows rows most ticks there (Err fault) =
    ((fault ≡ program.Memory alloc_error) × WentOn ticks × (length ticks ≤ most))
    ⊎ (EndsTaking most ticks fault × (WentOn ticks → there < rows))

-- how many ticks in a row found no record, after one more
abbrev pub idle_after : Tick → ℕ → ℕ
idle_after (took.Placed position) count = 0
idle_after (took.Took records) count = 0
idle_after took.Committed count = 0
idle_after took.Idle count = suc count
idle_after took.Repeat count = 0
idle_after (took.Stopped reason) count = 0

-- how many of these ticks, from the latest back, found no record in a row
abbrev pub idle_ones : List Tick → ℕ
idle_ones [] = 0
idle_ones (tick ∷ ticks) = idle_after tick (idle_ones ticks)

-- after none of these ticks had a round of so many turns found no record
abbrev pub HasNoRound : ℕ → List Tick → Type 0
HasNoRound round [] = Unit {0}
HasNoRound round (tick ∷ ticks) = HasNoRound round ticks × (idle_ones (tick ∷ ticks) < round)

-- the work of taking all records in ends so after these ticks, the latest first: well exactly if the
-- last of them end the first round that found no record
abbrev pub EndsTakingAll : ℕ → ℕ → List Tick → Result (Unit {0}) ProgramFault → Type 0
EndsTakingAll round most ticks (Err fault) = HasNoRound round ticks × EndsTaking most ticks fault
EndsTakingAll round most [] (Ok done) = ⊥
EndsTakingAll round most (tick ∷ ticks) (Ok done) =
    HasNoRound round ticks × (idle_ones (tick ∷ ticks) ≡ round)
    × WentOn ticks × (length (tick ∷ ticks) ≤ most)

-- a service whose line ended, and the number of its worker
pub record ServiceLeft : Type 0 where
  pub worker : ℕ
  pub calls : List Call
  pub relayed : Relayed

-- a consumer whose line ended, and the number of its worker
pub record ReaderLeft : Type 0 where
  pub worker : ℕ
  pub calls : List Call
  pub fetcher : Fetcher
  pub inbox : Contents

-- of each aggregate, the inbox has a prefix of the rows that the service recorded
pub record ReachesReader (s : ServiceLeft) (r : ReaderLeft) : Type 0 where
  pub recorded : HasRun s.relayed s.calls
  pub reaches :
      (rows : List Event) (kind id : List ℕ)
      → IsSenderRun s.relayed s.calls rows
      → ReachesInOrder rows r.inbox kind id

-- what the law of delivery asks: the journal has the calls of both lines, and breaks no premise
pub record HasPremises (s : ServiceLeft) (r : ReaderLeft) (journal : List Entry) : Type 0 where
  pub sent : AreServed s.calls (served_to s.worker journal)
  pub taken : AreServed r.calls (served_to r.worker journal)
  pub private : ArePrivate s.worker r.worker r.fetcher.subscription.group
      r.fetcher.subscription.assignment journal

-- each of these calls has its place in what was served: with some calls after them, it is theirs
abbrev pub HavePlaces : List Call → List Served → Type 0
HavePlaces calls served = (after : List Call) × AreServed (calls ++ after) served

-- The calls before the one of this number have their places, and with it they have not. Or the number
-- is that of all calls: they have their places, and more was served.
abbrev pub IsUnserved : List Call → List Served → ℕ → Type 0
IsUnserved calls served number =
    HavePlaces (take number calls) served
    × (((number < length calls) × ¬ (HavePlaces (take (number + 1) calls) served))
    ⊎ ((number ≡ length calls) × ¬ (AreServed calls served)))

-- what of it is lacking
abbrev pub IsLacking : ServiceLeft → ReaderLeft → List Entry → DeliveryFault → Type 0
IsLacking s r journal (faults.Memory refused) = Unit {0}
IsLacking s r journal (faults.Service number) = IsUnserved s.calls (served_to s.worker journal) number
IsLacking s r journal (faults.Consumer number) = IsUnserved r.calls (served_to r.worker journal) number
IsLacking s r journal (faults.Premise breach) = IsBreach s.worker r.worker r.fetcher.subscription.group
    r.fetcher.subscription.assignment journal breach
