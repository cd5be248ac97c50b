-- What one tick of a consumer does.
use Rattle.std.specs.Prelude.{◌≡◌, ◌⊎◌, ℕ, ◌<◌, ◌≤◌, List, [], ◌∷◌, ◌++◌, length, Option, None, Some, unwrap_or}
use Rattle.kob_rights.specs.declared.on_groups.OffsetCommit.{OffsetCommit as CommitRequest}
use Rattle.kob_rights.specs.declared.on_groups.OffsetFetch.{OffsetFetch as PositionRequest}
use Rattle.kob_rights.specs.declared.on_partitions.Fetch.{Fetch as FetchRequest}
use Rattle.kob_rights.specs.declared.reply.Body.TheVariants as bodies
use Rattle.kob_router.specs.Line.{one_more}
use Rattle.kob_inbox.specs.declared.fetcher.Fetcher.{Fetcher}
use Rattle.kob_router.specs.Tick.{IsRejection}
use Rattle.kob_router.specs.declared.tick.StopReason.{StopReason}
use Rattle.kob_router.specs.declared.tick.StopReason.TheVariants as stop
use Rattle.kob_inbox.specs.declared.tick.Tick.{Tick}
use Rattle.kob_inbox.specs.declared.tick.Tick.TheVariants.{Placed, Took, Committed, Idle, Repeat, Stopped}
use Rattle.kob_inbox.specs.Contents.{Contents}
use Rattle.kob_inbox.specs.Run.{Body, Call, Done, Fetch, OffsetCommit, OffsetFetch, Record, Reply, Request, Subscription, State, Move, IsConsumerRun, calls_of, after_answer, records_heard}
use Rattle.kob_inbox.specs.Run.Move.{Called}

-- a consumer with its inbox
abbrev pub state_of : Fetcher → Contents → State
state_of f inbox = record { inbox = inbox; cursors = f.cursors.items; turn = f.turn }

-- a consumer with its inbox, and what its line reports
pub record Point : Type 0 where
  pub state : State
  pub calls : List Call
  pub unmade : ℕ

-- both, at one time
abbrev pub point_of : Fetcher → Contents → List Call → ℕ → Point
point_of f inbox calls unmade = record { state = state_of f inbox; calls = calls; unmade = unmade }

-- some assigned partition has the turn, where there is one
abbrev pub IsOnTurn : Fetcher → Type 0
IsOnTurn f = (f.subscription.assignment ≡ []) ⊎ (f.turn < length f.subscription.assignment)

-- one call was made
abbrev pub IsCall : List Move → Request → Option Reply → ℕ → Type 0
IsCall moves request heard count =
    moves ≡ Called (record { request = request; heard = heard }) count ∷ []

-- records were heard of which not all were taken in
abbrev pub IsCut : List Move → Type 0
IsCut moves =
    (asked : FetchRequest) × (records : List (ℕ × Record)) × (count : ℕ)
    × IsCall moves (Fetch asked) (Some (Done (bodies.Records records))) count
    × (count < length records)

-- why a tick stopped
abbrev pub IsReason : StopReason → List Move → Type 0
IsReason (stop.Rejected reply) moves =
    IsRejection reply × ((request : Request) × IsCall moves request (Some reply) 0)
IsReason stop.BadTopic moves = ⊥
IsReason (stop.Memory refused) moves = (moves ≡ []) ⊎ IsCut moves
IsReason stop.Store moves = IsCut moves

-- what a tick answers, by the one move that it makes
abbrev pub IsReport : Subscription → Tick → List Move → Type 0
IsReport t (Placed position) moves =
    (asked : PositionRequest) × (committed : Option ℕ)
    × IsCall moves (OffsetFetch asked) (Some (Done (bodies.Commit committed))) 0
    × (position ≡ unwrap_or committed 0)
IsReport t (Took count) moves =
    (asked : FetchRequest) × (records : List (ℕ × Record))
    × IsCall moves (Fetch asked) (Some (Done (bodies.Records records))) count
    × (count ≡ length records) × (0 < count)
IsReport t Committed moves =
    (asked : CommitRequest) × IsCall moves (OffsetCommit asked) (Some (Done bodies.Committed)) 0
IsReport t Idle moves =
    ((t.assignment ≡ []) × (moves ≡ []))
    ⊎ ((asked : FetchRequest) × IsCall moves (Fetch asked) (Some (Done (bodies.Records []))) 0)
IsReport t Repeat moves = (moves ≡ []) ⊎ ((request : Request) × IsCall moves request None 0)
IsReport t (Stopped reason) moves = IsReason reason moves

-- how often calls were not made for lack of memory: of a tick, only a loss without a call says so
abbrev pub unmade_by : Tick → List Move → ℕ → ℕ
unmade_by tick (move ∷ moves) unmade = unmade
unmade_by Repeat [] unmade = one_more unmade
unmade_by tick [] unmade = unmade

-- the one move of a tick, or none: a run, whose call the line notes and the answer reports
pub record Ticks (t : Subscription) (old new : Point) (tick : Tick) : Type 0 where
  pub moves : List Move
  pub run : IsConsumerRun t old.state moves new.state
  pub calls : new.calls ≡ old.calls ++ calls_of moves
  pub answer : IsReport t tick moves
  pub counted : new.unmade ≡ unmade_by tick moves old.unmade

-- what becomes of a body that was heard
pub record Hears (t : Subscription) (old new : State) (request : Request) (body : Body)
    (tick : Tick) : Type 0 where
  pub count : ℕ
  pub within : count ≤ length (records_heard (Some (Done body)))
  pub changed : new ≡ after_answer t old request (Some (Done body)) count
  pub answer : IsReport t tick
      (Called (record { request = request; heard = Some (Done body) }) count ∷ [])
