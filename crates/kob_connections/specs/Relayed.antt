-- An outbox, and the router that sends its rows.
use Rattle.std.specs.Prelude.{◌≡◌, ℕ, List, option_map}
use Rattle.kob_outbox.specs.Contents.{Contents, Event, empty}
use Rattle.kob_router.specs.Run.{dispatch_of, Dispatching, IsRouterRun, events_of}
use Rattle.kob_router.specs.Tick.{IsFirst, IsOneTick, Ticks, hand_of, point_of, state_of}
use Rattle.kob_router.specs.declared.line.Call.{Call}
use Rattle.kob_router.specs.declared.sender.Sender.{Sender}
use Rattle.kob_router.specs.declared.tick.Tick.{Tick}
use Rattle.kob_inbox.specs.declared.fetcher.Subscription.{Subscription}
use Rattle.kob_inbox.specs.Run.{IsConsumerRun}
use Rattle.kob_router.specs.Run as routers
use Rattle.kob_inbox.specs.Run as consumers

-- a router with its outbox
pub record Relayed : Type 0 where
  pub outbox : Contents
  pub router : Sender

-- both, as a run has them
abbrev pub relayed_state : Relayed → routers.State
relayed_state r = state_of r.router r.outbox

-- the row in hand, if there is one, is the first after the mark
abbrev pub HoldsFirst : Relayed → Type 0
HoldsFirst r = IsFirst (option_map hand_of r.router.hand) r.outbox

-- one step of the router
abbrev pub IsTick : Relayed → Relayed → List Call → List Call → ℕ → ℕ → Tick → Type 0
IsTick old new calls then_calls unmade then_unmade tick =
    (new.router.target ≡ old.router.target)
    × Ticks IsOneTick (dispatch_of old.router.target) (point_of old.router old.outbox calls unmade)
    (point_of new.router new.outbox then_calls then_unmade) tick

-- from an empty outbox and a new router on a run led to this state: it made these calls and recorded
-- these rows, swept ones included
pub record HasServiceRun (route : Dispatching) (state : routers.State) (calls : List Call) (rows : List Event)
    : Type 0 where
  pub moves : List routers.Move
  pub run : IsRouterRun route routers.start moves state
  pub made : calls ≡ routers.calls_of moves
  pub recorded : rows ≡ events_of empty moves

-- from an empty inbox and a new consumer on a run led to this state, and made these calls
pub record HasConsumerRun (t : Subscription) (state : consumers.State) (calls : List Call) : Type 0 where
  pub moves : List consumers.Move
  pub run : IsConsumerRun t consumers.start moves state
  pub made : calls ≡ consumers.calls_of moves
