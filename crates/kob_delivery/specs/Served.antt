-- What a journal says that a worker was served, and the part of a service and a consumer in it.
use Rattle.std.specs.Prelude.{ℕ, List, [], ◌∷◌, if◌then◌else◌, ◌==◌}
use Rattle.kob_delivery.specs.Types.{Served, AreServed, Entry, dispatch_of, Subscription}
use Rattle.kob_router.specs.declared.dispatch.Target.{Target}
use Rattle.kob_router.specs.Run as router
use Rattle.kob_inbox.specs.Run as consumer
use Rattle.kob_connections.specs.Calls.{served_in}

-- what the journal says that a worker was served, in order
abbrev pub served_to : ℕ → List Entry → List Served
served_to worker [] = []
served_to worker (e ∷ es) =
    if e.worker == worker then served_in e ∷ served_to worker es else served_to worker es

-- a service's part in a journal: a run from an empty outbox on, whose calls it served to the worker
pub record IsServicePart (target : Target) (worker : ℕ) (journal : List Entry)
    (moves : List router.Move) (now : router.State) : Type 0 where
  pub run : router.IsRouterRun (dispatch_of target) router.start moves now
  pub served : AreServed (router.calls_of moves) (served_to worker journal)

-- a consumer's, from an empty inbox on
pub record IsConsumerPart (t : Subscription) (worker : ℕ) (journal : List Entry)
    (moves : List consumer.Move) (now : consumer.State) : Type 0 where
  pub run : consumer.IsConsumerRun t consumer.start moves now
  pub served : AreServed (consumer.calls_of moves) (served_to worker journal)
