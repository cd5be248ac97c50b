-- What serving a request makes of each server.
use Rattle.std.specs.Prelude.{◌≡◌, ℕ, List, Option, length}
use Rattle.kob_broker.specs.Step.{state_of, step}
use Rattle.kob_connections.specs.Calls.{IsMadeBelow, IsServedIfHeard, PassesOn}
use Rattle.kob_connections.specs.declared.broker_line.BrokerServer.{BrokerServer}
use Rattle.kob_router.specs.declared.line.Loss.{Loss}
use Rattle.kob_router.specs.declared.line.Loss.TheVariants as losses
use Rattle.kob_connections.specs.declared.recorded_line.RecordedServer.{RecordedServer}
use Rattle.kob_partition.specs.Retained.{retained_meaning}
use Rattle.kob_rights.specs.declared.reply.Reply.{Reply}
use Rattle.kob_rights.specs.declared.request.Request.{Request}
use Rattle.kob_router.specs.declared.line.Call.{Call}
use Rattle.kob_shared.specs.Journals.{after_event, event_by, outcome_of}
use Rattle.kob_shared.specs.declared.faults.CallFault.{CallFault}
use Rattle.kob_shared.specs.declared.faults.CallFault.TheVariants as faults

-- the same broker serves the request for the same principal at the same host, or does not
abbrev pub ServesBroker : BrokerServer → BrokerServer → Request → Option Reply → Type 0
ServesBroker old new request there =
    (new.broker.ghost_name ≡ old.broker.ghost_name)
    × (new.principal ≡ old.principal)
    × (new.host ≡ old.host)
    × IsServedIfHeard (state_of old.broker.now)
    (step retained_meaning (state_of old.broker.now)
    (event_by old.principal old.host request)).state
    (state_of new.broker.now)
    (step retained_meaning (state_of old.broker.now)
    (event_by old.principal old.host request)).reply there

-- the same, as a request of the same worker: its entry is the journal's next one
abbrev pub ServesRecorded : RecordedServer → RecordedServer → Request → Option Reply → Type 0
ServesRecorded old new request there =
    (new.recorded.ghost_name ≡ old.recorded.ghost_name)
    × (new.worker ≡ old.worker)
    × (new.principal ≡ old.principal)
    × (new.host ≡ old.host)
    × IsServedIfHeard old.recorded.now
    (after_event old.recorded.now old.worker (event_by old.principal old.host request))
    new.recorded.now
    (outcome_of old.recorded.now (event_by old.principal old.host request)).reply there

-- a broker has no journal
abbrev pub RefusesBroker : BrokerServer → Request → CallFault → Type 0
RefusesBroker old request (faults.Memory refused) = Unit {0}
RefusesBroker old request faults.JournalFull = ⊥
RefusesBroker old request (faults.Stale length) = ⊥

-- a full journal takes no entry
abbrev pub RefusesRecorded : RecordedServer → Request → CallFault → Type 0
RefusesRecorded old request (faults.Memory refused) = Unit {0}
RefusesRecorded old request faults.JournalFull =
    length old.recorded.now.journal ≡ old.recorded.now.limit
RefusesRecorded old request (faults.Stale seen) = ⊥

-- a call is made of the line below, or lost before it or after it. The next one is not lost
abbrev pub ServesLossy : {L : Type 0} → (L → L → Type 0) → (L → List Call) → (L → ℕ)
    → Loss → Loss → L → L → Request → Option Reply → Type 0
ServesLossy becomes calls unmade loss then_loss line then_line request there =
    (then_loss ≡ losses.None)
    × becomes line then_line
    × PassesOn loss (calls line) (calls then_line) request there
    × (loss ≡ losses.AfterServe
    → IsMadeBelow (calls line) (calls then_line) (unmade line) (unmade then_line) request)
