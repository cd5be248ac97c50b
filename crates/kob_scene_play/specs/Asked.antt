-- A request of a worker of which a message may be lost.
use Rattle.std.specs.Prelude.{◌≡◌, ℕ, ◌+◌, Bool, true, false, Option, None, Some}
use Rattle.kob_router.specs.declared.tick.StopReason.TheVariants as stops
use Rattle.kob_inbox.specs.declared.tick.Tick.{Tick}
use Rattle.kob_inbox.specs.declared.tick.Tick.TheVariants.{Committed, Repeat, Stopped}
use Rattle.kob_router.specs.declared.line.Loss.{Loss}
use Rattle.kob_router.specs.declared.line.Loss.TheVariants as losses
use Rattle.kob_rights.specs.declared.event.Event.{Event}
use Rattle.kob_rights.specs.declared.reply.Reply.{Reply}
use Rattle.kob_rights.specs.declared.reply.Reply.TheVariants.{Done}
use Rattle.kob_shared.specs.Journals.{Record, after_event, outcome_of}

-- the request is served as this worker's, unless it is lost before; its reply is heard, unless the
-- request or the reply is lost
abbrev pub IsAsked : Loss → ℕ → Event → Record → Record → Option Reply → Type 0
IsAsked losses.None worker event before after heard =
    (after ≡ after_event before worker event)
    × (heard ≡ Some (outcome_of before event).reply)
IsAsked losses.BeforeServe worker event before after heard = (after ≡ before) × (heard ≡ None)
IsAsked losses.AfterServe worker event before after heard =
    (after ≡ after_event before worker event) × (heard ≡ None)

-- how many entries a journal has before and after a tick whose first call has this loss, by whether
-- the tick has to be made again: a request that is lost has none, and one whose reply is lost has one
abbrev pub HasLoss : Loss → Bool → ℕ → ℕ → Type 0
HasLoss losses.None is_repeat before after = Unit {0}
HasLoss losses.BeforeServe is_repeat before after = after ≡ before
HasLoss losses.AfterServe true before after = after ≡ before + 1
HasLoss losses.AfterServe false before after = after ≡ before

-- what a tick answers that asked for a commit
abbrev pub committed_by : Option Reply → Tick
committed_by None = Repeat
committed_by (Some (Done body)) = Committed
committed_by (Some reply) = Stopped (stops.Rejected reply)
