-- Which calls of a worker were served, which were lost, and what it noted of them.
use Rattle.std.specs.Prelude.{ℕ, List, [], ◌∷◌, ◌≡◌, ◌++◌, Option, None, Some}
use Rattle.kob_pipeline.specs.Types.{Served, Call, AtDesk, CallFault, Loss, Event}
use Rattle.kob_shared.specs.declared.journal.Receipt.{Receipt}
use Rattle.std.specs.List.{All}
use Rattle.kob_router.specs.declared.line.Loss.TheVariants as losses

-- what a worker noted that it was served, in order
abbrev pub served_by_notes : List Event → List Receipt → List Served
served_by_notes [] told = []
served_by_notes (e ∷ es) [] = []
served_by_notes (e ∷ es) (r ∷ rs) =
    record { request = e.request; reply = r.reply } ∷ served_by_notes es rs

-- Which calls of a tick were served, where the first has this loss and no other is lost. Without a
-- loss a call was served, and its reply was heard; lost before it was served, it was neither; lost
-- after, it was served and not heard.
abbrev pub AreServedByLoss : Loss → List Call → List Served → Type 0
AreServedByLoss loss [] [] = Unit {0}
AreServedByLoss losses.None (c ∷ cs) (s ∷ ss) =
    (s.request ≡ c.request) × (c.heard ≡ Some s.reply) × AreServedByLoss losses.None cs ss
AreServedByLoss losses.BeforeServe (c ∷ cs) ss =
    (c.heard ≡ None) × AreServedByLoss losses.None cs ss
AreServedByLoss losses.AfterServe (c ∷ cs) (s ∷ ss) =
    (s.request ≡ c.request) × (c.heard ≡ None) × AreServedByLoss losses.None cs ss
AreServedByLoss loss cs ss = ⊥

-- how the next call is lost, after these of a tick
abbrev pub loss_after : Loss → List Call → Loss
loss_after loss [] = loss
loss_after loss (call ∷ calls) = losses.None

-- the event is of this principal and its host
abbrev pub IsEventOf : List ℕ → List ℕ → Event → Type 0
IsEventOf principal host e = (e.principal ≡ principal) × (e.host ≡ host)

-- what was served is noted, for the principal and the host of the desk
pub record AreNoted (served : List Served) (old new : AtDesk) : Type 0 where
  pub principal : new.seat.principal ≡ old.seat.principal
  pub host : new.seat.host ≡ old.seat.host
  pub noted :
      served_by_notes new.noted.events new.noted.told
      ≡ served_by_notes old.noted.events old.noted.told ++ served
  pub events : List Event
  pub added : new.noted.events ≡ old.noted.events ++ events
  pub own : All (IsEventOf old.seat.principal old.seat.host) events

-- each call of a tick was noted, or lost on purpose
pub record AreNotedOrLost (loss : Loss) (calls : List Call) (old new : AtDesk) : Type 0 where
  pub served : List Served
  pub by_loss : AreServedByLoss loss calls served
  pub noted : AreNoted served old new

-- the same of the calls that a line over the desk made
pub record AreMade (fault : Option CallFault) (loss then_loss : Loss) (calls then_calls : List Call)
    (old new : AtDesk) : Type 0 where
  pub begun : fault ≡ None
  pub made : List Call
  pub calls_now : then_calls ≡ calls ++ made
  pub next : then_loss ≡ loss_after loss made
  pub noted : AreNotedOrLost loss made old new
