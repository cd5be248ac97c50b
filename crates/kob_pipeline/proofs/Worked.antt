-- One call at a desk, and those of a tick.
use Rattle.kob_pipeline.proofs.Words.{All-cons, All-nil, AreMade, AreNotedOrLost, AreServed, AreServedByLoss, AtDesk, Call, CallFault, Change, ConsumerGoesOn, ConsumerPlan, Dispatching, Doing, Err, HasWorked, IfNone, IfOk, IfSome, InboxEnd, IsConsumerStep, IsConsumption, IsEventOf, IsHeard, IsInboxLeft, IsOfConsumerStep, IsOfServiceStep, IsOutboxLeft, IsServiceRun, IsServiceStep, Leads, List, Loss, None, Ok, Option, OutboxEnd, OutboxEvent, Receipt, Reply, Request, Result, Served, Service, ServiceGoesOn, ServiceStep, Some, WithDesk, Steps, Subscription, [], ap, append-nil, append_assoc, append_cancel_left, arith, dispatch_of, event_at, get_or, get_or_push, inl, inr, later_than, length, length-append, map, nat_tests, nothing, refl, served_by_notes, with_desk, stored_row, sym, take, take_more, ℕ, ◌++◌, ◌+◌, ◌-◌, ◌<◌, ◌∙◌, ◌∷◌, ◌≡◌}
use Rattle.kob_rights.specs.declared.event.Event.{Event}
use Rattle.kob_pipeline.specs.Noting.{nothing_is_noted, noted_append}
use Rattle.kob_router.proofs.Runs.{calls_append, run_append}
use Rattle.kob_connections.proofs.ConsumerCourses.{calls_joined, joined}
use Rattle.kob_connections.proofs.Adding.{served_append}
use Rattle.kob_pipeline.specs.declared.plan.ConsumerStep.{ConsumerStep}
use Rattle.kob_pipeline.specs.declared.plan.ServiceStep.TheVariants.{Record}
use Rattle.kob_delivery.proofs.Rows.{all_later, run_numbered}
use Rattle.kob_inbox.specs.declared.tick.Tick.{Tick as ConsumerAnswer}
use Rattle.kob_router.specs.declared.tick.Tick.{Tick as RouterAnswer}
use Rattle.kob_router.specs.declared.line.Loss.TheVariants as lost
use Rattle.kob_inbox.specs.Run as consumers
use Rattle.kob_inbox.specs.Tick as consumer_ticks
use Rattle.kob_router.specs.Run as routers
use Rattle.kob_router.specs.Tick as router_ticks
use Rattle.kob_pipeline.specs.declared.plan.ConsumerStep.TheVariants as consumer_steps
use Rattle.kob_pipeline.specs.declared.plan.ServiceStep.TheVariants as service_steps

-- one more event with its receipt
notes_push : (es : List Event) (rs : List Receipt) (e : Event) (r : Receipt) → length es ≡ length rs
    → served_by_notes (es ++ e ∷ []) (rs ++ r ∷ [])
    ≡ served_by_notes es rs ++ record { request = e.request; reply = r.reply } ∷ []
notes_push [] [] e r same = refl
notes_push [] (x ∷ rs) e r same = absurd (omega (arith, same))
notes_push (x ∷ es) [] e r same = absurd (omega (arith, same))
notes_push (x ∷ es) (y ∷ rs) e r same = cc (notes_push es rs e r (omega (arith, same)))

-- a call that was heard is noted
pub heard_is_noted : (old new : AtDesk) (request : Request) (kept : Reply) (last : Receipt) (n : ℕ)
    → IsHeard old new request → n ≡ length new.noted.events → n ≡ length new.noted.told
    → last ≡ get_or new.noted.told (n - 1) last → kept ≡ last.reply
    → AreNotedOrLost lost.None (record { request = request; heard = Some kept } ∷ []) old new
heard_is_noted old new request kept last n heard events told at_last is =
    let e = event_at old.seat request in
    let r = heard.receipt in
    let events_now : new.noted.events ≡ old.noted.events ++ e ∷ [] = ap (λ (d : AtDesk). d.noted.events) heard.noted in
    let told_now : new.noted.told ≡ old.noted.told ++ r ∷ [] = ap (λ (d : AtDesk). d.noted.told) heard.noted in
    let events_long = ap (λ (es : List Event). length es) events_now ∙ length-append old.noted.events (e ∷ []) in
    let told_long = ap (λ (rs : List Receipt). length rs) told_now ∙ length-append old.noted.told (r ∷ []) in
    let same : length old.noted.events ≡ length old.noted.told =
    omega (arith, events, told, events_long, told_long) in
    let place : length old.noted.told ≡ n - 1 = omega (arith, told, told_long) in
    let there : last ≡ r =
    at_last ∙ ap (λ (rs : List Receipt). get_or rs (n - 1) last) told_now
    ∙ get_or_push old.noted.told r last (n - 1) place in
    record {
      served = record { request = request; reply = r.reply } ∷ [];
      by_loss = (refl, ap (λ (reply : Reply). Some reply) (is ∙ ap (λ (x : Receipt). x.reply) there), tt);
      noted = record {
        principal = ap (λ (d : AtDesk). d.seat.principal) heard.noted;
        host = ap (λ (d : AtDesk). d.seat.host) heard.noted;
        noted =
            ap (λ (d : AtDesk). served_by_notes d.noted.events d.noted.told) heard.noted
            ∙ notes_push old.noted.events old.noted.told e r same;
        events = e ∷ [];
        added = events_now;
        own = All-cons (IsEventOf old.seat.principal old.seat.host) e [] (refl, refl)
            (All-nil (IsEventOf old.seat.principal old.seat.host));
      };
    }

pub unheard_is_noted : (old new : AtDesk) (request : Request) (kept : Reply)
    → AreNotedOrLost lost.None (record { request = request; heard = Some kept } ∷ []) old new
    → AreNotedOrLost lost.AfterServe (record { request = request; heard = None } ∷ []) old new
unheard_is_noted old new request kept noted = grind (arith, nat_tests)

-- a call that is lost before is not noted
pub unserved_is_noted : (desk : AtDesk) (request : Request)
    → AreNotedOrLost lost.BeforeServe (record { request = request; heard = None } ∷ []) desk desk
unserved_is_noted desk request = record { served = []; by_loss = (refl, tt); noted = nothing_is_noted desk }

-- the calls of a tick are those that were noted
pub calls_of_a_tick : (fault : Option CallFault) (loss then_loss : Loss) (calls then_calls made : List Call)
    (old new : AtDesk) → AreMade fault loss then_loss calls then_calls old new → then_calls ≡ calls ++ made
    → AreNotedOrLost loss made old new
calls_of_a_tick fault loss then_loss calls then_calls made old new are is = grind (arith, nat_tests, append_cancel_left)

-- ---- what a desk heard, and what of it a line notes

pub noted_if_served : (request : Request) (heard : Option Reply) (fault : Option CallFault) (old new : AtDesk)
    → IfNone heard (fault ≡ None → ⊥)
    → IfSome heard (λ r. AreNotedOrLost lost.None (record { request = request; heard = Some r } ∷ []) old new)
    → fault ≡ None
    → AreNotedOrLost lost.None (record { request = request; heard = heard } ∷ []) old new
noted_if_served request (Some r) fault old new unserved served none = served
noted_if_served request None fault old new unserved served none = absurd (unserved none)

pub noted_if_unheard : (request : Request) (heard : Option Reply) (fault : Option CallFault) (old new : AtDesk)
    → IfNone heard (fault ≡ None → ⊥)
    → IfSome heard (λ r. AreNotedOrLost lost.None (record { request = request; heard = Some r } ∷ []) old new)
    → fault ≡ None → AreNotedOrLost lost.AfterServe (record { request = request; heard = None } ∷ []) old new
noted_if_unheard request (Some r) fault old new unserved served none = unheard_is_noted old new request r served
noted_if_unheard request None fault old new unserved served none = absurd (unserved none)

pub faultless_before : (heard : Option Reply) (fault before : Option CallFault)
    → IfNone heard (fault ≡ None → ⊥) → IfSome heard (λ r. fault ≡ before) → fault ≡ None → before ≡ None
faultless_before (Some r) fault before unserved same none = sym same ∙ none
faultless_before None fault before unserved same none = absurd (unserved none)

-- a fault is there
pub a_fault_is_one : (fault : Option CallFault) (why : CallFault) → fault ≡ Some why → fault ≡ None → ⊥
a_fault_is_one fault why is none = cc

-- What a worker's steps, its losses and its notes make together.

-- ---- steps one after another, and what they make in all

module _ {S T M : Type 0} (does : Doing S T M) where
  -- one step more
  steps_push : (old mid new : S) (steps : List T) (step : T) (front last : List M) (ss ts : List Served)
      → Steps does old steps front ss mid → does mid step last ts new
      → Steps does old (steps ++ step ∷ []) (front ++ last) (ss ++ ts) new
  steps_push old mid new [] step front last ss ts (no_move, unserved, same) here =
      rw (no_move, unserved)
      (new, last, [], ts, [], rw same at here, (refl, refl, refl), sym (append-nil last), sym (append-nil ts))
  steps_push old mid new (s ∷ steps) step front last ss ts (next, these, those, first, rest, done, later, all, told)
      here =
      rw (all, told) (
        next,
        these,
        those ++ last,
        first,
        rest ++ ts,
        done,
        steps_push next mid new steps step those last rest ts later here,
        append_assoc these those last,
        append_assoc first rest ts,
      )

  -- runs of steps are one run, and its calls were served
  worked : (IsRun : S → List M → S → Type 0) (calls : List M → List Call) → ((s : S) → IsRun s [] s) → calls [] ≡ []
      → ((xs ys : List M) (a b c : S) → IsRun a xs b → IsRun b ys c → IsRun a (xs ++ ys) c)
      → ((xs ys : List M) → calls (xs ++ ys) ≡ calls xs ++ calls ys)
      → ((a b : S) (t : T) (xs : List M) (ss : List Served) → does a t xs ss b → IsRun a xs b × AreServed (calls xs) ss)
      → (old new : S) (steps : List T) (moves : List M) (ss : List Served) → Steps does old steps moves ss new
      → IsRun old moves new × AreServed (calls moves) ss
  worked IsRun calls still none joined split each old new [] moves ss (no_move, unserved, same) =
      rw (no_move, unserved, same, none) (still old, tt)
  worked IsRun calls still none joined split each old new (step ∷ steps) moves ss
      (mid, these, those, first, rest, done, later, all, told) =
      let one = each old mid step these first done in
      let two = worked IsRun calls still none joined split each mid new steps those rest later in
      rw (all, told, split these those) (
        joined these those old mid new one.0 two.0,
        served_append (calls these) (calls those) first rest one.1 two.1,
      )

module _ {S T M : Type 0} {does : Doing S T M} where
  -- no step was made yet
  pub no_step : {state : S} (desk : AtDesk) → Leads (Steps does) (with_desk state desk) [] (with_desk state desk)
  no_step desk = record { moves = []; served = []; done = (refl, refl, refl); noted = nothing_is_noted desk }

  -- the steps up to one more place
  pub leads_more : {old mid new : WithDesk S} {step : T} (steps : List T) (i : ℕ) → i < length steps
      → step ≡ get_or steps i step
      → Leads (Steps does) old (take i steps) mid → Leads does mid step new
      → Leads (Steps does) old (take (i + 1) steps) new
  leads_more {old} {mid} {new} {step} steps i within is before here =
      let longer : take (i + 1) steps ≡ take i steps ++ step ∷ [] =
      take_more steps i step within ∙ ap (λ (t : T). take i steps ++ t ∷ []) (sym is) in
      rw longer
      (record {
        moves = before.moves ++ here.moves;
        served = before.served ++ here.served;
        done =
            steps_push does old.state mid.state new.state (take i steps) step before.moves here.moves before.served
            here.served before.done here.done;
        noted =
            noted_append before.served here.served old.desk mid.desk new.desk before.noted here.noted;
      })

  -- a step that makes no call
  pub leads_still : {old new : S} {step : T} {desk : AtDesk} (moves : List M) → does old step moves [] new
      → Leads does (with_desk old desk) step (with_desk new desk)
  leads_still {desk = desk} moves here =
      record { moves = moves; served = []; done = here; noted = nothing_is_noted desk }

  -- what was noted from nothing on is all
  abbrev has_worked : {start state : S} {planned : List T} {principal host : List ℕ} (begun desk : AtDesk)
      → begun.noted ≡ nothing → begun.seat.principal ≡ principal → begun.seat.host ≡ host
      → Leads (Steps does) (with_desk start begun) planned (with_desk state desk)
      → HasWorked does start planned principal host desk.noted
  has_worked {state = state} begun desk none principal host is = record {
    moves = is.moves;
    state = state;
    steps = rw (is.noted.noted, none) is.done;
    own = rw (is.noted.added, none, ← principal, ← host) is.noted.own;
  }

-- an event that may not be recorded is not
pub not_recorded : {route : Dispatching} {old new : routers.State} {change : Change} {event : OutboxEvent}
    (desk : AtDesk) → new ≡ old → (routers.IsRecordable old.outbox change event → ⊥)
    → Leads (IsServiceStep route) (with_desk old desk) (Record change event) (with_desk new desk)
not_recorded desk same never = leads_still [] (record { run = same; own = (inr (refl, never), refl) })

-- ---- what a worker's steps, its losses and its notes make together

-- calls that were served as their loss says were served
served_by_loss : (loss : Loss) (cs : List Call) (ss : List Served) → AreServedByLoss loss cs ss → AreServed cs ss
served_by_loss loss [] [] is = tt
served_by_loss lost.None (c ∷ cs) (s ∷ ss) is = inr (is.0, inr is.1, served_by_loss lost.None cs ss is.2)
served_by_loss lost.BeforeServe (c ∷ cs) [] is = (is.0, served_by_loss lost.None cs [] is.1)
served_by_loss lost.BeforeServe (c ∷ cs) (s ∷ ss) is = inl (is.0, served_by_loss lost.None cs (s ∷ ss) is.1)
served_by_loss lost.AfterServe (c ∷ cs) (s ∷ ss) is = inr (is.0, inl is.1, served_by_loss lost.None cs ss is.2)
served_by_loss loss cs ss is = absurd is

-- the steps of a service are a router's run, and its calls were served
service_run : (route : Dispatching) (old new : routers.State) (steps : List ServiceStep) (moves : List routers.Move)
    (ss : List Served) → Steps (IsServiceStep route) old steps moves ss new
    → routers.IsRouterRun route old moves new × AreServed (routers.calls_of moves) ss
service_run route =
    worked (IsServiceStep route) (routers.IsRouterRun route) routers.calls_of (λ s. refl) refl (run_append route)
    calls_append (λ a b t xs ss done. (done.run, served route a b t xs ss done.own))
  where
    served : (route : Dispatching) (old new : routers.State) (step : ServiceStep) (ms : List routers.Move)
        (ss : List Served) → IsOfServiceStep route old step ms ss new → AreServed (routers.calls_of ms) ss
    served route old new step ms ss own = grind (arith, nat_tests, served_by_loss)

-- the steps of a consumer are a consumer's run, and its calls were served
consumer_run : (t : Subscription) (old new : consumers.State) (steps : List ConsumerStep) (moves : List consumers.Move)
    (ss : List Served) → Steps (IsConsumerStep t) old steps moves ss new
    → consumers.IsConsumerRun t old moves new × AreServed (consumers.calls_of moves) ss
consumer_run t =
    worked (IsConsumerStep t) (consumers.IsConsumerRun t) consumers.calls_of (λ s. refl) refl (joined t) calls_joined
    (λ a b u xs ss done. (done.run, served t u xs ss done.own))
  where
    served : (t : Subscription) (step : ConsumerStep) (ms : List consumers.Move) (ss : List Served)
        → IsOfConsumerStep t step ms ss → AreServed (consumers.calls_of ms) ss
    served t step ms ss own = grind (arith, nat_tests, served_by_loss)

pub service_run_of : (s : Service) (begun desk : AtDesk) (left : OutboxEnd) → begun.noted ≡ nothing
    → begun.seat.principal ≡ s.principal → begun.seat.host ≡ s.host → IsOutboxLeft s begun desk left
    → IsServiceRun s desk.noted left
service_run_of s begun desk left none principal host is =
    let work = has_worked {does = IsServiceStep (dispatch_of s.target)} begun desk none principal host is.leads in
    let run = service_run (dispatch_of s.target) routers.start is.state s.steps.items work.moves _ work.steps in
    record { work = work; run = run.0; served = run.1; rows = is.rows; mark = is.mark }

pub consumption_of : (c : ConsumerPlan) (begun desk : AtDesk) (left : InboxEnd) → begun.noted ≡ nothing
    → begun.seat.principal ≡ c.principal → begun.seat.host ≡ c.host → IsInboxLeft c begun desk left
    → IsConsumption c desk.noted left
consumption_of c begun desk left none principal host is =
    let work = has_worked {does = IsConsumerStep c.subscription} begun desk none principal host is.leads in
    let run = consumer_run c.subscription consumers.start is.state c.steps.items work.moves _ work.steps in
    record { work = work; run = run.0; served = run.1; rows = is.rows }

-- what the steps of a service leave, from the start on
pub outbox_left : (s : Service) {new : routers.State} {before now : AtDesk} {left : OutboxEnd}
    → Leads (Steps (IsServiceStep (dispatch_of s.target))) (with_desk routers.start before) s.steps.items
    (with_desk new now)
    → map stored_row left.rows.items ≡ later_than 0 new.outbox.events → left.mark ≡ new.outbox.mark
    → IsOutboxLeft s before now left
outbox_left s {new = new} leads rows mark =
    let route = dispatch_of s.target in
    let run = service_run route routers.start new s.steps.items leads.moves leads.served leads.done in
    record {
      state = new;
      leads = leads;
      rows = rows ∙ all_later new.outbox.events (run_numbered route leads.moves routers.start new run.0 tt);
      mark = mark;
    }

-- ---- a tick over a line at a desk is a step of its worker

abbrev pub router_point : routers.State → List Call → ℕ → router_ticks.Point
router_point state calls unmade = record { state = state; calls = calls; unmade = unmade }

abbrev pub consumer_point : consumers.State → List Call → ℕ → consumer_ticks.Point
consumer_point state calls unmade = record { state = state; calls = calls; unmade = unmade }

-- the line is the worker's, whose loss was set
module _ {loss set then_loss : Loss} {fault : Option CallFault} {calls then_calls : List Call} {unmade then_unmade : ℕ}
    {before begun desk : AtDesk} (is_set : set ≡ loss) (same : begun ≡ before) (none : unmade ≡ 0)
    (still_none : then_unmade ≡ 0) (made : AreMade fault set then_loss calls then_calls begun desk) where
  -- the calls of the tick's moves are those that were noted
  ticked : {S T M : Type 0} {does : Doing S T M} {old new : S} {step : T} (moves : List M) (these : List Call)
      → then_calls ≡ calls ++ these
      → ((served : List Served) → AreServedByLoss loss these served → does old step moves served new)
      → Leads does (with_desk old before) step (with_desk new desk)
  ticked moves these is done =
      let at = calls_of_a_tick fault loss then_loss calls then_calls these before desk (rw (is_set, same) at made) is in
      record { moves = moves; served = at.served; done = done at.served at.by_loss; noted = at.noted }

  pub service_ticked : {route : Dispatching} {old new : routers.State} {tick : RouterAnswer} → ServiceGoesOn tick
      → router_ticks.Ticks router_ticks.IsOneTick route (router_point old calls unmade)
      (router_point new then_calls then_unmade) tick
      → Leads (IsServiceStep route) (with_desk old before) (service_steps.Tick loss) (with_desk new desk)
  service_ticked {tick = tick} goes_on ticks =
      ticked ticks.moves (routers.calls_of ticks.moves) ticks.calls (λ served by. record {
        run = ticks.run;
        own = record {
          own = ticks.own;
          few = ticks.few;
          tick = tick;
          goes_on = goes_on;
          answer = rw (none, still_none) at ticks.answer;
          lost = by;
        };
      })

  pub consumer_ticked : {t : Subscription} {old new : consumers.State} {tick : ConsumerAnswer} → ConsumerGoesOn tick
      → consumer_ticks.Ticks t (consumer_point old calls unmade) (consumer_point new then_calls then_unmade) tick
      → Leads (IsConsumerStep t) (with_desk old before) (consumer_steps.Tick loss) (with_desk new desk)
  consumer_ticked {tick = tick} goes_on ticks =
      ticked ticks.moves (consumers.calls_of ticks.moves) ticks.calls (λ served by. record {
        run = ticks.run;
        own = record {
          tick = tick;
          goes_on = goes_on;
          answer = ticks.answer;
          made = rw (none, still_none) at (sym ticks.counted);
          lost = by;
        };
      })

-- what two facts of a result give together
pub if_ok_two : {V E : Type 0} (P Q S : V → Type 0) (r : Result V E) → ((v : V) → P v → Q v → S v) → IfOk r P
    → IfOk r Q → IfOk r S
if_ok_two P Q S (Ok v) all p q = all v p q
if_ok_two P Q S (Err e) all p q = tt
