use Rattle.kob_scene_play.proofs.Words.{Consumer, IfOk, ap, refl, subst, sym, ◌∙◌, ◌≡◌}
use Rattle.kob_connections.specs.Received.{Received}
use Rattle.kob_scene_play.proofs.Ticking.{handled_ahead, taken_ahead}
use Rattle.kob_scene_play.specs.Steps.{IsAheadTick}
use Rattle.kob_scene_play.specs.Takings.{asked_event, inbox_by}
use Rattle.kob_scene_play.specs.declared.holding.Holding.{Holding}
use Rattle.kob_scene_play.proofs.consumer_worker.ConsumerWorker.go_ahead.Goals as goal

pub returns-in_default : goal.returns-in_default
returns-in_default c =
    let was = c.self.inside in
    let with : Received → Holding → Consumer =
    λ receiver holding. record {
      worker = was.worker;
      principal = was.principal;
      host = was.host;
      start = was.start;
      taking = was.taking;
      fetcher = receiver.fetcher;
      own = receiver.inbox;
      holding = holding;
      inbox = inbox_by was.taking receiver.inbox was.every;
    } in
    let old = with was.receiver was.holding in
    let made = c.take_held in
    let new = with made.new.receiver made.new.holding in
    let is = c.self.view_is in
    let early = ap (λ (w : Consumer). w.taking) is ∙ c.requires in
    let found = subst (λ (w : Consumer). c.in_ok-event.field-0 ≡ asked_event w.principal w.host w.fetcher w.holding) (sym is)
    c.in_ok-event.ensures in
    subst (λ (from : Consumer). IfOk made.result (IsAheadTick c.args.loss from new c.args.recorded.now c.args.recorded.now)) is
    (taken_ahead made.result c.args.loss old new c.args.recorded.now c.args.recorded.now c.in_ok-event.field-0
    (record { worker = refl; principal = refl; host = refl; start = refl; taking = refl; subscription = made.ensures.same })
    (ap (λ taking. inbox_by taking made.new.receiver.inbox was.every) early) found c.in_default.is refl made.ensures.done)

pub returns-in-Ok : goal.returns-in-Ok
returns-in-Ok c =
    let was = c.self.inside in
    let with : Received → Holding → Consumer =
    λ receiver holding. record {
      worker = was.worker;
      principal = was.principal;
      host = was.host;
      start = was.start;
      taking = was.taking;
      fetcher = receiver.fetcher;
      own = receiver.inbox;
      holding = holding;
      inbox = inbox_by was.taking receiver.inbox was.every;
    } in
    let old = with was.receiver was.holding in
    let made = c.handle_reply in
    let new = with made.new.receiver made.new.holding in
    let is = c.self.view_is in
    let early = ap (λ (w : Consumer). w.taking) is ∙ c.requires in
    let found = subst (λ (w : Consumer). c.in_ok-event.field-0 ≡ asked_event w.principal w.host w.fetcher w.holding) (sym is)
    c.in_ok-event.ensures in
    subst (λ (from : Consumer). IfOk made.result (IsAheadTick c.args.loss from new c.args.recorded.now c.ask.new.recorded)) is
    (handled_ahead made.result c.args.loss old new c.args.recorded.now c.ask.new.recorded c.in_ok-event.field-0
    c.in-Some.event c.in-Ok.heard
    (record { worker = refl; principal = refl; host = refl; start = refl; taking = refl; subscription = made.ensures.same })
    (ap (λ taking. inbox_by taking made.new.receiver.inbox was.every) early) found c.in-Some.is c.in-Ok.ensures.asked made.ensures.done)
