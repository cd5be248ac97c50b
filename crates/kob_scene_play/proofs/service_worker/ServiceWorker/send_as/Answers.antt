use Rattle.kob_scene_play.proofs.Words.{ap, IsRouterTick, Journals, LosesFirst, Record, Service, map, refl, rules, subst, sym, ◌∙◌, ◌≡◌}
use Rattle.kob_scene_play.proofs.Ticking.{journaled_below, service_ticked}
use Rattle.kob_scene_play.proofs.Services.{none_sent, passes_sent}
use Rattle.kob_scene_play.specs.Services.{sent_as}
use Rattle.kob_router.specs.declared.tick.Tick.{Tick as ServiceAnswer}
use Rattle.kob_scene_play.proofs.service_worker.ServiceWorker.send_as.Goals as goal

pub returns : goal.returns
returns c =
    let was = c.self.inside in
    let sent = sent_as c.args.is_bare in
    let ticked = c.send_over-tick in
    let opened = c.new-line.result.server.line in
    let begun = ap (λ s. s.line.server) c.new-line.ensures.server ∙ c.new-sent.ensures.server in
    let below = opened.server.below in
    let events = map (λ event. event.now) was.recorded.items in
    let old : Service =
    record {
      worker = was.worker;
      principal = was.principal;
      host = was.host;
      sending = was.sending;
      sender = was.relay.router;
      outbox = was.relay.outbox;
      recorded = events;
      unwritten = map (λ event. event.now) was.unwritten.items;
      hidden = was.hidden.items;
    } in
    let new : Service =
    record {
      worker = was.worker;
      principal = was.principal;
      host = was.host;
      sending = was.sending;
      sender = ticked.new.relay.router;
      outbox = ticked.new.relay.outbox;
      recorded = events;
      unwritten = map (λ event. event.now) was.unwritten.items;
      hidden = was.hidden.items;
    } in
    let calls = ticked.new.line.calls.made.items in
    let after = ticked.new.line.server.line.server.below.recorded.now in
    let lost = subst (λ all. LosesFirst c.args.loss all) c.deref.ensures.value (c.loses_first-is_lost.ensures c.in_ok-tick.ensures.lost) in
    let journaled =
    journaled_below was.worker below.worker was.principal below.principal was.host below.host
    (sent c.new-line.result.calls.made.items) (sent calls) (sent opened.calls.made.items)
    (sent ticked.new.line.server.line.calls.made.items)
    c.args.recorded.now below.recorded.now after (ap (λ s. s.below.worker) begun)
    (ap (λ s. s.below.principal) begun ∙ c.in_ok-principal.ensures)
    (ap (λ s. s.below.host) begun ∙ c.in_ok-host.ensures)
    (ap (λ s. s.below.recorded.now) begun) (ap sent c.new-line.ensures.made ∙ none_sent c.args.is_bare)
    (ap (λ s. sent s.line.calls.made.items) c.new-line.ensures.server ∙ ap sent c.new-sent.ensures.made
    ∙ none_sent c.args.is_bare)
    (passes_sent c.args.is_bare c.new-line.result.calls.made.items calls opened.calls.made.items
    ticked.new.line.server.line.calls.made.items ticked.ensures.passed)
    (subst (λ is. Journals below.worker below.principal below.host (sent_as is opened.calls.made.items)
    (sent_as is ticked.new.line.server.line.calls.made.items) below.recorded.now after)
    (ap (λ s. s.is_bare) begun) ticked.ensures.journaled) in
    let done =
    service_ticked sent c.args.loss old new ticked.result c.new-line.result.calls.made.items calls
    c.new-line.result.calls.unmade
    ticked.new.line.calls.unmade c.args.recorded.now after lost
    (record {
      worker = refl;
      principal = refl;
      host = refl;
      sending = refl;
      target = ticked.ensures.done.0;
      unwritten = refl;
      hidden = refl;
    }) refl c.new-line.ensures.made
    c.new-line.ensures.unmade journaled ticked.ensures.done in
    let ends : after ≡ c.recorded-1.given.0 = search rules in
    subst (λ (r : Record). IsRouterTick sent c.args.loss c.args.self.now new c.args.recorded.now r c.in_ok-tick.tick) ends
    (subst (λ (from : Service). IsRouterTick sent c.args.loss from new c.args.recorded.now after c.in_ok-tick.tick) c.self.view_is
    (subst (λ (told : ServiceAnswer). IsRouterTick sent c.args.loss old new c.args.recorded.now after told)
    (sym c.in_ok-tick.ensures.same) done))
