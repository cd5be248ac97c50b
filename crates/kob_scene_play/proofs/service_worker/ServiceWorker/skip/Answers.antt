use Rattle.kob_scene_play.proofs.Words.{Service, ap, map, refl, subst, ◌∙◌}
use Rattle.kob_connections.specs.Relayed.{Relayed, relayed_state}
use Rattle.kob_router.specs.Run.{State}
use Rattle.kob_scene_play.specs.Services.{Skips, past_first}
use Rattle.kob_scene_play.proofs.service_worker.ServiceWorker.skip.Goals as goal

pub returns : goal.returns
returns c =
    let was = c.self.inside in
    let events = map (λ event. event.now) was.recorded.items in
    let new : Service =
    record {
      worker = was.worker;
      principal = was.principal;
      host = was.host;
      sending = was.sending;
      sender = c.skip_first.new.relay.router;
      outbox = c.skip_first.new.relay.outbox;
      recorded = events;
      unwritten = map (λ event. event.now) was.unwritten.items;
      hidden = was.hidden.items;
    } in
    let made = c.restart.ensures in
    let skipped = c.in_ok-skip_first.ensures in
    subst (λ (old : Service). Skips old new) c.self.view_is (record {
      same = record {
        worker = refl;
        principal = refl;
        host = refl;
        sending = refl;
        target = ap (λ (r : Relayed). r.router.target) skipped ∙ made.target;
        unwritten = refl;
        hidden = refl;
      };
      recorded = refl;
      done =
          ap relayed_state skipped ∙ ap (λ (s : State). record s { outbox = past_first s.outbox }) made.done;
    })
