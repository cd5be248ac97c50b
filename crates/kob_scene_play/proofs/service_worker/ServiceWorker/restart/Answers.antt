use Rattle.kob_scene_play.proofs.Words.{Does, Service, map, refl, subst}
use Rattle.kob_router.specs.Run.Move.{Restarted}
use Rattle.kob_scene_play.proofs.service_worker.ServiceWorker.restart.Goals as goal

pub returns : goal.returns
returns c =
    let was = c.self.inside in
    let new : Service =
    record {
      worker = was.worker;
      principal = was.principal;
      host = was.host;
      sending = was.sending;
      sender = c.restart.new.self.router;
      outbox = c.restart.new.self.outbox;
      recorded = map (λ event. event.now) was.recorded.items;
      unwritten = map (λ event. event.now) was.unwritten.items;
      hidden = was.hidden.items;
    } in
    let made = c.restart.ensures in
    subst (λ (old : Service). Does Restarted old new) c.self.view_is (record {
      same = record {
        worker = refl;
        principal = refl;
        host = refl;
        sending = refl;
        target = made.target;
        unwritten = refl;
        hidden = refl;
      };
      recorded = refl;
      may = tt;
      done = made.done;
    })
