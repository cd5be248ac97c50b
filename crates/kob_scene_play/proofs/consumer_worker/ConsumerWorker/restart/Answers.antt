use Rattle.kob_scene_play.proofs.Words.{Consumer, ap, refl, subst}
use Rattle.kob_scene_play.specs.Steps.{Restarts}
use Rattle.kob_scene_play.specs.Takings.{inbox_by}
use Rattle.kob_scene_play.specs.declared.holding.Holding.TheVariants.{Nothing}
use Rattle.kob_scene_play.proofs.consumer_worker.ConsumerWorker.restart.Goals as goal

pub returns : goal.returns
returns c =
    let was = c.self.inside in
    let new : Consumer =
    record {
      worker = was.worker;
      principal = was.principal;
      host = was.host;
      start = was.start;
      taking = was.taking;
      fetcher = c.restart.new.self.fetcher;
      own = c.restart.new.self.inbox;
      holding = Nothing;
      inbox = inbox_by was.taking c.restart.new.self.inbox was.every;
    } in
    let made = c.restart.ensures in
    subst (λ (old : Consumer). Restarts old new) c.self.view_is (record {
      same = record {
        worker = refl;
        principal = refl;
        host = refl;
        start = refl;
        taking = refl;
        subscription = made.same;
      };
      forgets = made.done;
      holding = refl;
      inbox = ap (λ own. inbox_by was.taking own was.every) made.inbox;
    })
