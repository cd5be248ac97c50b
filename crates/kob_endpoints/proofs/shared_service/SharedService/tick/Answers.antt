use Rattle.kob_endpoints.proofs.Runs.{some_tick}
use Rattle.kob_endpoints.proofs.shared_service.SharedService.tick.Goals as goal

pub returns : goal.returns
returns g c = some_tick _ _ _ _ _ _ _ c.tick.result c.tick.ensures.ran c.tick.ensures.done
