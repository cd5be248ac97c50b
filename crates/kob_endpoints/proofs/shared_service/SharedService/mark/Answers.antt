use Rattle.std.proofs.Common.{◌≡◌}
use Rattle.kob_endpoints.proofs.Runs.{some_service}
use Rattle.kob_endpoints.proofs.shared_service.SharedService.mark.Goals as goal

pub returns-clause-value : goal.returns-clause-value
returns-clause-value g c =
    some_service (λ mark r. mark ≡ r.outbox.mark) _ _ c.mark.result c.mark.ensures.ran c.mark.ensures.value
