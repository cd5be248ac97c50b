use Rattle.std.proofs.Common.{length, ◌≡◌}
use Rattle.kob_endpoints.proofs.Runs.{some_service}
use Rattle.kob_outbox.specs.Contents.{up_to}
use Rattle.kob_endpoints.proofs.shared_service.SharedService.sweep.Goals as goal

pub returns : goal.returns
returns g c =
    some_service (λ count r. count ≡ length (up_to r.outbox.mark r.outbox.events)) _ _ c.sweep.result c.sweep.ensures.ran
    c.sweep.ensures.value
