use Rattle.std.proofs.Common.{◌≡◌}
use Rattle.std.specs.Prelude.{option_map, string_bytes}
use Rattle.kob_endpoints.proofs.Runs.{some_service}
use Rattle.kob_outbox.specs.Contents.{state_at}
use Rattle.kob_endpoints.proofs.shared_service.SharedService.business.Goals as goal

pub returns-clause-value : goal.returns-clause-value
returns-clause-value g c =
    some_service
    (λ found r. option_map string_bytes found ≡ state_at c.args.kind.now c.args.id.now r.outbox.business) _ _
    c.business.result c.business.ensures.ran c.business.ensures.value
