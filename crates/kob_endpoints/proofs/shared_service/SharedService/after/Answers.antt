use Rattle.std.proofs.Common.{map, ◌≡◌}
use Rattle.kob_endpoints.proofs.Runs.{some_service}
use Rattle.kob_outbox.specs.Contents.{first_after, stored_row}
use Rattle.kob_endpoints.proofs.shared_service.SharedService.after.Goals as goal

pub returns-clause-rows : goal.returns-clause-rows
returns-clause-rows g c =
    some_service (λ rows r. map stored_row rows.items ≡ first_after c.args.seq c.args.limit r.outbox.events) _ _
    c.after.result c.after.ensures.ran c.after.ensures.rows
