use Rattle.kob_delivery.proofs.Opening.{created_leaves}
use Rattle.kob_delivery.proofs.Words.{ap, ◌&&◌, ◌∙◌}
use Rattle.kob_delivery.specs.Reserved.{allows_others, is_on}
use Rattle.std.specs.List.{list_any}
use Rattle.kob_delivery.proofs.openers.LeavesReservedAsked.holds.Goals as goal

pub returns-in-CreateAcls-Done : goal.returns-in-CreateAcls-Done
returns-in-CreateAcls-Done c =
    let own = c.args.self.now in
    let case = c.in-CreateAcls-Done in
    created_leaves own.principal.now own.operation own.resource own.name.now own.everyone c.args.entry.now case.asked
    case.field-0-1 c.opens.result case.is-0 case.is-1
    (c.opens.ensures
    ∙ ap (list_any (λ draft. is_on own.resource own.name.now draft && allows_others own.principal.now own.operation draft))
    c.as_slice.ensures)
