use Rattle.kob_endpoints.proofs.Words.{Contents, Relayed, Sender, Target, ap, ◌++◌, ◌∙◌}
use Rattle.kob_endpoints.proofs.Runs.{fresh, no_call, service_begins}
use Rattle.kob_endpoints.proofs.running_service.RunningService.new.Goals as goal

abbrev relayed : Contents → Sender → Relayed
relayed outbox router = record { outbox = outbox; router = router }

pub invariant_of-result : goal.invariant_of-result
invariant_of-result g c =
    let target : Target = record { route = c.args.route; partitions = c.args.partitions } in
    let made = g.L.Line.calls c.args.line in
    service_begins c.new.result target (c.none-past.result.calls ++ made)
    (c.new.ensures ∙ ap (λ (o : Contents). relayed o c.new-router.result) c.requires.empty
    ∙ ap (λ (r : Sender). relayed (fresh target).outbox r) (c.new-router.ensures))
    (no_call c.none-past.result.calls made c.none-past.ensures c.requires.unused)
