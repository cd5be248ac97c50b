use Rattle.kob_pipeline.proofs.Words.{Administering, Consuming, Serving, map, planned_as, take, ◌++◌, ◌≡◌}
use Rattle.kob_pipeline.proofs.workers.workers_of.Given as goal

abbrev pub invariant-loop-service : goal.invariant-loop-service
invariant-loop-service l = map planned_as l.workers.items ≡ map Serving (take l.service-index l.plan.services.items)

abbrev pub invariant-loop-consumer : goal.invariant-loop-consumer
invariant-loop-consumer l =
    map planned_as l.workers.items ≡ map Serving l.plan.services.items
    ++ map Consuming (take l.consumer-index l.plan.consumers.items)

abbrev pub invariant-loop-script : goal.invariant-loop-script
invariant-loop-script l =
    map planned_as l.workers.items
    ≡ map Serving l.plan.services.items
    ++ (map Consuming l.plan.consumers.items ++ map Administering (take l.script-index l.plan.administrators.items))
