use Rattle.std.proofs.Common.{◌≡◌, ◌++◌, flat_map, take}
use Rattle.kob.specs.Export.{service_text}
use Rattle.kob.proofs.export.push_services.Given as goal

abbrev pub invariant-loop-service : goal.invariant-loop-service
invariant-loop-service l =
    l.out.items ≡ l.initial.out.items ++ flat_map service_text (take l.service-index l.services)
