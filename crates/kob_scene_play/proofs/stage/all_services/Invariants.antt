use Rattle.kob_scene_play.proofs.Words.{declared_service, into_iter_items, map, named_service, ◌++◌, ◌≡◌}
use Rattle.kob_scene_play.proofs.stage.all_services.Given as goal

abbrev pub invariant-loop-service : goal.invariant-loop-service
invariant-loop-service l =
    (l.yielded ++ into_iter_items l.service-iterator ≡ into_iter_items l.initial.service-iterator)
    × (map named_service l.all.items ≡ map declared_service l.yielded)
