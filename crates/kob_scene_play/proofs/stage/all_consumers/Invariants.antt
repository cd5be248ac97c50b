use Rattle.kob_scene_play.proofs.Words.{declared_consumer, into_iter_items, map, named_consumer, ◌++◌, ◌≡◌}
use Rattle.kob_scene_play.proofs.stage.all_consumers.Given as goal

abbrev pub invariant-loop-consumer : goal.invariant-loop-consumer
invariant-loop-consumer l =
    (l.yielded ++ into_iter_items l.consumer-iterator ≡ into_iter_items l.initial.consumer-iterator)
    × (map named_consumer l.all.items ≡ map declared_consumer l.yielded)
