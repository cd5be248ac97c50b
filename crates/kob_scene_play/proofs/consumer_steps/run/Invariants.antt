use Rattle.kob_scene_play.proofs.ConsumerRunning.{HasTaken}
use Rattle.kob_scene_play.proofs.consumer_steps.run.Given as goal

abbrev pub invariant-loop : goal.invariant-loop
invariant-loop l =
    HasTaken l.partitions l.initial.consumer l.consumer l.initial.recorded l.recorded l.initial.out.told l.out.told
    l.initial.out.text.items l.out.text.items l.counter l.idle
