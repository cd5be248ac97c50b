use Rattle.kob_scene_play.proofs.Running.{HasServed}
use Rattle.kob_scene_play.proofs.service_steps.run.Given as goal

abbrev pub invariant-loop : goal.invariant-loop
invariant-loop l =
    HasServed l.initial.service l.service l.initial.recorded l.recorded l.initial.out.told l.out.told
    l.initial.out.text.items l.out.text.items l.counter
