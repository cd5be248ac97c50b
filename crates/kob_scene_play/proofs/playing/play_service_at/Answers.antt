use Rattle.kob_scene_play.proofs.Words.{refl, rules, slice_get_read}
use Rattle.kob_scene_play.proofs.Played.{served_at}
use Rattle.kob_scene_play.proofs.Stopping.{stops_service_at}
use Rattle.kob_scene_play.proofs.playing.play_service_at.Goals as goal

pub returns-in-Some-clause-done : goal.returns-in-Some-clause-done
returns-in-Some-clause-done c =
    served_at c.play_service.result c.args.which c.args.step.now c.args.stage.now.services.items c.in-Some.played.now
    (record { name = c.in-Some.played.now.name; service = c.play_service.new.service }) _ _ _ _ _ _
    (slice_get_read c.args.stage.now.services.items _ c.args.which c.in-Some.played.now refl (search rules) (search rules))
    refl c.play_service.ensures.done

pub returns-in-Some-clause-stopped : goal.returns-in-Some-clause-stopped
returns-in-Some-clause-stopped c =
    stops_service_at c.play_service.result c.args.which c.args.step.now c.args.stage.now c.play_service.ensures.stopped
