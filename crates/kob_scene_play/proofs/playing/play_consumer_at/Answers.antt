use Rattle.kob_scene_play.proofs.Words.{refl, rules, slice_get_read}
use Rattle.kob_scene_play.proofs.Played.{read_at}
use Rattle.kob_scene_play.proofs.Stopping.{stops_consumer_at}
use Rattle.kob_scene_play.proofs.playing.play_consumer_at.Goals as goal

pub returns-in-Some-clause-done : goal.returns-in-Some-clause-done
returns-in-Some-clause-done c =
    read_at c.play_consumer.result c.args.which c.args.step.now c.args.stage.now.consumers.items c.in-Some.played.now
    (record { name = c.in-Some.played.now.name; consumer = c.play_consumer.new.consumer }) _ _ _ _ _ _
    (slice_get_read c.args.stage.now.consumers.items _ c.args.which c.in-Some.played.now refl (search rules) (search rules))
    refl c.play_consumer.ensures.done

pub returns-in-Some-clause-stopped : goal.returns-in-Some-clause-stopped
returns-in-Some-clause-stopped c =
    stops_consumer_at c.play_consumer.result c.args.which c.args.step.now c.args.stage.now c.play_consumer.ensures.stopped
