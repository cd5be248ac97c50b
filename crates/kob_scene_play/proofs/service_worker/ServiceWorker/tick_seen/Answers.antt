use Rattle.kob_scene_play.proofs.Services.{tick_done}
use Rattle.kob_scene_play.proofs.service_worker.ServiceWorker.tick_seen.Goals as goal

pub returns-in-Ok : goal.returns-in-Ok
returns-in-Ok c =
    tick_done c.args.loss c.sending-sending.result c.args.self.now c.send.new.self c.go_on.new.self
    c.args.recorded.now c.send.new.recorded c.in_ok-tick.tick c.sending-sending.ensures c.in_ok-tick.ensures
    c.in-Ok.ensures
