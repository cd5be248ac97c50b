use Rattle.kob_scene_play.proofs.service_worker.ServiceWorker.record.Goals as goal

pub returns-in-Err-record-clause-bad : goal.returns-in-Err-record-clause-bad
returns-in-Err-record-clause-bad c = λ column is. (c.in-Err-record.ensures.bad column).0 is
