use Rattle.kob_scene_play.proofs.service_worker.ServiceWorker.crash.Goals as goal

pub returns-in-Err-set_business-clause-bad : goal.returns-in-Err-set_business-clause-bad
returns-in-Err-set_business-clause-bad c = λ column is. (c.in-Err-set_business.ensures.bad column).0 is
