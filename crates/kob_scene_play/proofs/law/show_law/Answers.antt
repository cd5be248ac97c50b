use Rattle.kob_scene_play.proofs.Words.{refl, rules, slice_get_read}
use Rattle.kob_scene_play.proofs.Answered.{asked}
use Rattle.kob_scene_play.proofs.Places.{same_put}
use Rattle.kob_scene_play.proofs.Stopping.{stops_question}
use Rattle.kob_scene_play.proofs.law.show_law.Goals as goal

pub returns-clause-done : goal.returns-clause-done
returns-clause-done c =
    asked c.answer.result c.args.service c.args.consumer c.args.stage.now c.in-Some.sender.now
    c.in-Some-get_mut.taker.now c.in_ok-coverage.coverage c.args.out.now.told _ _
    (slice_get_read c.args.stage.now.services.items _ c.args.service c.in-Some.sender.now refl (search rules) (search rules))
    (slice_get_read c.args.stage.now.consumers.items _ c.args.consumer c.in-Some-get_mut.taker.now refl (search rules)
    (search rules)) (rw c.journal-journal.ensures.value at c.in_ok-coverage.ensures.covered)
    (rw c.coverage_of.ensures.same at (rw c.number.ensures at (rw c.journal-journal.ensures.value at c.answer.ensures.done)))

pub returns-clause-consumers : goal.returns-clause-consumers
returns-clause-consumers c =
    rw c.coverage_of.ensures.same (same_put c.args.stage.now.consumers.items c.args.consumer c.in-Some-get_mut.taker.now
    (slice_get_read c.args.stage.now.consumers.items _ c.args.consumer c.in-Some-get_mut.taker.now refl (search rules)
    (search rules)))

pub returns-clause-stopped : goal.returns-clause-stopped
returns-clause-stopped c =
    stops_question c.answer.result c.args.service c.args.consumer c.args.stage.now c.answer.ensures.stopped
