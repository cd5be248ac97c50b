use Rattle.kob_scene_play.proofs.Played.{check_played, consumer_played, expect_played, law_played, service_played}
use Rattle.kob_scene_play.proofs.playing.play_step.Goals as goal

pub returns-in-Service-clause-done : goal.returns-in-Service-clause-done
returns-in-Service-clause-done c =
    rw c.in-Service.is (service_played c.play_service_at.result c.args.line _ _ c.args.stage.now c.play_service_at.new.stage _ _ _ _
    c.play_service_at.ensures.consumers c.play_service_at.ensures.unmet c.play_service_at.ensures.others c.play_service_at.ensures.done)

pub returns-in-Consumer-clause-done : goal.returns-in-Consumer-clause-done
returns-in-Consumer-clause-done c =
    rw c.in-Consumer.is (consumer_played c.play_consumer_at.result c.args.line _ _ c.args.stage.now c.play_consumer_at.new.stage _ _ _ _
    c.play_consumer_at.ensures.services c.play_consumer_at.ensures.unmet c.play_consumer_at.ensures.others c.play_consumer_at.ensures.done)

pub returns-in-Law-clause-done : goal.returns-in-Law-clause-done
returns-in-Law-clause-done c =
    rw c.in-Law.is (law_played c.show_law.result c.args.line _ _ c.args.stage.now c.show_law.new.stage _ _ _ _
    c.show_law.ensures.recorded c.show_law.ensures.services c.show_law.ensures.consumers c.show_law.ensures.unmet c.show_law.ensures.told
    c.show_law.ensures.done)

pub returns-in-Check-clause-done : goal.returns-in-Check-clause-done
returns-in-Check-clause-done c =
    rw c.in-Check.is (check_played c.show_check.result c.args.line _ _ c.args.stage.now c.show_check.new.stage _ _ _ _
    c.show_check.ensures.recorded c.show_check.ensures.services c.show_check.ensures.consumers c.show_check.ensures.unmet c.show_check.ensures.told
    c.show_check.ensures.done)

pub returns-in-Expect-clause-done : goal.returns-in-Expect-clause-done
returns-in-Expect-clause-done c =
    rw c.in-Expect.is (expect_played c.show_expected.result c.args.line _ _ _ c.args.stage.now c.show_expected.new.stage _ _ _ _
    c.show_expected.ensures.recorded c.show_expected.ensures.services c.show_expected.ensures.consumers
    c.show_expected.ensures.told c.show_expected.ensures.done)

pub returns-in-Request-clause-stopped : goal.returns-in-Request-clause-stopped
returns-in-Request-clause-stopped c = rw c.in-Request.is c.play_request.ensures.stopped

pub returns-in-Service-clause-stopped : goal.returns-in-Service-clause-stopped
returns-in-Service-clause-stopped c = rw c.in-Service.is c.play_service_at.ensures.stopped

pub returns-in-Consumer-clause-stopped : goal.returns-in-Consumer-clause-stopped
returns-in-Consumer-clause-stopped c = rw c.in-Consumer.is c.play_consumer_at.ensures.stopped

pub returns-in-Journal-clause-stopped : goal.returns-in-Journal-clause-stopped
returns-in-Journal-clause-stopped c = rw c.in-Journal.is c.show_journal.ensures.stopped

pub returns-in-Law-clause-stopped : goal.returns-in-Law-clause-stopped
returns-in-Law-clause-stopped c = rw c.in-Law.is c.show_law.ensures.stopped

pub returns-in-Check-clause-stopped : goal.returns-in-Check-clause-stopped
returns-in-Check-clause-stopped c = rw c.in-Check.is c.show_check.ensures.stopped

pub returns-in-Expect-clause-stopped : goal.returns-in-Expect-clause-stopped
returns-in-Expect-clause-stopped c = rw c.in-Expect.is c.show_expected.ensures.stopped
