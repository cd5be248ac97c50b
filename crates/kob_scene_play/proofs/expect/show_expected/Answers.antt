use Rattle.kob_scene_play.proofs.Words.{refl, rules, slice_get_read}
use Rattle.kob_scene_play.proofs.Expecting.{expected}
use Rattle.kob_scene_play.proofs.expect.show_expected.Goals as goal

pub returns-clause-done : goal.returns-clause-done
returns-clause-done c =
    expected c.args.service c.args.consumer c.args.what c.args.line c.args.stage.now _ c.in_ok-is_met.is_met
    c.in-Some.sender.now c.in-Some-get_mut.taker.now c.args.out.now.told c.args.out.now.text.items c.print.new.out.text.items
    c.journal-journal.result.now
    (slice_get_read c.args.stage.now.services.items _ c.args.service c.in-Some.sender.now refl (search rules) (search rules))
    (slice_get_read c.args.stage.now.consumers.items _ c.args.consumer c.in-Some-get_mut.taker.now refl (search rules)
    (search rules)) c.journal-journal.ensures.value c.in_ok-is_met.ensures.met (search rules) c.in_ok-print.ensures.printed
