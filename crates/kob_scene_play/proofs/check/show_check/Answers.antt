use Rattle.kob_scene_play.proofs.Words.{refl, rules, slice_get_read}
use Rattle.kob_scene_play.proofs.Checked.{checked}
use Rattle.kob_scene_play.proofs.check.show_check.Goals as goal

pub returns-clause-done : goal.returns-clause-done
returns-clause-done c =
    checked c.args.service c.args.consumer c.args.stage.now c.in-Some.sender.now c.in-Some-get_mut.taker.now
    c.in_ok-found.found c.args.out.now.told c.args.out.now.text.items c.print.new.out.text.items
    c.journal-journal.result.now c.found_at.new.sender c.found_at.new.taker _
    (slice_get_read c.args.stage.now.services.items _ c.args.service c.in-Some.sender.now refl (search rules) (search rules))
    (slice_get_read c.args.stage.now.consumers.items _ c.args.consumer c.in-Some-get_mut.taker.now refl (search rules)
    (search rules)) c.journal-journal.ensures.value c.found_at.ensures.sender c.found_at.ensures.taker
    c.in_ok-found.ensures.found (search rules) c.in_ok-print.ensures.printed
