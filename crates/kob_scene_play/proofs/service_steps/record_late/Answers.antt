use Rattle.kob_scene_play.proofs.Kept.{recorded_late, records}
use Rattle.kob_scene_play.proofs.service_steps.record_late.Goals as goal

pub returns-clause-done : goal.returns-clause-done
returns-clause-done c =
    let made = c.record-recorded in
    recorded_late c.print_record.result c.args.change.now c.args.event.now c.args.service.now made.new.self
    c.hide.new.self made.result c.args.out.now.told c.print_record.new.out.told c.args.out.now.text.items
    c.print_record.new.out.text.items
    (records c.args.change.now c.args.event.now c.args.service.now made.new.self made.result made.ensures.value
    made.ensures.ok made.ensures.err made.ensures.bad made.ensures.duplicate)
    c.in_ok-hide.ensures c.print_record.ensures.done
