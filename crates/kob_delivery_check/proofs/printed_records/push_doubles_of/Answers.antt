use Rattle.std.proofs.Common.{rules}
use Rattle.kob_delivery_check.specs.PrintedRecords.{doubled_by}
use Rattle.kob_delivery_check.proofs.More.{parts_to}
use Rattle.kob_delivery_check.proofs.printed_records.push_doubles_of.Goals as goal

pub loop-at-preserved : goal.loop-at-preserved
loop-at-preserved c =
    parts_to (doubled_by c.args.journal.now c.args.assignment.now c.args.place c.args.event.now) c.args.repeats.now c.loop-at.at c.record_at-stored.result
    c.args.out.now.items c.loop-at.out.items c.push_doubled.new.out.items c.loop-at-test.true c.record_at-stored.ensures
    c.loop-at.invariant (search rules)
