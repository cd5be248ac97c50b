use Rattle.std.proofs.Common.{append_assoc, arith, get_or, map}
use Rattle.std.proofs.lemmas.Option.{slice_get-get_or}
use Rattle.kob_delivery_check.specs.PrintedOrder.{row_line}
use Rattle.kob_delivery_check.proofs.More.{parts_to}
use Rattle.kob_delivery_check.proofs.printed_order.push_rows.Goals as goal

pub loop-one-preserved : goal.loop-one-preserved
loop-one-preserved c =
    parts_to (row_line (map (λ event. event.now) c.args.events.now)) c.args.early.now c.loop-one.one-index
    (get_or c.args.early.now c.loop-one.one-index (record { at = 0; event = 0; before = 0 })) c.args.out.now.items
    c.loop-one.out.items c.push_before_named.new.out.items c.loop-one-test.true
    (slice_get-get_or c.args.early.now c.loop-one.one-index _ c.loop-one-test.true) c.loop-one.invariant
    (grind (arith, append_assoc))
