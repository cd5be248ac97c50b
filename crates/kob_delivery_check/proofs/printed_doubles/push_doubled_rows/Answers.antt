use Rattle.std.proofs.Common.{map}
use Rattle.std.proofs.lemmas.Option.{slice_get-get_or}
use Rattle.kob_delivery_check.specs.Doubles.{double_line}
use Rattle.kob_delivery_check.proofs.More.{parts_to}
use Rattle.kob_delivery_check.proofs.printed_doubles.push_doubled_rows.Goals as goal

pub loop-place-preserved : goal.loop-place-preserved
loop-place-preserved c =
    parts_to (double_line (map (λ event. event.now) c.args.events.now)) c.args.doubles.now c.loop-place.place _ c.args.out.now.items
    c.loop-place.out.items c.push_double.new.out.items c.loop-place-test.true
    (slice_get-get_or c.args.doubles.now c.loop-place.place _ c.loop-place-test.true) c.loop-place.invariant
    c.in_ok-push_double.ensures
