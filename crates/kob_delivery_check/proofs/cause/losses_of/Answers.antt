use Rattle.std.proofs.Common.{[], append-nil, arith, get_or, map, rules}
use Rattle.std.proofs.lemmas.Bool.Decides.{nat_tests}
use Rattle.kob_delivery_check.specs.Causes.{loss_at}
use Rattle.kob_delivery_check.specs.declared.fate.Fate.TheVariants.{Delivered}
use Rattle.kob_delivery_check.proofs.Listed.{item_more}
use Rattle.kob_delivery_check.proofs.cause.losses_of.Goals as goal

pub loop-place-preserved-then-not-is_lost : goal.loop-place-preserved-then-not-is_lost
loop-place-preserved-then-not-is_lost c =
    item_more (loss_at c.args.reader.now c.args.rows.now c.args.journal.now (map (λ event. event.now) c.args.events.now)) c.args.fates.now
    c.loop-place.place (get_or c.args.fates.now c.loop-place.place Delivered) [] c.loop-place.losses.items
    c.loop-place.losses.items c.loop-place-test.true (search rules) c.loop-place.invariant (grind (arith, nat_tests, append-nil))

pub loop-place-preserved-in_default : goal.loop-place-preserved-in_default
loop-place-preserved-in_default c =
    item_more (loss_at c.args.reader.now c.args.rows.now c.args.journal.now (map (λ event. event.now) c.args.events.now)) c.args.fates.now
    c.loop-place.place (get_or c.args.fates.now c.loop-place.place Delivered) [] c.loop-place.losses.items
    c.loop-place.losses.items c.loop-place-test.true (search rules) c.loop-place.invariant (grind (arith, nat_tests, append-nil))

pub loop-place-preserved : goal.loop-place-preserved
loop-place-preserved c =
    item_more (loss_at c.args.reader.now c.args.rows.now c.args.journal.now (map (λ event. event.now) c.args.events.now)) c.args.fates.now
    c.loop-place.place (get_or c.args.fates.now c.loop-place.place Delivered) [] c.loop-place.losses.items
    c.push.new.self.items c.loop-place-test.true (search rules) c.loop-place.invariant (grind (arith, nat_tests))
