use Rattle.std.proofs.Common.{◌∙◌}
use Rattle.kob_policy_text.proofs.Placing.{first_more}
use Rattle.kob_policy_text.proofs.serials.places_in.Goals as goal

pub loop-place-preserved : goal.loop-place-preserved
loop-place-preserved c serial =
    c.in_ok-add_place.ensures serial
    ∙ first_more c.args.serials.now c.loop-place.place serial _ c.loop-place-test.true (c.loop-place.invariant serial)
