use Rattle.kob.proofs.Sharing.{same_parts, shared_more}
use Rattle.kob.proofs.policy_options.share_form.Goals as goal

pub loop-place-preserved : goal.loop-place-preserved
loop-place-preserved c =
    shared_more c.in-Some.form c.args.parts.now c.loop-place.parts c.loop-place.place c.index-parts-place.result
    c.loop-place.invariant c.loop-place-test.true

pub returns-in_default : goal.returns-in_default
returns-in_default c = same_parts c.form_asked.result c.args.parts.now c.in_default.is c.form_asked.ensures
