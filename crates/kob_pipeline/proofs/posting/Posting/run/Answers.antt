use Rattle.kob_pipeline.proofs.Words.{arith, length, refl, ◌<◌, ◌∙◌}
use Rattle.kob_pipeline.proofs.Worked.{leads_more, no_step}
use Rattle.kob_pipeline.proofs.posting.Posting.run.Goals as goal

pub loop-step-preserved : goal.loop-step-preserved
loop-step-preserved g c =
    let was = c.loop-step in
    let made = c.in_ok-step.ensures in
    let within : was.step-index < length c.args.steps.now = omega arith in (
      made.made,
      made.same ∙ was.invariant.1,
      leads_more c.args.steps.now was.step-index within c.step-item.is was.invariant.2
          (rw was.invariant.1 at made.done),
    )

pub loop-step-init : goal.loop-step-init
loop-step-init g c = (c.requires, refl, no_step c.args.line.now.desk)
