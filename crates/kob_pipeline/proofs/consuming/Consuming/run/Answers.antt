use Rattle.kob_pipeline.proofs.Words.{arith, get_or, get_or_from_slice_get, length, refl, slice_get-get_or, sym, ◌<◌, ◌∙◌}
use Rattle.kob_pipeline.specs.declared.plan.ConsumerStep.TheVariants.{Tick}
use Rattle.kob_router.specs.declared.line.Loss.TheVariants.{None}
use Rattle.kob_pipeline.proofs.Worked.{leads_more, no_step}
use Rattle.kob_pipeline.proofs.consuming.Consuming.run.Goals as goal

pub loop-step-preserved : goal.loop-step-preserved
loop-step-preserved g c =
    let was = c.loop-step in
    let made = c.in_ok-step.ensures in
    let steps = c.args.steps.now in
    let within : was.step-index < length steps = omega arith in
    let step = get_or steps was.step-index (Tick None) in
    let is =
    sym (get_or_from_slice_get steps was.step-index step step
    (slice_get-get_or steps was.step-index (Tick None) within)) in (
      made.made,
      made.same ∙ was.invariant.1,
      leads_more steps was.step-index within is was.invariant.2 (rw was.invariant.1 at made.done),
    )

pub loop-step-init : goal.loop-step-init
loop-step-init g c = (c.requires, refl, no_step c.args.line.now.desk)
