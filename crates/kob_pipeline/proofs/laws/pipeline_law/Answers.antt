use Rattle.kob_pipeline.proofs.PlanLaws.{reaches_its_inbox}
use Rattle.kob_pipeline.proofs.laws.pipeline_law.Goals as goal

pub returns-clause-reached : goal.returns-clause-reached
returns-clause-reached c = reaches_its_inbox c.args.plan.now c.args.end.now c.requires
