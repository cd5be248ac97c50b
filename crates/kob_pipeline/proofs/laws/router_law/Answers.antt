use Rattle.kob_pipeline.proofs.PlanLaws.{its_partitions}
use Rattle.kob_pipeline.proofs.laws.router_law.Goals as goal

pub returns-clause-delivered : goal.returns-clause-delivered
returns-clause-delivered c = its_partitions c.args.plan.now c.args.end.now c.requires
