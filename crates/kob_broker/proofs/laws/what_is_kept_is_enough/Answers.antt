use Rattle.kob_broker.proofs.Lifting.{runs_alike}
use Rattle.kob_broker.proofs.laws.what_is_kept_is_enough.Goals as goal

pub returns-clause-runs : goal.returns-clause-runs
returns-clause-runs c = runs_alike
