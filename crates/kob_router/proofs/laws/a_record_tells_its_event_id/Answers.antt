use Rattle.kob_router.proofs.Lawful.{told_back}
use Rattle.kob_router.proofs.laws.a_record_tells_its_event_id.Goals as goal

pub returns-clause-id : goal.returns-clause-id
returns-clause-id c = told_back
