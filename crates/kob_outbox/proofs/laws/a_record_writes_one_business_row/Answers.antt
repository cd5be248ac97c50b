use Rattle.kob_outbox.proofs.Lawful.{recorded_elsewhere, recorded_here}
use Rattle.kob_outbox.proofs.laws.a_record_writes_one_business_row.Goals as goal

pub returns-clause-here : goal.returns-clause-here
returns-clause-here c = recorded_here

pub returns-clause-elsewhere : goal.returns-clause-elsewhere
returns-clause-elsewhere c = recorded_elsewhere
