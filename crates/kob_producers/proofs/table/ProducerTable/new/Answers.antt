use Rattle.kob_producers.proofs.Histories.{keeps_empty}
use Rattle.kob_producers.proofs.table.ProducerTable.new.Goals as goal

pub returns-clause-plain : goal.returns-clause-plain
returns-clause-plain c = keeps_empty
