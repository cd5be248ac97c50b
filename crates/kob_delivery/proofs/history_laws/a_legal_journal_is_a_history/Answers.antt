use Rattle.kob_delivery.proofs.BrokerSteps.{legal_is_history}
use Rattle.kob_delivery.proofs.history_laws.a_legal_journal_is_a_history.Goals as goal

pub returns : goal.returns
returns c = legal_is_history
