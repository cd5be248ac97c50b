use Rattle.kob_delivery.proofs.Laws.{waits_or_sent}
use Rattle.kob_delivery.proofs.delivery_laws.a_row_waits_or_was_sent.Goals as goal

pub returns : goal.returns
returns c = waits_or_sent
