use Rattle.kob_delivery.proofs.Laws.{holds_a_prefix}
use Rattle.kob_delivery.proofs.delivery_laws.an_inbox_holds_a_prefix_of_each_aggregate.Goals as goal

pub returns : goal.returns
returns c = holds_a_prefix
