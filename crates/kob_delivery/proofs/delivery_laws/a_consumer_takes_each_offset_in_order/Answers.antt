use Rattle.kob_delivery.proofs.Laws.{takes_in_order}
use Rattle.kob_delivery.proofs.delivery_laws.a_consumer_takes_each_offset_in_order.Goals as goal

pub returns : goal.returns
returns c = takes_in_order
