use Rattle.kob_delivery.proofs.Laws.{partition_holds}
use Rattle.kob_delivery.proofs.delivery_laws.a_partition_holds_what_was_routed.Goals as goal

pub returns : goal.returns
returns c = partition_holds
