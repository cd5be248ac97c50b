use Rattle.kob_delivery.proofs.Laws.{holds_a_prefix_among}
use Rattle.kob_delivery.proofs.several_laws.an_inbox_among_services_holds_a_prefix.Goals as goal

pub returns : goal.returns
returns c = holds_a_prefix_among
