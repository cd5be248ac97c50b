use Rattle.std.proofs.Common.{sym}
use Rattle.std.proofs.lemmas.List.{length-map}
use Rattle.kob_delivery_check.proofs.come.count_of.Goals as goal

pub returns : goal.returns
returns c = sym (length-map c.args.events.now (λ event. event.now))
