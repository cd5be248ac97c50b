use Rattle.kob_endpoints.proofs.Words.{served_to}
use Rattle.kob_endpoints.proofs.Servings.{none_unserved}
use Rattle.kob_delivery.specs.InTurn.{entries_of}
use Rattle.kob_endpoints.proofs.part.is_served_in_turn.Goals as goal

pub returns : goal.returns
returns c =
    none_unserved c.args.part.now.calls.items (served_to c.args.part.now.worker (entries_of c.args.journals.now))
    c.in_ok-first_unserved.field-0 c.is_none.result c.is_none.ensures c.in_ok-first_unserved.ensures
