use Rattle.kob_endpoints.proofs.Words.{AreServed, refl, served_to, subst, ◌↔◌}
use Rattle.kob_endpoints.proofs.Entries.{one_journal}
use Rattle.std.specs.Prelude.{IfOk, IsTrue}
use Rattle.kob_endpoints.proofs.part.is_served.Goals as goal

pub returns : goal.returns
returns c =
    let part = c.args.part.now in
    subst (λ es. IfOk c.is_served_in_turn.result (λ is. IsTrue is ↔ AreServed part.calls.items (served_to part.worker es)))
    (one_journal c.args.journal c.args.journal.now refl)
    c.is_served_in_turn.ensures
