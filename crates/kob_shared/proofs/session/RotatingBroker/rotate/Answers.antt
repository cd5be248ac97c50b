use Rattle.kob_shared.proofs.Words.{IfErr-weaker}
use Rattle.kob_shared.proofs.session.RotatingBroker.rotate.Goals as goal

pub returns-clause-refused : goal.returns-clause-refused
returns-clause-refused g c =
    let told = c.rotate_from.ensures in
    IfErr-weaker c.rotate_from.result _ _ (λ fault is. (_, told.continued, is)) told.refused
