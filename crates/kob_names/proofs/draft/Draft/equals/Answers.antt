use Rattle.kob_names.proofs.SameBindings.{same_binding_tells}
use Rattle.kob_names.proofs.draft.Draft.equals.Goals as goal

pub returns-clause-equal : goal.returns-clause-equal
returns-clause-equal c = same_binding_tells c.args.self.now c.args.other.now c.eq.result c.eq.ensures
