use Rattle.kob_authorizer.proofs.Words.{common_steps, arith, binding_limit}
use Rattle.kob_authorizer.proofs.IndexSteps.{indexes_put_all}
use Rattle.kob_authorizer.proofs.Entries.{put_rises}
use Rattle.kob_authorizer.proofs.authorizer.Authorizer.commit_create.Goals as goal

pub invariant_of-self : goal.invariant_of-self
invariant_of-self c =
    let before = c.self.inside.entries.entries in let fresh = c.args.prepared.fresh in
    let rises = put_rises binding_limit c.self.inside.next c.len.result before fresh in
    let indexed = indexes_put_all fresh c.self.inside.index before c.self.invariant.2 in grind (arith, common_steps)
