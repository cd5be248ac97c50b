use Rattle.kob_authorizer.proofs.Words.{common_steps, Binding, List, arith, ℕ}
use Rattle.kob_authorizer.proofs.IndexSteps.{indexes_deleted}
use Rattle.kob_authorizer.proofs.Entries.{removed_rises}
use Rattle.kob_authorizer.proofs.authorizer.Authorizer.commit_delete.Goals as goal

pub invariant_of-self : goal.invariant_of-self
invariant_of-self c =
    let before : List (ℕ × Binding) = c.self.inside.entries.entries in let parts = c.into_parts-filter.ensures in
    let wanted = c.into_parts-filter.result.0 in
    let deleted = indexes_deleted wanted 1 c.self.inside.next before c.self.inside.index c.self.invariant.1
    c.self.invariant.2 in
    let rises = removed_rises before c.self.inside.next wanted c.self.invariant.1 in grind (arith, common_steps)
