use Rattle.kob_authorizer.proofs.Words.{arith}
use Rattle.kob_authorizer.proofs.IndexSteps.{indexes_empty}
use Rattle.kob_authorizer.proofs.authorizer.Authorizer.open.Goals as goal

pub invariant_of-result : goal.invariant_of-result
invariant_of-result c = rw (c.new.ensures, c.new-2.ensures) (omega arith, omega arith, indexes_empty)
