use Rattle.kob_groups.proofs.Words.{arith, common_steps}
use Rattle.kob_groups.proofs.Maps.{filled_written}
use Rattle.kob_groups.proofs.lists.GroupsByTopic.reserve_name.Goals as goal

pub invariant_of-self : goal.invariant_of-self
invariant_of-self c = grind (arith, common_steps, filled_written)
