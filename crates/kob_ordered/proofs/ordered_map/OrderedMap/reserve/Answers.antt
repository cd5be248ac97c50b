use Rattle.kob_ordered.proofs.Words.{common_steps, arith}
use Rattle.kob_ordered.proofs.Sound.{no_more_entries}
use Rattle.kob_ordered.proofs.ordered_map.OrderedMap.reserve.Goals as goal

pub overflow_sub-len : goal.overflow_sub-len
overflow_sub-len g c = grind (arith, common_steps, no_more_entries)
