use Rattle.kob_prefix_tree.proofs.Words.{length}
use Rattle.kob_prefix_tree.proofs.path.Link+Item.+drop_common.Given as goal

abbrev pub decreases-drop_common : goal.decreases-drop_common
decreases-drop_common l = length l.tail.now
