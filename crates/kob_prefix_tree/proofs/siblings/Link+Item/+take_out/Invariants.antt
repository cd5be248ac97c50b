use Rattle.kob_prefix_tree.proofs.Words.{count}
use Rattle.kob_prefix_tree.proofs.siblings.Link+Item.+take_out.Given as goal

abbrev pub decreases-take_out : goal.decreases-take_out
decreases-take_out l = count l.self.now.nodes
