use Rattle.kob_prefix_tree.proofs.Words.{arith, common_steps, end_of}
use Rattle.kob_prefix_tree.proofs.PartsLemmas.{led_by_parts}
use Rattle.kob_prefix_tree.proofs.branch.Branch.graft.Goals as goal

pub link-requires-clause-neat : goal.link-requires-clause-neat
link-requires-clause-neat c = grind (arith, common_steps, led_by_parts)

pub returns : goal.returns
returns c = grind (arith, common_steps, led_by_parts c.args.count c.args.self.now.tail (end_of c.args.self.now))
