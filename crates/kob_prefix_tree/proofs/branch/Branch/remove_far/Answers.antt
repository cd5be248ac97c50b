use Rattle.kob_prefix_tree.proofs.Words.{arith, common_steps, contents, without_serials}
use Rattle.kob_prefix_tree.proofs.branch.Branch.remove_far.Goals as goal

pub returns : goal.returns
returns c =
    grind (
      arith,
      common_steps,
      c.descend-above.ensures.way.changed (without_serials c.args.kind c.args.serials.now) (contents c.remove_here-found.new.self),
      c.descend-above.ensures.way.held,
    )
