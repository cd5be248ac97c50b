use Rattle.kob_prefix_tree.proofs.Words.{arith, common_steps, contents, with_serial}
use Rattle.kob_prefix_tree.proofs.branch.Branch.grow_far.Goals as goal

pub returns : goal.returns
returns c =
    grind (
      arith,
      common_steps,
      c.descend_path-above.ensures.way.changed (with_serial c.args.kind c.args.serial) (contents c.graft.new.self),
    )
