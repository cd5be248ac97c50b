use Rattle.kob_prefix_tree.proofs.Words.{arith, common_steps, contents, with_serial}
use Rattle.kob_prefix_tree.proofs.branch.Branch.add_far.Goals as goal

pub returns : goal.returns
returns c =
    let way = c.descend-above.ensures.way in let now = contents c.add_here-added.new.self in
    let put = way.changed (with_serial c.args.kind c.args.serial) now in let kept = way.changed (λ held. held) now in
    record { put = grind (arith, common_steps); refused = grind (arith, common_steps, way.neat) }
