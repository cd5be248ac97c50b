use Rattle.kob_prefix_tree.proofs.Words.{arith, common_steps, contents}
use Rattle.kob_prefix_tree.proofs.PartsLemmas.{ends}
use Rattle.kob_prefix_tree.proofs.branch.Branch.descend.Goals as goal

pub returns-then-not-enter-clause-end : goal.returns-then-not-enter-clause-end
returns-then-not-enter-clause-end c =
    let end = ends c.loop-byte.self c.enter.new.self c.loop-byte.rest.now c.parted-count.result.1.now
    c.parted-count.result.0 in
    grind (arith, common_steps, c.enter.ensures.stays, c.enter.ensures.nowhere)

pub loop-byte-preserved : goal.loop-byte-preserved
loop-byte-preserved c =
    let key_is = c.parted-count.ensures.key_is in
    let way = c.enter.ensures.way c.in-Some.others.now c.args.key.now (contents c.args.self.now) c.if-not-enter.false
    in
    grind (arith, common_steps)
