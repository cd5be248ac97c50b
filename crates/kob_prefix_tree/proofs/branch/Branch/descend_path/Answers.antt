use Rattle.kob_prefix_tree.proofs.Words.{arith, common_steps, contents, key_of}
use Rattle.kob_prefix_tree.proofs.PartsLemmas.{ends}
use Rattle.kob_prefix_tree.proofs.branch.Branch.descend_path.Goals as goal

pub returns-then-not-enter-clause-end : goal.returns-then-not-enter-clause-end
returns-then-not-enter-clause-end c =
    let end = ends c.loop-byte.self c.enter.new.self (key_of c.loop-byte.path.nodes)
    (key_of c.drop_common-count.new.self.nodes) c.drop_common-count.result in
    grind (arith, common_steps, c.enter.ensures.stays, c.enter.ensures.nowhere)

pub loop-byte-preserved : goal.loop-byte-preserved
loop-byte-preserved c =
    let key_is = c.drop_common-count.ensures.key_is in
    let way = c.enter.ensures.way (key_of c.drop_byte.new.self.nodes) (key_of c.args.path.now.nodes) (contents
    c.args.self.now)
    c.if-not-enter.false in grind (arith, common_steps)
