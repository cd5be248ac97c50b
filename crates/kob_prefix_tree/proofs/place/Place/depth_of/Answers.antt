use Rattle.kob_prefix_tree.proofs.Words.{arith, seen}
use Rattle.kob_prefix_tree.proofs.WalkLemmas.{deeper_at_end, deeper_without_child, deeper_with_child}
use Rattle.kob_prefix_tree.proofs.place.Place.depth_of.Goals as goal

pub loop-byte-preserved : goal.loop-byte-preserved
loop-byte-preserved c =
    let cases = c.in-Some.ensures.cases in let leads = c.in-Some-child.ensures.leads c.loop-byte.invariant.neat in
    record {
      neat = leads.1;
      passed = omega (arith, cases.1);
      deeper =
          deeper_with_child (seen c.args.self)
          (seen c.loop-byte.place) c.args.name.now c.loop-byte.rest.now c.loop-byte.depth c.loop-byte.invariant.deeper
          cases.0 c.in-Some-child.ensures.held leads;
    }

pub returns-in-None-clause-longest : goal.returns-in-None-clause-longest
returns-in-None-clause-longest c =
    deeper_without_child (seen c.args.self)
    (seen c.loop-byte.place) c.args.name.now c.loop-byte.rest.now c.loop-byte.depth c.loop-byte.invariant.deeper
    c.in-Some.ensures.cases.0 c.in-None.ensures.held

pub returns-in_default-clause-longest : goal.returns-in_default-clause-longest
returns-in_default-clause-longest c =
    deeper_at_end (seen c.args.self) (seen c.loop-byte.place) c.args.name.now c.loop-byte.rest.now c.loop-byte.depth
    c.loop-byte.invariant.deeper c.in_default.ensures.cases
