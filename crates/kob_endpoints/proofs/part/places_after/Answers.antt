use Rattle.kob_endpoints.proofs.Words.{arith, length, sym, ◌<◌}
use Rattle.kob_endpoints.proofs.Servings.{further}
use Rattle.kob_endpoints.specs.Pairing.{left}
use Rattle.std.proofs.lemmas.List.{take_all}
use Rattle.kob_endpoints.proofs.part.places_after.Goals as goal

pub loop-from-preserved : goal.loop-from-preserved
loop-from-preserved c calls =
    let within : c.loop-from.from-index < length c.args.places.now = omega arith in
    further (left c.args.own.now) c.args.places.now c.loop-from.then.items c.add_after.new.then.items
    c.loop-from.from-index c.args.call.now calls within (c.loop-from.invariant calls) (c.in_ok-add_after.ensures calls)

pub returns : goal.returns
returns c calls = rw (sym (take_all c.loop-from.from-index c.args.places.now c.loop-from-test.false)) (c.loop-from.invariant calls)
