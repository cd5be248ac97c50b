use Rattle.kob_ordered.proofs.Words.{arith, common_steps}
use Rattle.kob_ordered.proofs.Places.{pushed}
use Rattle.kob_ordered.proofs.Sound.{sound_pushed}
use Rattle.kob_ordered.proofs.ordered_map.OrderedMap.insert.Goals as goal

pub invariant_of-self : goal.invariant_of-self
invariant_of-self g c = grind (arith, common_steps, sound_pushed)

pub returns-clause-entries : goal.returns-clause-entries
returns-clause-entries g c =
    let more = pushed c.self.inside.slots.items c.args.name c.args.value in grind (arith, common_steps)
