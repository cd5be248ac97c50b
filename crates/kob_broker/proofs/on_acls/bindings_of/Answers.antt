use Rattle.std.proofs.lemmas.Grind.{common_steps}
use Rattle.kob_broker.proofs.Words.{arith, drop_more, flat_map, take_more}
use Rattle.kob_broker.proofs.Decisions.{none_after, none_before}
use Rattle.kob_broker.proofs.on_acls.bindings_of.Goals as goal

pub loop-draft-preserved : goal.loop-draft-preserved
loop-draft-preserved c = grind (arith, common_steps, take_more, drop_more, none_after, flat_map)

pub put_binding-requires : goal.put_binding-requires
put_binding-requires c = grind (arith, common_steps, drop_more, none_before, flat_map)
