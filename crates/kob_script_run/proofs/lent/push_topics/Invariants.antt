use Rattle.std.proofs.Common.{flat_map, ◌++◌, ◌≡◌}
use Rattle.kob_script.specs.Printed.{topic_item}
use Rattle.kob_script_run.proofs.lent.push_topics.Given as goal

abbrev pub invariant-loop-name : goal.invariant-loop-name
invariant-loop-name g l =
    l.out.items ++ flat_map topic_item l.name-iterator ≡ l.initial.out.items ++ flat_map topic_item l.initial.name-iterator
