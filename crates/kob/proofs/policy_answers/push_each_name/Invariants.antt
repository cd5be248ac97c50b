-- The names that were passed are printed.
use Rattle.std.proofs.Common.{flat_map, take, ◌++◌, ◌≡◌}
use Rattle.kob.specs.Answers.{name_text}
use Rattle.kob.proofs.policy_answers.push_each_name.Given as goal

abbrev pub invariant-loop-name : goal.invariant-loop-name
invariant-loop-name l =
    l.out.items ≡ l.initial.out.items ++ flat_map name_text (take l.name-index l.names)
