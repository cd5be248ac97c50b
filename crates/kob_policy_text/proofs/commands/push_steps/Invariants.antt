use Rattle.std.proofs.Common.{flat_map, take, ◌++◌, ◌≡◌}
use Rattle.kob_policy_text.specs.Steps.{step_on}
use Rattle.kob_policy_text.proofs.commands.push_steps.Given as goal

abbrev pub invariant-loop-entry : goal.invariant-loop-entry
invariant-loop-entry l =
    l.found.items ≡ l.initial.found.items
    ++ flat_map (step_on l.adds l.permission l.others.contents.entries) (take l.entry-index l.entries)
