use Rattle.kob_policy_text.proofs.Words.{held_name, map, take, ◌≡◌}
use Rattle.kob_policy_text.proofs.options.held_names.Given as goal

abbrev pub invariant-loop-name : goal.invariant-loop-name
invariant-loop-name l = l.held.items ≡ map held_name (take l.name-index l.names)
