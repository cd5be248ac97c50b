use Rattle.std.proofs.Common.{flat_map, take, ◌++◌, ◌≡◌}
use Rattle.kob_policy_text.specs.Holdings.{holding_text}
use Rattle.kob_policy_text.proofs.holdings.push_each.Given as goal

abbrev pub invariant-loop-one : goal.invariant-loop-one
invariant-loop-one l = l.out.items ≡ l.initial.out.items ++ flat_map (holding_text l.host) (take l.one-index l.found)
