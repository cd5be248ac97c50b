use Rattle.std.proofs.Common.{flat_map, take, ◌++◌, ◌≡◌}
use Rattle.kob_policy_text.specs.Parties.{super_grant}
use Rattle.kob_policy_text.proofs.who.push_supers.Given as goal

abbrev pub invariant-loop-user : goal.invariant-loop-user
invariant-loop-user l = l.out.items ≡ l.initial.out.items ++ flat_map super_grant (take l.user-index l.supers)
