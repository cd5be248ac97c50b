use Rattle.kob_policy_text.proofs.Words.{[], fold, take, ◌≡◌}
use Rattle.kob_policy_text.specs.AtHand.{with_host}
use Rattle.kob_policy_text.proofs.at_hand.hosts_named.Given as goal

abbrev pub invariant-loop-binding : goal.invariant-loop-binding
invariant-loop-binding l =
    l.made ≡ fold with_host [] (take l.binding-index l.bindings)
