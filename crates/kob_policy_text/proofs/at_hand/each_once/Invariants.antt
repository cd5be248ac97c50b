use Rattle.kob_policy_text.proofs.Words.{[], fold, take, with_text, ◌≡◌}
use Rattle.kob_policy_text.proofs.at_hand.each_once.Given as goal

abbrev pub invariant-loop-user : goal.invariant-loop-user
invariant-loop-user l = l.made ≡ fold with_text [] (take l.user-index l.users)
