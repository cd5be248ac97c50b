use Rattle.std.proofs.Common.{flat_map, take, ◌++◌, ◌≡◌}
use Rattle.kob_policy_text.specs.Review.{grant_if_told}
use Rattle.kob_policy_text.proofs.who.push_grants.Given as goal

abbrev pub invariant-loop-answer : goal.invariant-loop-answer
invariant-loop-answer l =
    l.out.items ≡ l.initial.out.items ++ flat_map (grant_if_told l.judge l.answers) (take l.answer-index l.answers)
