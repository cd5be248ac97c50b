use Rattle.kob_policy_text.proofs.Words.{flat_map, take, ◌++◌, ◌≡◌}
use Rattle.kob_policy_text.specs.LogAnswers.{otherwise_text}
use Rattle.kob_policy_text.proofs.log_answer.push_otherwise.Given as goal

abbrev pub invariant-loop-entry : goal.invariant-loop-entry
invariant-loop-entry l =
    l.out.items ≡ l.initial.out.items ++ flat_map (otherwise_text l.judge) (take l.entry-index l.accesses)
