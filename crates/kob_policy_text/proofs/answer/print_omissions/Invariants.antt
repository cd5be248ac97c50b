use Rattle.kob_policy_text.proofs.Words.{flat_map, omission_line, take, ◌++◌, ◌≡◌}
use Rattle.kob_policy_text.proofs.answer.print_omissions.Given as goal

abbrev pub invariant-loop-omission : goal.invariant-loop-omission
invariant-loop-omission l =
    l.out.items ≡ l.initial.out.items ++ flat_map omission_line (take l.omission-index l.policy.omissions)
