use Rattle.kob_policy_text.proofs.Words.{flat_map, take, who_line, ◌++◌, ◌≡◌}
use Rattle.kob_policy_text.proofs.who.push_who_lines.Given as goal

abbrev pub invariant-loop-principal : goal.invariant-loop-principal
invariant-loop-principal l = l.out.items
    ≡ l.initial.out.items ++ flat_map (who_line l.judge l.right l.host) (take l.principal-index l.principals)
