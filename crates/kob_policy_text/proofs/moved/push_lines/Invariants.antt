use Rattle.std.proofs.Common.{flat_map, take, ◌++◌, ◌≡◌}
use Rattle.kob_policy_text.specs.Moved.{moved_line}
use Rattle.kob_policy_text.proofs.moved.push_lines.Given as goal

abbrev pub invariant-loop-entry : goal.invariant-loop-entry
invariant-loop-entry l = l.out.items ≡ l.initial.out.items
    ++ flat_map (moved_line l.judge l.others.contents.entries) (take l.entry-index l.entries)
