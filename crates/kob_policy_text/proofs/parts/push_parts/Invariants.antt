use Rattle.std.proofs.Common.{flat_map, take, ◌++◌, ◌≡◌}
use Rattle.kob_policy_text.specs.Parts.{part_text}
use Rattle.kob_policy_text.proofs.parts.push_parts.Given as goal

abbrev pub invariant-loop-part : goal.invariant-loop-part
invariant-loop-part l =
    l.out.items ≡ l.initial.out.items ++ flat_map part_text (take l.part-index l.parts)
