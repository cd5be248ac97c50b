-- The options so far are those of the parts that were passed.
use Rattle.std.proofs.Common.{map, string_bytes, take, ◌≡◌}
use Rattle.kob.specs.CommandLine.{options_by}
use Rattle.kob.proofs.policy_options.parts_of.Given as goal

abbrev pub invariant-loop-part : goal.invariant-loop-part
invariant-loop-part l =
    l.parts.items ≡ map (λ part. options_by (map string_bytes part)) (map (λ part. part.now) (take l.part-index l.part-items))
