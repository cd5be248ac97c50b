use Rattle.kob_policy_text.proofs.Words.{into_iter_items, map, ◌++◌, ◌≡◌}
use Rattle.kob_policy_text.specs.Options.{left_out_rule}
use Rattle.kob_policy_text.proofs.other_operations.left_out_rules.Given as goal

abbrev pub invariant-loop-draft : goal.invariant-loop-draft
invariant-loop-draft l =
    (l.yielded ++ into_iter_items l.draft-iterator ≡ into_iter_items l.initial.draft-iterator)
    × (l.items.items ≡ map (left_out_rule l.principal) l.yielded)
