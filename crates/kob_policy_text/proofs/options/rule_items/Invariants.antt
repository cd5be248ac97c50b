use Rattle.kob_policy_text.proofs.Words.{into_iter_items, rule_items, ◌++◌, ◌≡◌}
use Rattle.kob_policy_text.proofs.options.rule_items.Given as goal

abbrev pub invariant-loop-draft : goal.invariant-loop-draft
invariant-loop-draft l =
    (l.yielded ++ into_iter_items l.draft-iterator ≡ into_iter_items l.initial.draft-iterator)
    × (l.items.items ≡ rule_items l.yielded)
