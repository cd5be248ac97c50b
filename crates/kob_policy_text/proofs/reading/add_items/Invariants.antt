-- What the rest makes of the policy so far is what all make of it.
use Rattle.kob_policy_text.proofs.Words.{into_iter_items, into_iter_len, length, with_items, ◌≡◌}
use Rattle.kob_policy_text.proofs.reading.add_items.Given as goal

abbrev pub invariant-loop-item : goal.invariant-loop-item
invariant-loop-item l =
    (with_items l.policy l.origin (into_iter_items l.item-iterator)
    ≡ with_items l.fn.policy l.origin l.fn.items.items)
    × (length (into_iter_items l.item-iterator) ≡ into_iter_len l.item-iterator)
