-- What was read, and then what the rest stands for, is what the parts stand for.
use Rattle.kob_policy_text.proofs.Words.{Bor, List, drop, each, super_item, trimmed, with_front, ℕ, ◌≡◌}
use Rattle.kob_policy_text.proofs.properties.super_items.Given as goal

abbrev pub invariant-loop-part : goal.invariant-loop-part
invariant-loop-part l =
    with_front l.items.items
    (each (λ (part : Bor (List ℕ)). super_item (trimmed part.now)) (drop l.part-index l.parts))
    ≡ each (λ (part : Bor (List ℕ)). super_item (trimmed part.now)) l.parts
