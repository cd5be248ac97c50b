use Rattle.kob_policy_text.proofs.Words.{Bor, List, arith, each_ends, each_fails, each_fails_map, each_keeps, each_map, err_from_is_err_and, refl, super_item, trimmed, ℕ}
use Rattle.kob_policy_text.proofs.properties.super_items.Goals as goal

pub returns-in_err-item : goal.returns-in_err-item
returns-in_err-item c =
    let read = λ (part : Bor (List ℕ)). super_item (trimmed part.now) in
    let p = err_from_is_err_and c.from_residual-in_err-item.result c.from_residual-in_err-item.ensures.1 in
    rw (p.1, p.2) (each_fails_map (λ (part : List ℕ). super_item (trimmed part)) (λ (part : Bor (List ℕ)). part.now) _
    _
    (each_fails read _ c.loop-part.part-index _ _ _ _ c.loop-part.invariant
    (omega arith) refl (rw c.trimmed.ensures at c.in_err-item.ensures)))

pub loop-part-preserved : goal.loop-part-preserved
loop-part-preserved c =
    rw c.in_ok-push.ensures.items
    (each_keeps (λ (part : Bor (List ℕ)). super_item (trimmed part.now)) _ c.loop-part.part-index _ _ _ _
    c.loop-part.invariant (omega arith) refl (rw c.trimmed.ensures at c.in_ok-item.ensures))

pub returns : goal.returns
returns c =
    rw (each_map (λ (part : List ℕ). super_item (trimmed part)) (λ (part : Bor (List ℕ)). part.now) c.args.parts.now)
    (each_ends (λ (part : Bor (List ℕ)). super_item (trimmed part.now)) _ c.loop-part.part-index _
    c.loop-part.invariant (omega arith))
