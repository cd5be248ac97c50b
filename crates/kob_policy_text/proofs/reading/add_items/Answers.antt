use Rattle.kob_policy_text.proofs.Words.{ap, arith, err_from_is_err_and, into_iter_items, length, nil_from_length, suc, ◌≡◌}
use Rattle.kob_policy_text.proofs.Making.{item_keeps, item_fails, items_end}
use Rattle.kob_policy_text.proofs.reading.add_items.Goals as goal

pub loop-item-preserved : goal.loop-item-preserved
loop-item-preserved c =
    let split = c.in-Some.ensures.steps.0 in
    let fewer : length (into_iter_items c.loop-item.item-iterator) ≡ suc (length (into_iter_items c.next.new.self)) =
    ap length split in (
      item_keeps _ _ _ _ _ _ _ c.loop-item.invariant.0 split c.in_ok-add_item.ensures,
      omega (arith, fewer, c.in-Some.ensures.steps.1, c.loop-item.invariant.1),
    )

pub returns-in_err-add_item : goal.returns-in_err-add_item
returns-in_err-add_item c =
    let p = err_from_is_err_and c.from_residual.result c.from_residual.ensures.1 in
    rw (p.1, p.2) (item_fails _ _ _ _ _ _ _ c.loop-item.invariant.0 c.in-Some.ensures.steps.0
    c.in_err-add_item.ensures)

pub returns : goal.returns
returns c =
    items_end _ _ _ _ c.loop-item.invariant.0
    (nil_from_length _ (omega (arith, c.loop-item.invariant.1, c.in-None.ensures.steps.0)))
