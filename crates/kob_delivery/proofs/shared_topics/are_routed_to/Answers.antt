use Rattle.kob_delivery.proofs.Unsharing.{none_routed, one_routed}
use Rattle.kob_delivery.proofs.Words.{Some, ap, dispatch_of, false, list_any, map, refl, slice_get, slice_get-get_or, subst, sym, take_all, ◌∙◌, ◌≡◌}
use Rattle.kob_delivery.specs.Several.{goes_to_topic}
use Rattle.kob_outbox.specs.Contents.{stored_row}
use Rattle.kob_delivery.proofs.shared_topics.are_routed_to.Goals as goal

pub returns-then-branch : goal.returns-then-branch
returns-then-branch c =
    let rows = c.args.rows.now in
    let at = c.loop-row.row-index in
    let there : slice_get rows at ≡ Some c.row-item.result =
    slice_get-get_or rows at c.row-item.result c.loop-row-test.true ∙ ap (λ r. Some r) (sym c.row-item.is) in (
      λ yes. one_routed (dispatch_of c.args.target.now) c.args.topic.now rows at c.row-item.result there
          (sym c.in_ok-goes_to_topic.ensures ∙ c.if-branch.true),
      λ some. refl,
    )

pub returns : goal.returns
returns c = (
  λ no. absurd (cc),
  λ some. absurd (none_routed (dispatch_of c.args.target.now) c.args.topic.now (map stored_row c.args.rows.now)
      (subst (λ rs. list_any (goes_to_topic (dispatch_of c.args.target.now) c.args.topic.now) (map stored_row rs) ≡ false)
      (take_all c.loop-row.row-index c.args.rows.now c.loop-row-test.false) c.loop-row.invariant) some),
)
