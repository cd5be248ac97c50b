use Rattle.kob_ordered.proofs.Words.{Some, [], ap, arith, cond, length, length-append, rank, slice_get-get_or, slice_index_or, sym, ℕ, ◌+◌, ◌<◌, ◌∙◌, ◌∷◌}
use Rattle.kob_ordered.proofs.Sound.{rank_next, ranked_more}
use Rattle.kob_ordered.proofs.packing.ranks_of.Goals as goal
use Rattle.kob_ordered.proofs.packing.ranks_of.Goals.{then-is_entry, else-is_entry}

pub loop-slot-preserved : goal.loop-slot-preserved
loop-slot-preserved g c =
    let slots = c.args.slots.now in let i = c.loop-slot.slot-index in let held = c.loop-slot.invariant in
    let more = rank_next slots i c.slot-item.result
    (slice_get-get_or slots i c.slot-item.result c.loop-slot-test.true ∙ ap Some (sym c.slot-item.is)) in
    let items = c.in_ok-push.ensures.items in
    let size = ap length items ∙ length-append c.loop-slot.ranks.items (c.loop-slot.rank ∷ [])
    ∙ ap (λ n. n + 1) held.size in
    let before = λ (place : ℕ) (lt : place < i + 1). ap (λ xs. slice_index_or xs place 0) items
    ∙ ranked_more slots c.loop-slot.ranks.items i c.loop-slot.rank held.size held.here held.before place lt in
    elim c.if-is_entry.branch [
      | then-is_entry w ↦ record {
        here = w.rank-is ∙ ap (λ n. n + 1) held.here
            ∙ sym (more ∙ ap (λ b. cond b (rank slots i + 1) (rank slots i)) (sym c.is_entry.ensures ∙ w.if-is_entry.true));
        few = omega (arith, w.rank-is, held.few);
        size = size;
        before = before;
      }
      | else-is_entry w ↦ record {
        here = w.rank-is ∙ held.here
            ∙ sym (more ∙ ap (λ b. cond b (rank slots i + 1) (rank slots i)) (sym c.is_entry.ensures ∙ w.if-is_entry.false));
        few = omega (arith, w.rank-is, held.few);
        size = size;
        before = before;
      }
    ]
