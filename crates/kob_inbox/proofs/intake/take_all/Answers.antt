use Rattle.kob_inbox.proofs.Words.{Contents, List, Record, [], ap, arith, arrivals, behind, event_id, length, subst, sym, take, take_more, taken_in, with_record, ℕ, ◌++◌, ◌+◌, ◌<◌, ◌∙◌, ◌∷◌, ◌≡◌}
use Rattle.kob_inbox.proofs.Ticking.{taken_last, behind_last}
use Rattle.kob_inbox.proofs.intake.take_all.Goals as goal

pub overflow_add-passed-in-loop-at : goal.overflow_add-passed-in-loop-at
overflow_add-passed-in-loop-at c =
    let x : ℕ × Record = c.loop-at-item.result in
    let lt : c.loop-at.at-index < length c.args.records.now = omega arith in
    let low : x.0 < 9223372036854775807 = subst (λ (y : ℕ × Record). y.0 < 9223372036854775807)
    (sym c.loop-at-item.is) (c.requires c.loop-at.at-index x lt) in
    omega (arith, low)

pub loop-at-preserved : goal.loop-at-preserved
loop-at-preserved c =
    let rs = c.args.records.now in let i = c.loop-at.at-index in let x : ℕ × Record = c.loop-at-item.result in
    let p = c.args.place.now in let lt : i < length rs = omega arith in
    let front : take (i + 1) rs ≡ take i rs ++ x ∷ [] =
    take_more rs i x lt ∙ ap (λ (y : ℕ × Record). take i rs ++ y ∷ []) (sym c.loop-at-item.is) in
    record {
      count = omega arith;
      fine = c.loop-at.invariant.fine;
      taken =
          c.in_default.ensures.ok
          ∙ ap (λ (topic : List ℕ). with_record c.loop-at.inbox (event_id x.1)
          (record { place = record { topic = topic; partition = p.partition }; offset = x.0; message = x.1 }))
          c.as_str.ensures
          ∙ ap (λ (events : Contents). with_record events (event_id x.1)
          (record { place = p; offset = x.0; message = x.1 })) c.loop-at.invariant.taken
          ∙ sym (taken_last c.args.inbox.now p (take i rs) x)
          ∙ ap (λ (xs : List (ℕ × Record)). taken_in c.args.inbox.now (arrivals p xs)) (sym front);
      behind =
          sym (behind_last c.args.position (take i rs) x)
          ∙ ap (λ (xs : List (ℕ × Record)). behind c.args.position xs) (sym front);
    }
