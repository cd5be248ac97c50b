use Rattle.kob_delivery.proofs.Words.{Some, ap, arith, length, slice_get, slice_get-get_or, subst, sym, ◌+◌, ◌<◌, ◌∙◌, ◌≡◌}
use Rattle.kob_delivery.proofs.Following.{on_next, reserved_at, reserved_more, unreserved_at}
use Rattle.kob_delivery.proofs.InTurn.{entry_there, place_within}
use Rattle.kob_delivery.specs.InTurn.{entries_of}
use Rattle.kob_delivery.specs.Reserved.{IsFirstUnreserved, is_open_to_others}
use Rattle.kob_delivery.proofs.open_places.first_open.Goals as goal
use Rattle.kob_delivery.proofs.open_places.first_open.Goals.{else-branch, then-branch}

pub returns-then-others : goal.returns-then-others
returns-then-others c =
    let journals = c.args.journals.now in
    let at = c.loop-journal.journal-index in
    let journal = c.journal-item.result in
    let there : slice_get journals at ≡ Some journal =
    slice_get-get_or journals at journal c.loop-journal-test.true ∙ ap (λ j. Some j) (sym c.journal-item.is) in
    let place = c.loop-place.place in
    let inner : place < length journal.now =
    let test = c.loop-place-test.true in let end = c.len-place-end.ensures in omega arith in
    let so_far = c.loop-place.invariant in
    subst (IsFirstUnreserved c.args.opening.now (entries_of journals) c.args.principal.now c.args.operation
    c.args.resource c.args.name.now) (sym c.in_ok-sum.ensures)
    (record {
      within = place_within journals at journal c.loop-journal.before place there c.loop-journal.invariant.counted inner;
      breaks = unreserved_at c.args.opening.now c.args.principal.now c.args.operation c.args.resource c.args.name.now
          (entries_of journals) (c.loop-journal.before + place) c.loop-place.bindings.items c.loop-place.others so_far.on
          so_far.decide c.if-others.true;
      before = so_far.reserved;
    })

pub loop-place-preserved : goal.loop-place-preserved
loop-place-preserved c =
    let journals = c.args.journals.now in
    let at = c.loop-journal.journal-index in
    let journal = c.journal-item.result in
    let there : slice_get journals at ≡ Some journal =
    slice_get-get_or journals at journal c.loop-journal-test.true ∙ ap (λ j. Some j) (sym c.journal-item.is) in
    let place = c.loop-place.place in
    let before = c.loop-journal.before in
    let so_far = c.loop-place.invariant in
    let here = reserved_at c.args.opening.now c.args.principal.now c.args.operation c.args.resource c.args.name.now
    (entries_of journals) (before + place) c.loop-place.bindings.items c.loop-place.others so_far.on so_far.decide
    c.if-others.false in
    record {
      on = on_next c.args.opening.now c.args.resource c.args.name.now (entries_of journals) (before + place)
          (before + (place + 1)) c.entry_at-entry.result.now c.loop-place.bindings.items c.follow.new.bindings.items
          (omega arith)
          (entry_there journals at journal before place c.entry_at-entry.result.now there
          c.loop-journal.invariant.counted c.entry_at-entry.ensures)
          so_far.on c.in_ok-follow.ensures.after;
      decide = elim c.if-branch.branch [
        | then-branch w ↦
            w.others-is ∙ w.is_open_to_others-others-then-branch.ensures
            ∙ ap (is_open_to_others c.args.principal.now c.args.operation c.args.opening.now.everyone)
            w.as_slice-then-branch.ensures.value
        | else-branch w ↦
            w.others-is ∙ so_far.decide
            ∙ ap (is_open_to_others c.args.principal.now c.args.operation c.args.opening.now.everyone)
            (sym (c.in_ok-follow.ensures.same w.if-branch.false))
      ];
      reserved = reserved_more c.args.opening.now c.args.principal.now c.args.operation c.args.resource
          c.args.name.now (entries_of journals) (before + place) (before + (place + 1)) (omega arith) so_far.reserved here;
    }
