use Rattle.kob_pipeline.proofs.Words.{Err, Recorded, [], ap, inl, refl, ◌∷◌}
use Rattle.kob_connections.specs.Relayed.{relayed_state}
use Rattle.kob_outbox.specs.Contents.{first_bad}
use Rattle.kob_pipeline.proofs.PlanRows.{fits_unless}
use Rattle.kob_pipeline.proofs.Worked.{leads_still, not_recorded}
use Rattle.kob_pipeline.proofs.posting.Posting.note.Goals as goal

pub returns-in-Ok-clause-done : goal.returns-in-Ok-clause-done
returns-in-Ok-clause-done c = λ desk.
    let made = c.in-Ok.ensures in
    leads_still (Recorded c.args.change.now c.args.event.now ∷ [])
    (record {
      run = (
        record { fits = made.good; fresh = made.fresh; room = made.room },
        ap relayed_state made.ok,
      );
      own = (inl refl, refl);
    })

pub returns-in-Err-BadField-clause-done : goal.returns-in-Err-BadField-clause-done
returns-in-Err-BadField-clause-done c = λ desk.
    let was = c.in-Err-BadField.ensures in
    not_recorded desk (ap relayed_state was.err) (λ may.
    let bad = (was.bad c.in-Err-BadField.field-0-0).0 (ap Err c.in-Err-BadField.field-0-is) in
    let good = may.fits in absurd (cc))

pub returns-in-Err-Memory-clause-fits : goal.returns-in-Err-Memory-clause-fits
returns-in-Err-Memory-clause-fits c =
    fits_unless (first_bad c.args.change.now c.args.event.now) (λ column there.
    let bad = (c.in-Err-Memory.ensures.bad column).1 there in let memory = c.in-Err-Memory.field-0-is in cc)

pub returns-in-Err-Store-clause-fits : goal.returns-in-Err-Store-clause-fits
returns-in-Err-Store-clause-fits c = (c.in-Err-Store.ensures.store (ap Err c.in-Err-Store.field-0-is)).0

pub returns-in-Err-Store-clause-fresh : goal.returns-in-Err-Store-clause-fresh
returns-in-Err-Store-clause-fresh c = λ stored. (c.in-Err-Store.ensures.store (ap Err c.in-Err-Store.field-0-is)).1

pub returns-in-Err-DuplicateId-clause-done : goal.returns-in-Err-DuplicateId-clause-done
returns-in-Err-DuplicateId-clause-done c = λ desk.
    let was = c.in-Err-DuplicateId.ensures in
    not_recorded desk (ap relayed_state was.err) (λ may.
    let spent = (was.duplicate (ap Err c.in-Err-DuplicateId.field-0-is)).1 in let fresh = may.fresh in absurd (cc))
