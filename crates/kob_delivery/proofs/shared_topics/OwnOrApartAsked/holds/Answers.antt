use Rattle.kob_delivery.proofs.Unsharing.{sent_none}
use Rattle.kob_delivery.proofs.Words.{ap, arith, carried_id, ids_of, inl, inr, list_any, map, refl, ◌∙◌}
use Rattle.kob_delivery.specs.Several.{is_one_of}
use Rattle.kob_outbox.specs.Contents.{stored_row}
use Rattle.kob_delivery.proofs.shared_topics.OwnOrApartAsked.holds.Goals as goal

pub returns-in-Produce : goal.returns-in-Produce
returns-in-Produce c =
    let ids = ids_of (map stored_row c.args.self.now.rows.now) in
    let sent = sent_none ids c.args.entry.now.event.request c.in-Produce.asked c.carry_one.result c.in-Produce.is
    (c.carry_one.ensures ∙ ap (list_any (λ message. is_one_of ids (carried_id message))) c.as_slice.ensures) in (
      λ apart done. inr (sent.0 apart),
      λ holds. elim (holds (c.if-not-produces.ensures.0 refl)) [
        | inl own ↦ (let same = own in absurd (omega arith))
        | inr none ↦ sent.1 none
      ],
    )
