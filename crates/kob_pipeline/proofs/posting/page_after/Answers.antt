use Rattle.kob_pipeline.proofs.Words.{ap, first_after, length, rules, ◌∙◌, ◌≡◌}
use Rattle.std.proofs.Common.{option_map, slice_get, unwrap_or, ◌-◌}
use Rattle.kob_pipeline.proofs.PlanRows.{page_read}
use Rattle.kob_pipeline.proofs.posting.page_after.Goals as goal

pub returns : goal.returns
returns c =
    let last : c.unwrap_or-last.result ≡ unwrap_or (option_map (λ row. row.seq) (slice_get c.args.rows.now (length c.args.rows.now - 1))) 0 =
    search rules in
    let (next, over) =
    page_read c.args.outbox.now.events c.args.rows.now c.in_ok-after.field-0.items c.in_ok-after.ensures.rising
    c.requires
    (c.in_ok-after.ensures.rows ∙ ap (λ n. first_after n 1000 c.args.outbox.now.events) last) in
    record { next = next; over = over; same = search rules }
