use Rattle.kob_pipeline.proofs.Words.{ap, get_or, ◌-◌, ◌∙◌}
use Rattle.kob_pipeline.proofs.Worked.{heard_is_noted}
use Rattle.kob_pipeline.proofs.line.reply_at.Goals as goal

pub returns-clause-noted : goal.returns-clause-noted
returns-clause-noted g c =
    let last = c.index-receipts-len in
    heard_is_noted c.args.desk.now c.call.new.self c.args.request c.in_ok-copy.field-0 last.result c.len.result
    c.in_ok-call.ensures.ok c.len.ensures.events c.len.ensures.told
    (last.is ∙ ap (λ told. get_or told (c.len.result - 1) last.result) c.receipts.ensures)
    c.in_ok-copy.ensures
