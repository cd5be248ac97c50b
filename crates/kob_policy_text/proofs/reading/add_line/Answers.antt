use Rattle.kob_policy_text.proofs.Words.{err_from_is_err_and}
use Rattle.kob_policy_text.proofs.Making.{line_made, line_unread}
use Rattle.kob_policy_text.proofs.reading.add_line.Goals as goal

pub returns-in_err-items : goal.returns-in_err-items
returns-in_err-items c =
    let p = err_from_is_err_and c.from_residual.result c.from_residual.ensures.1 in
    rw (p.1, p.2) (line_unread c.args.file.now c.args.policy.now c.args.line c.args.text.now c.is_above.result
    c.has_list.result _ c.is_above.ensures
    c.has_list.ensures c.in_err-items.ensures)

pub returns : goal.returns
returns c =
    line_made c.args.file.now c.in_ok-file.file c.args.policy.now c.add_items.new.policy c.args.line c.args.text.now
    c.in_ok-items.items.items c.is_above.result c.has_list.result c.add_items.result c.in_ok-file.ensures
    c.is_above.ensures c.has_list.ensures c.in_ok-items.ensures c.add_items.ensures
