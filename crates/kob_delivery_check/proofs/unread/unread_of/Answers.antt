use Rattle.std.proofs.Common.{[], arith, rules}
use Rattle.kob_delivery_check.specs.Unread.{with_entry}
use Rattle.kob_delivery_check.proofs.More.{fold_to}
use Rattle.kob_delivery_check.proofs.unread.unread_of.Goals as goal

pub loop-at-preserved : goal.loop-at-preserved
loop-at-preserved c =
    fold_to (λ found entry. with_entry c.args.worker c.args.assignment.now found entry) [] c.args.journal.now c.loop-at.at
    c.entry_at.result.now c.loop-at.found.items c.note_entry.new.found.items (omega arith) c.entry_at.ensures
    c.loop-at.invariant (search rules)
