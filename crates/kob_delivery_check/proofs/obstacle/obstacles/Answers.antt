use Rattle.std.proofs.Common.{[], arith, rules, sym}
use Rattle.std.proofs.lemmas.Option.{get_or_from_slice_get}
use Rattle.kob_delivery_check.specs.Causes.{obstacle_at}
use Rattle.kob_delivery_check.specs.Logs.{after_reply, empty_log}
use Rattle.kob_delivery_check.proofs.Listed.{item_more}
use Rattle.kob_delivery_check.proofs.More.{fold_to}
use Rattle.kob_delivery_check.proofs.obstacle.obstacles.Goals as goal

pub loop-at-preserved : goal.loop-at-preserved
loop-at-preserved c =
    let noted = fold_to (λ log entry. after_reply c.args.group.now c.args.place.now entry.event.request entry.reply log) empty_log
    c.args.journal.now c.loop-at.at c.entry_at-entry.result.now c.loop-at.log c.note.new.self (omega arith)
    c.entry_at-entry.ensures c.loop-at.invariant.0 (search rules) in (
      noted,
      item_more (obstacle_at c.args.group.now c.args.place.now c.args.offset c.args.journal.now) c.args.journal.now
          c.loop-at.at c.entry_at-entry.result.now [] c.loop-at.found.items c.note_if.new.found.items (omega arith)
          (sym (get_or_from_slice_get c.args.journal.now c.loop-at.at _ _ c.entry_at-entry.ensures)) c.loop-at.invariant.1 (search rules),
    )
