use Rattle.kob_endpoints.proofs.Words.{eq-eqb, false, ne_eqb, true, ◌==◌, ◌≡◌}
use Rattle.kob_endpoints.proofs.Entries.{entry_more, other_added, own_added}
use Rattle.kob_endpoints.proofs.part.add_entries.Goals as goal

pub loop-place-preserved-then-entry-worker : goal.loop-place-preserved-then-entry-worker
loop-place-preserved-then-entry-worker c =
    let entry = c.entry_at-entry.result in
    let test = c.if-entry-worker.true in
    let is : (entry.now.worker == c.args.worker) ≡ false = search (ne_eqb) in
    entry_more c.args.worker c.args.journal.now c.loop-place.place entry.now c.args.own.now.items
    c.loop-place.own.items c.loop-place.own.items c.entry_at-entry.ensures c.loop-place.invariant
    (other_added c.args.worker entry.now c.loop-place.own.items is)

pub loop-place-preserved : goal.loop-place-preserved
loop-place-preserved c =
    let entry = c.entry_at-entry.result in
    let test = c.if-entry-worker.false in
    let is : (entry.now.worker == c.args.worker) ≡ true = search (eq-eqb) in
    entry_more c.args.worker c.args.journal.now c.loop-place.place entry.now c.args.own.now.items
    c.loop-place.own.items c.push.new.self.items c.entry_at-entry.ensures c.loop-place.invariant
    (own_added c.args.worker entry c.loop-place.own.items c.push.new.self.items is c.in_ok-push.ensures.items)
