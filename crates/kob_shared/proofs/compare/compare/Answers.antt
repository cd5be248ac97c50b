use Rattle.kob_shared.proofs.Words.{arith, events_in, length, notes_of, refl, slice_get_read, told_in, ◌+◌}
use Rattle.kob_shared.proofs.Differences.{kept_or_stranger}
use Rattle.kob_shared.proofs.Fleets.{differ_done, length_events, mine_done}
use Rattle.kob_shared.proofs.compare.compare.Goals as goal

pub returns-in-Some-find_difference : goal.returns-in-Some-find_difference
returns-in-Some-find_difference g c =
    let done = c.args.done.now in
    let one = c.index-done-k.result in
    let at = slice_get_read done (length done) c.loop-k.k one refl c.loop-k-test.true c.index-done-k.is in
    differ_done c.args.first.now done c.loop-k.k one c.args.journal.now c.in-Some-find_difference.place at
    c.loop-k.invariant c.in-Some-find_difference.ensures

pub loop-k-preserved : goal.loop-k-preserved
loop-k-preserved g c =
    let done = c.args.done.now in
    let one = c.index-done-k.result in
    let at = slice_get_read done (length done) c.loop-k.k one refl c.loop-k-test.true c.index-done-k.is in
    mine_done c.args.first.now done c.loop-k.k one c.args.journal.now at c.loop-k.invariant
    c.in_default-find_difference.ensures

pub returns : goal.returns
returns g c =
    let notes = notes_of c.args.first.now c.args.done.now in
    kept_or_stranger c.args.journal.now (events_in notes) (told_in notes)
    (length c.args.done.now + 1) c.find_stranger.result
    (length_events c.args.first.now c.args.done.now)
    (λ w within. c.loop-k.invariant w (omega arith)) c.find_stranger.ensures
