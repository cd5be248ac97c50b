use Rattle.std.proofs.Common.{append-nil, arith, nat_eq, refl}
use Rattle.std.specs.HashSet.{contains}
use Rattle.kob_policy_text.proofs.Growing.{numbered_all, numbered_more}
use Rattle.kob_policy_rows.specs.Logs.{idle_row}
use Rattle.kob_policy_rows.proofs.log_rows.push_idle_rows.Goals as goal

pub loop-place-preserved-then-contains : goal.loop-place-preserved-then-contains
loop-place-preserved-then-contains c =
    numbered_more (idle_row c.args.judge.now (contains nat_eq c.args.set.now)) c.loop-place.place
    c.serials-serials.result.now c.loop-place.place 0 _ _ _ _ c.loop-place.invariant (omega arith) refl
    (grind (arith, append-nil))

pub loop-place-preserved : goal.loop-place-preserved
loop-place-preserved c =
    numbered_more (idle_row c.args.judge.now (contains nat_eq c.args.set.now)) c.loop-place.place
    c.serials-serials.result.now c.loop-place.place 0 _ _ _ _ c.loop-place.invariant (omega arith) refl
    (grind (arith, append-nil))

pub returns : goal.returns
returns c =
    rw (← c.serials-serials.ensures)
    (numbered_all (idle_row c.args.judge.now (contains nat_eq c.args.set.now)) c.loop-place.place
    c.serials-serials.result.now c.loop-place.place _ _ c.loop-place.invariant (omega arith))
