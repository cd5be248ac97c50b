use Rattle.std.proofs.Common.{arith, nat_eq, refl}
use Rattle.std.specs.HashSet.{contains}
use Rattle.kob_policy_text.proofs.Growing.{numbered_all, numbered_more}
use Rattle.kob_policy_text.specs.LogAnswers.{idle_line}
use Rattle.kob_policy_text.proofs.log_answer.push_idle_lines.Goals as goal

pub loop-place-preserved : goal.loop-place-preserved
loop-place-preserved c =
    numbered_more (idle_line c.args.judge.now (contains nat_eq c.args.set.now)) c.loop-place.place
    c.serials-serials.result.now c.loop-place.place 0 _ _ _ _ c.loop-place.invariant (omega arith) refl
    c.in_ok-push_idle.ensures

pub returns : goal.returns
returns c =
    rw (← c.serials-serials.ensures)
    (numbered_all (idle_line c.args.judge.now (contains nat_eq c.args.set.now)) c.loop-place.place
    c.serials-serials.result.now c.loop-place.place _ _ c.loop-place.invariant (omega arith))
