use Rattle.kob_pipeline.proofs.Words.{IfOk-weaker, IsEnd, IsPipeline, ap, arith, entry_limit, err_from_is_err_and, length, map, opened_by, planned_as, subst, sym, vec_len, workers_planned, ◌∙◌, ◌≤◌}
use Rattle.std.specs.List.{AllZip}
use Rattle.kob_shared.proofs.Fleets.{unnumbered}
use Rattle.kob_pipeline.specs.Steps.{IsLeft}
use Rattle.kob_pipeline.proofs.Ended.{as_planned, workers_counted, named_fleet}
use Rattle.kob_pipeline.proofs.pipelines.pipeline.Goals as goal

pub returns-in_err-ran-clause-named : goal.returns-in_err-ran-clause-named
returns-in_err-ran-clause-named g c =
    let given = err_from_is_err_and c.from_residual-in_err-ran.result c.from_residual-in_err-ran.ensures.1 in
    let plan = c.args.plan.now in
    let count = workers_counted plan c.in_ok-workers.workers.items c.in_ok-workers.ensures in
    let same = ap length c.deref.ensures.value in
    let first = ap length c.in_ok-broker.ensures.first in
    let fits : length plan.first ≤ entry_limit = omega (arith, c.has_room.ensures.0 c.if-not-has_room.false) in
    rw (given.1, given.2) (named_fleet (length c.deref.result.now) (workers_planned plan) entry_limit
    (vec_len c.in_ok-broker.first) _ (omega (arith, count, same)) c.in_err-ran.ensures.named
    c.in_err-ran.ensures.full (omega (arith, first, fits, c.in_ok-broker.first.ok.0)))

pub returns-clause-ok : goal.returns-clause-ok
returns-clause-ok g c =
    let plan = c.args.plan.now in
    let opening = c.in_ok-broker.opening in
    let events = c.in_ok-ran.ran.first.events in
    let planned = map planned_as c.deref-2.result.now in
    IfOk-weaker c.end_of.result (IsEnd (opened_by opening) events planned) (IsPipeline plan)
    (λ end is.
    as_planned opening plan events planned end c.in_ok-broker.ensures.opening
    (c.in_ok-ran.ensures.first.0 ∙ c.in_ok-broker.ensures.first)
    (ap (map planned_as) c.deref-2.ensures.value ∙ c.in_ok-workers.ensures) is)
    c.end_of.ensures.ok

pub end_of-requires : goal.end_of-requires
end_of-requires g c =
    record {
      sound = c.in_ok-ran.ensures.sound;
      first = c.in_ok-ran.ensures.first.1;
      each =
          subst (λ ws. AllZip (λ w d. IsLeft (planned_as w) d.notes d.end) ws c.in_ok-ran.ran.done.items)
          (c.deref.ensures.value ∙ sym c.deref-2.ensures.value)
          (unnumbered (λ w d. IsLeft (planned_as w) d.notes d.end) 1 c.deref.result.now c.in_ok-ran.ran.done.items
          c.in_ok-ran.ensures.each);
    }
