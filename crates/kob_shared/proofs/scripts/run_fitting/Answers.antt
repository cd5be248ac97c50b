use Rattle.kob_shared.proofs.Words.{AllZip, IfErr, IfErr-weaker, IfOk, IsFleet, IsTornOnlyWhere, NamesWorkerWithin, arith, asked_of_all, nat_tests, state_of, subst, sym, vec_len, ◌∙◌, ◌≡◌}
use Rattle.kob_shared.proofs.Fleets.{unnumbered}
use Rattle.kob_shared.proofs.Journals.{opened_are}
use Rattle.kob_shared.specs.Fleets.{events_of_script}
use Rattle.kob_shared.proofs.scripts.run_fitting.Goals as goal

pub returns-clause-ok : goal.returns-clause-ok
returns-clause-ok g c =
    rw (← c.as_slice-2.ensures.value)
    (subst (λ s. IfOk c.end_of.result (λ end. IsFleet s c.args.first.items c.as_slice-2.result.now
    end.journal (state_of end.broker) end.transcripts.items))
    (opened_are c.args.broker c.in-Ok.opening c.requires.fresh c.in-Ok.ensures)
    (rw (← (c.in_ok-ran.ensures.first.0)) c.end_of.ensures.ok))

pub returns-clause-torn : goal.returns-clause-torn
returns-clause-torn g c =
    rw (← c.as_slice-2.ensures.value)
    (subst (λ s. IfErr c.end_of.result (IsTornOnlyWhere s
    (asked_of_all c.args.first.items c.as_slice-2.result.now)))
    c.in-Ok.ensures (rw (← (c.in_ok-ran.ensures.first.0)) c.end_of.ensures.torn))

pub returns-clause-named : goal.returns-clause-named
returns-clause-named g c =
    IfErr-weaker c.end_of.result (NamesWorkerWithin 0) (NamesWorkerWithin (vec_len c.args.scripts))
    (λ f named. grind (arith, nat_tests)) c.end_of.ensures.named

pub end_of-requires-clause-each : goal.end_of-requires-clause-each
end_of-requires-clause-each g c =
    subst (λ scripts. AllZip (λ s d. d.notes.events ≡ events_of_script s) scripts c.in_ok-ran.ran.done.items)
    (c.as_slice.ensures.value ∙ sym c.as_slice-2.ensures.value)
    (unnumbered (λ s d. d.notes.events ≡ events_of_script s) 1 c.as_slice.result.now c.in_ok-ran.ran.done.items
    c.in_ok-ran.ensures.each)
