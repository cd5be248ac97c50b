use Rattle.kob_endpoints.proofs.Words.{Event, IsSenderRun, List, OnOk, [], next_seq, stored_event, subst, ◌++◌, ◌∷◌}
use Rattle.kob_endpoints.proofs.Runs.{rows_of_a_record, run_of_a_record}
use Rattle.kob_endpoints.proofs.running_service.RunningService.record.Goals as goal

pub invariant_of-self : goal.invariant_of-self
invariant_of-self g c =
    let done = c.record.ensures in
    let was = c.self.inside in
    run_of_a_record was.relay c.record.new.self (was.past.calls ++ g.L.Line.calls was.line) c.args.change.now
    c.args.event.now c.record.result c.self.invariant done.ok done.err done.good done.fresh done.room

pub returns-clause-run : goal.returns-clause-run
returns-clause-run g c =
    let done = c.record.ensures in
    let event = c.args.event.now in
    let calls = c.self.inside.past.calls ++ g.L.Line.calls c.self.inside.line in
    subst (λ s. OnOk c.record.result ((rows : List Event)
    → IsSenderRun s.relayed (s.earlier ++ g.L.Line.calls s.line) rows
    → IsSenderRun c.record.new.self calls (rows ++ stored_event (next_seq s.relayed.outbox) event ∷ [])))
    c.self.view_is
    (rows_of_a_record c.self.inside.relay c.record.new.self calls c.args.change.now event
    c.record.result done.ok done.good done.fresh done.room)
