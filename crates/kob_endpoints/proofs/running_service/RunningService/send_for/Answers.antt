use Rattle.kob_endpoints.proofs.Words.{arith, rules, sym, ◌≡◌}
use Rattle.kob_endpoints.proofs.Endings.{none_waits, one_tick, one_try, sending_ends}
use Rattle.kob_endpoints.specs.Running.{at}
use Rattle.kob_endpoints.proofs.running_service.RunningService.send_for.Goals as goal

pub returns-in-Some-clause-sent : goal.returns-in-Some-clause-sent
returns-in-Some-clause-sent g c =
    none_waits _ _ _ _ _ _ c.tick-tick.result c.in-Some.ended c.tick-tick.ensures.done (sym c.in-Some.ensures)

pub returns-in-Some-clause-tries : goal.returns-in-Some-clause-tries
returns-in-Some-clause-tries g c =
    let old = c.args.self.now in
    let was = c.loop.self in
    let now = c.tick-tick.new.self in
    one_try c.loop.counter c.args.most (at old.relayed (g.L.Line.calls old.line) (g.L.Line.unmade old.line))
    (at was.relayed (g.L.Line.calls was.line) (g.L.Line.unmade was.line))
    (at now.relayed (g.L.Line.calls now.line) (g.L.Line.unmade now.line)) c.tick-tick.result c.loop.invariant.4
    c.tick-tick.ensures.done c.loop-test.true

pub returns-in-Some-clause-ends : goal.returns-in-Some-clause-ends
returns-in-Some-clause-ends g c =
    let old = c.args.self.now in
    let was = c.loop.self in
    let now = c.tick-tick.new.self in
    sending_ends c.loop.counter c.args.most (at old.relayed (g.L.Line.calls old.line) (g.L.Line.unmade old.line))
    (at was.relayed (g.L.Line.calls was.line) (g.L.Line.unmade was.line))
    (at now.relayed (g.L.Line.calls now.line) (g.L.Line.unmade now.line)) c.tick-tick.result c.in-Some.ended
    c.loop.invariant.4 c.tick-tick.ensures.done (sym c.in-Some.ensures) c.loop-test.true

pub loop-preserved : goal.loop-preserved
loop-preserved g c =
    let old = c.args.self.now in
    let was = c.loop.self in
    let now = c.tick-tick.new.self in
    let target : now.relayed.router.target ≡ old.relayed.router.target = search rules in
    let earlier : now.earlier ≡ old.earlier = search rules in
    let line : g.L.Line.becomes old.line now.line = search rules in (
      target,
      earlier,
      λ rows ran. c.tick-tick.ensures.run rows (c.loop.invariant.2 rows ran),
      line,
      one_tick c.loop.counter (at old.relayed (g.L.Line.calls old.line) (g.L.Line.unmade old.line))
          (at was.relayed (g.L.Line.calls was.line) (g.L.Line.unmade was.line))
          (at now.relayed (g.L.Line.calls now.line) (g.L.Line.unmade now.line)) c.tick-tick.result c.loop.invariant.4
          c.tick-tick.ensures.done (sym c.in_default.ensures),
      λ none. absurd (omega (arith, none)),
    )
