use Rattle.kob_endpoints.proofs.Words.{Err, List, Ok, err_from_is_err_and, length, rules, subst, sym, ◌+◌, ◌≡◌}
use Rattle.kob_endpoints.specs.Running.{AreTicks, EndsTakingRows, Reader, TicksBelow}
use Rattle.kob_endpoints.proofs.Takings.{Filling, filled_enough, filled_more, filled_unread, filling_failed}
use Rattle.kob_inbox.specs.Tick.{point_of}
use Rattle.kob_inbox.specs.declared.tick.Tick.{Tick}
use Rattle.kob_endpoints.proofs.running_consumer.RunningConsumer.take_rows.Goals as goal

pub returns-in_err-tick-clause-ticks : goal.returns-in_err-tick-clause-ticks
returns-in_err-tick-clause-ticks g c =
    let t = c.args.self.now.fetcher.subscription in
    let was = c.loop.self in
    let now = c.step.new.self in
    let p = err_from_is_err_and c.from_residual-in_err-tick.result c.from_residual-in_err-tick.ensures.1 in
    rw (p.1, p.2)
    (filling_failed t was.fetcher.subscription c.args.count c.loop.counter c.args.most _
    (point_of was.fetcher was.inbox (g.L.Line.calls was.line) (g.L.Line.unmade was.line))
    (point_of now.fetcher now.inbox (g.L.Line.calls now.line) (g.L.Line.unmade now.line)) c.in_err-tick.field-0.0
    c.loop.invariant.0 c.loop.invariant.3 c.in_err-tick.ensures.ends c.loop-test.true)

pub loop-preserved : goal.loop-preserved
loop-preserved g c =
    let t = c.args.self.now.fetcher.subscription in
    let was = c.loop.self in
    let now = c.step.new.self in
    let before = point_of c.args.self.now.fetcher c.args.self.now.inbox (g.L.Line.calls c.args.self.now.line)
    (g.L.Line.unmade c.args.self.now.line) in
    let done = c.in_ok-tick.ensures in
    let line : g.L.Line.becomes c.args.self.now.line c.has_rows.new.self.line = search rules in
    let same : c.has_rows.new.self.fetcher.subscription ≡ t = search rules in
    let earlier : c.has_rows.new.self.earlier ≡ c.args.self.now.earlier = search rules in (
      same,
      earlier,
      line,
      subst
          (λ (r : Reader g.row.L.Denot). Filling t c.args.count (c.loop.counter + 1) before
          (point_of r.fetcher r.inbox (g.L.Line.calls r.line) (g.L.Line.unmade r.line)))
          (sym c.has_rows.ensures.same)
          (filled_more t was.fetcher.subscription c.args.count c.loop.counter before
          (point_of was.fetcher was.inbox (g.L.Line.calls was.line) (g.L.Line.unmade was.line))
          (point_of now.fetcher now.inbox (g.L.Line.calls now.line) (g.L.Line.unmade now.line)) c.in_ok-tick.tick
          c.loop.invariant.0 c.loop.invariant.3 done.done.0 done.done.1 (c.in_ok-has_rows.ensures.few c.if-branch-2.false)),
    )

pub returns-in_err-has_rows-clause-ticks : goal.returns-in_err-has_rows-clause-ticks
returns-in_err-has_rows-clause-ticks g c =
    let t = c.args.self.now.fetcher.subscription in
    let was = c.loop.self in
    let now = c.step.new.self in
    let before = point_of c.args.self.now.fetcher c.args.self.now.inbox (g.L.Line.calls c.args.self.now.line)
    (g.L.Line.unmade c.args.self.now.line) in
    let done = c.in_ok-tick.ensures in
    let p = err_from_is_err_and c.from_residual-in_err-has_rows.result c.from_residual-in_err-has_rows.ensures.1 in
    rw (p.1, p.2)
    (subst
    (λ (r : Reader g.row.L.Denot). (ticks : List Tick) × AreTicks (TicksBelow c.args.count t) ticks before
    (point_of r.fetcher r.inbox (g.L.Line.calls r.line) (g.L.Line.unmade r.line))
    × EndsTakingRows c.args.count c.args.most ticks (length r.inbox) (Err c.in_err-has_rows.field-0.0))
    (sym c.has_rows.ensures.same)
    (filled_unread t was.fetcher.subscription c.args.count c.loop.counter c.args.most before
    (point_of was.fetcher was.inbox (g.L.Line.calls was.line) (g.L.Line.unmade was.line))
    (point_of now.fetcher now.inbox (g.L.Line.calls now.line) (g.L.Line.unmade now.line)) c.in_ok-tick.tick _
    c.loop.invariant.0 c.loop.invariant.3 done.done.0 done.done.1 c.loop-test.true
    c.in_err-has_rows.ensures.memory))

pub returns-then-branch-2-clause-ticks : goal.returns-then-branch-2-clause-ticks
returns-then-branch-2-clause-ticks g c =
    let t = c.args.self.now.fetcher.subscription in
    let was = c.loop.self in
    let now = c.step.new.self in
    let before = point_of c.args.self.now.fetcher c.args.self.now.inbox (g.L.Line.calls c.args.self.now.line)
    (g.L.Line.unmade c.args.self.now.line) in
    let done = c.in_ok-tick.ensures in
    subst
    (λ (r : Reader g.row.L.Denot). (ticks : List Tick) × AreTicks (TicksBelow c.args.count t) ticks before
    (point_of r.fetcher r.inbox (g.L.Line.calls r.line) (g.L.Line.unmade r.line))
    × EndsTakingRows c.args.count c.args.most ticks (length r.inbox) (Ok tt))
    (sym c.has_rows.ensures.same)
    (filled_enough t was.fetcher.subscription c.args.count c.loop.counter c.args.most before
    (point_of was.fetcher was.inbox (g.L.Line.calls was.line) (g.L.Line.unmade was.line))
    (point_of now.fetcher now.inbox (g.L.Line.calls now.line) (g.L.Line.unmade now.line)) c.in_ok-tick.tick
    c.loop.invariant.0 c.loop.invariant.3 done.done.0 done.done.1 c.loop-test.true
    (c.in_ok-has_rows.ensures.taken c.if-branch-2.true))
