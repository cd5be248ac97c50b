use Rattle.kob_endpoints.proofs.Words.{Fetcher, Subscription, ap, arith, err_from_is_err_and, length, refl, rules, ◌∙◌, ◌≡◌}
use Rattle.kob_endpoints.specs.Running.{Reader}
use Rattle.kob_endpoints.proofs.Takings.{all_taken, nothing_yet, one_more, round_is, some_round, taking_failed, taking_used_up}
use Rattle.kob_inbox.specs.Tick.{point_of}
use Rattle.kob_endpoints.proofs.running_consumer.RunningConsumer.take_all.Goals as goal

pub loop-init : goal.loop-init
loop-init g c =
    let stays : g.L.Line.becomes c.args.self.now.line c.args.self.now.line = search rules in
    let now = c.args.self.now in
    let point = point_of now.fetcher now.inbox (g.L.Line.calls now.line) (g.L.Line.unmade now.line) in (
      refl,
      refl,
      stays,
      some_round c.len.result c.max-round.result c.max-round.ensures,
      nothing_yet now.fetcher.subscription c.max-round.result point,
    )

pub returns-in_err-tick-clause-ticks : goal.returns-in_err-tick-clause-ticks
returns-in_err-tick-clause-ticks g c =
    let t = c.args.self.now.fetcher.subscription in
    let was = c.loop.self in
    let now = c.step.new.self in
    let same : c.subscription-subscription.result.now ≡ t =
    c.subscription-subscription.ensures ∙ ap (λ (f : Fetcher). f.subscription) c.consumer.ensures
    ∙ ap (λ (r : Reader g.row.L.Denot). r.fetcher.subscription) c.self.view_is in
    let partitions : c.len.result ≡ length t.assignment =
    c.len.ensures ∙ ap (λ (u : Subscription). length u.assignment) same in
    let p = err_from_is_err_and c.from_residual.result c.from_residual.ensures.1 in
    rw (p.1, p.2)
    (taking_failed t was.fetcher.subscription _ c.max-round.result c.loop.counter c.args.most c.loop.idle _
    (point_of was.fetcher was.inbox (g.L.Line.calls was.line) (g.L.Line.unmade was.line))
    (point_of now.fetcher now.inbox (g.L.Line.calls now.line) (g.L.Line.unmade now.line)) c.in_err-tick.field-0.0
    c.loop.invariant.0 c.loop.invariant.4 c.in_err-tick.ensures.ends c.loop.invariant.3 c.loop-test.true
    (round_is c.len.result (length t.assignment) c.max-round.result c.max-round.ensures partitions))

pub returns-then-idle-round-clause-ticks : goal.returns-then-idle-round-clause-ticks
returns-then-idle-round-clause-ticks g c =
    let t = c.args.self.now.fetcher.subscription in
    let was = c.loop.self in
    let now = c.step.new.self in
    let same : c.subscription-subscription.result.now ≡ t =
    c.subscription-subscription.ensures ∙ ap (λ (f : Fetcher). f.subscription) c.consumer.ensures
    ∙ ap (λ (r : Reader g.row.L.Denot). r.fetcher.subscription) c.self.view_is in
    let partitions : c.len.result ≡ length t.assignment =
    c.len.ensures ∙ ap (λ (u : Subscription). length u.assignment) same in
    all_taken t was.fetcher.subscription _ c.max-round.result c.loop.counter c.args.most c.loop.idle
    c.idle_after-idle.result _ (point_of was.fetcher was.inbox (g.L.Line.calls was.line) (g.L.Line.unmade was.line))
    (point_of now.fetcher now.inbox (g.L.Line.calls now.line) (g.L.Line.unmade now.line)) c.in_ok-tick.tick
    c.loop.invariant.0 c.loop.invariant.4 c.in_ok-tick.ensures.done.0 c.in_ok-tick.ensures.done.1
    c.idle_after-idle.ensures c.loop.invariant.3 c.if-idle-round.true c.loop-test.true
    (round_is c.len.result (length t.assignment) c.max-round.result c.max-round.ensures partitions)

pub loop-preserved : goal.loop-preserved
loop-preserved g c =
    let t = c.args.self.now.fetcher.subscription in
    let was = c.loop.self in
    let now = c.step.new.self in
    let done = c.in_ok-tick.ensures in
    let line : g.L.Line.becomes c.args.self.now.line now.line = search rules in (
      done.same ∙ c.loop.invariant.0,
      done.earlier ∙ c.loop.invariant.1,
      line,
      c.if-idle-round.false,
      one_more t was.fetcher.subscription c.max-round.result c.loop.counter c.loop.idle c.idle_after-idle.result _
          (point_of was.fetcher was.inbox (g.L.Line.calls was.line) (g.L.Line.unmade was.line))
          (point_of now.fetcher now.inbox (g.L.Line.calls now.line) (g.L.Line.unmade now.line)) c.in_ok-tick.tick
          c.loop.invariant.0 c.loop.invariant.4 done.done.0 done.done.1 c.idle_after-idle.ensures
          c.if-idle-round.false,
    )

pub returns-clause-ticks : goal.returns-clause-ticks
returns-clause-ticks g c =
    let t = c.args.self.now.fetcher.subscription in
    let was = c.loop.self in
    let same : c.subscription-subscription.result.now ≡ t =
    c.subscription-subscription.ensures ∙ ap (λ (f : Fetcher). f.subscription) c.consumer.ensures
    ∙ ap (λ (r : Reader g.row.L.Denot). r.fetcher.subscription) c.self.view_is in
    let partitions : c.len.result ≡ length t.assignment =
    c.len.ensures ∙ ap (λ (u : Subscription). length u.assignment) same in
    let all : c.loop.counter ≡ c.args.most = omega (arith, c.loop.auto.counter-end, c.loop-test.false) in
    taking_used_up t _ c.max-round.result c.loop.counter c.args.most c.loop.idle _
    (point_of was.fetcher was.inbox (g.L.Line.calls was.line) (g.L.Line.unmade was.line)) c.loop.invariant.4 all
    (round_is c.len.result (length t.assignment) c.max-round.result c.max-round.ensures partitions)
