use Rattle.kob_endpoints.proofs.Words.{arith, length, subst, sym, take, take_all, ◌≤◌}
use Rattle.kob_endpoints.proofs.Followings.{after_more, made_more}
use Rattle.kob_endpoints.proofs.Reachings.{is_true}
use Rattle.kob_endpoints.specs.History.{AreMade, after_all}
use Rattle.kob_endpoints.specs.Seen.{Shows}
use Rattle.kob_endpoints.proofs.history.first_unmade.Goals as goal

pub loop-place-init : goal.loop-place-init
loop-place-init c v shows = (tt, shows)

pub loop-place-preserved : goal.loop-place-preserved
loop-place-preserved c v shows =
    let journal = c.args.journal.now in
    let place = c.loop-place.place in
    let entry = c.entry_at-entry.result.now in
    let was = c.loop-place.invariant v shows in
    let w = after_all v (take place journal) in
    let may = (c.may_make.ensures w was.1).0 (is_true c.may_make.result c.if-not-may_make.false) in (
      made_more v journal place entry c.entry_at-entry.ensures was.0 may,
      subst (λ x. Shows x c.follow.new.self) (sym (after_more v journal place entry c.entry_at-entry.ensures))
          (c.in_ok-follow.ensures w was.1),
    )

pub returns-then-not-may_make : goal.returns-then-not-may_make
returns-then-not-may_make c v shows =
    let journal = c.args.journal.now in
    let place = c.loop-place.place in
    let was = c.loop-place.invariant v shows in
    record {
      entry = c.entry_at-entry.result.now;
      there = c.entry_at-entry.ensures;
      before = was.0;
      unmade = λ may.
          let so = (c.may_make.ensures (after_all v (take place journal)) was.1).1 may in
          let not_so = c.if-not-may_make.true in absurd (cc);
    }

pub returns : goal.returns
returns c v shows =
    let journal = c.args.journal.now in
    let end = c.len-place-end.ensures in
    let past : length journal ≤ c.loop-place.place = omega arith in
    subst (λ es. AreMade v es × Shows (after_all v es) c.loop-place.seen) (take_all c.loop-place.place journal past)
    (c.loop-place.invariant v shows)
