use Rattle.std.proofs.Common.{ap, filter, subst, sym, take_all, ◌∙◌}
use Rattle.kob_authorizer.specs.Index.{AreRising}
use Rattle.kob_policy_review.proofs.Asking.{still_rising}
use Rattle.kob_policy_review.proofs.Shares.{near_so}
use Rattle.kob_policy_review.specs.Sharing.{is_near}
use Rattle.kob_policy_review.proofs.below.near_below.Goals as goal

pub returns-clause-near : goal.returns-clause-near
returns-clause-near c =
    c.loop-entry.invariant
    ∙ ap (filter (is_near c.in_ok-first.first c.args.resource c.args.prefix.now))
    (take_all c.loop-entry.entry-index c.entries-entry-items.result.now c.loop-entry-test.false)
    ∙ (λ i. filter (is_near (c.in_ok-first.ensures i) c.args.resource c.args.prefix.now)
    (c.entries-entry-items.ensures.entries i))
    ∙ near_so c.args.rules.now.contents c.args.resource c.args.prefix.now

pub returns-clause-rising : goal.returns-clause-rising
returns-clause-rising c =
    subst AreRising
    (sym (c.loop-entry.invariant
    ∙ ap (filter (is_near c.in_ok-first.first c.args.resource c.args.prefix.now))
    (take_all c.loop-entry.entry-index c.entries-entry-items.result.now c.loop-entry-test.false)))
    (still_rising (is_near c.in_ok-first.first c.args.resource c.args.prefix.now) 1 c.args.rules.now.contents.next
    c.entries-entry-items.result.now c.entries-entry-items.ensures.rising)
