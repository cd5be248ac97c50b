use Rattle.std.proofs.Common.{sym, ◌∙◌}
use Rattle.kob_authorizer.proofs.Entries.{any_passes}
use Rattle.kob_policy_review.specs.Sharing.{allows_some}
use Rattle.kob_policy_review.proofs.named_below.one_allows.Goals as goal

pub returns-then-branch : goal.returns-then-branch
returns-then-branch c =
    sym (any_passes (allows_some c.args.first.now c.args.host.now c.args.operation c.args.asking.now)
    c.args.asking.now
    c.entry-item.result (c.loop-entry.entry-index, c.loop-entry-test.true, sym c.entry-item.is)
    (sym c.in_ok-allows_some.ensures ∙ c.if-branch.true))
