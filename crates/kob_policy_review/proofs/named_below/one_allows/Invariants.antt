use Rattle.std.proofs.Common.{false, take, ◌≡◌}
use Rattle.std.specs.List.{list_any}
use Rattle.kob_policy_review.specs.Sharing.{allows_some}
use Rattle.kob_policy_review.proofs.named_below.one_allows.Given as goal

abbrev pub invariant-loop-entry : goal.invariant-loop-entry
invariant-loop-entry l =
    list_any (allows_some l.first l.host l.operation l.asking) (take l.entry-index l.asking) ≡ false
