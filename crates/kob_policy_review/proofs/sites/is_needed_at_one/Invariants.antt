use Rattle.std.proofs.Common.{false, slice_get, take, ◌≡◌}
use Rattle.std.specs.List.{list_any}
use Rattle.kob_policy_review.specs.Removal.{is_among}
use Rattle.kob_policy_review.specs.Sites.{is_needed_of}
use Rattle.kob_policy_review.proofs.sites.is_needed_at_one.Given as goal

abbrev pub invariant-loop-place : goal.invariant-loop-place
invariant-loop-place l =
    list_any (λ place. is_needed_of l.rules.contents (is_among l.gone) l.entry (slice_get l.near place))
    (take l.place-index l.places) ≡ false
