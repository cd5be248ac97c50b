use Rattle.std.proofs.Common.{take, ◌≡◌}
use Rattle.std.specs.List.{fold}
use Rattle.kob_policy_review.specs.Sites.{with_place}
use Rattle.kob_policy_review.proofs.sites.add_places.Given as goal

abbrev pub invariant-loop-entry : goal.invariant-loop-entry
invariant-loop-entry l = l.places ≡ fold (with_place l.place) l.initial.places (take l.entry-index l.matching)
