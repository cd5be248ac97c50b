use Rattle.kob_policy_review.proofs.Places.{LeadsBelow}
use Rattle.kob_policy_review.specs.Sites.{rows_of}
use Rattle.kob_policy_review.proofs.sites.tree_of.Given as goal

abbrev pub invariant-loop-place : goal.invariant-loop-place
invariant-loop-place l = LeadsBelow (rows_of l.near) l.place l.places
