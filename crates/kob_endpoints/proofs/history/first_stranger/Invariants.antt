use Rattle.kob_endpoints.proofs.Followings.{IsSeenTo}
use Rattle.kob_endpoints.proofs.history.first_stranger.Given as goal

abbrev pub invariant-loop-journal : goal.invariant-loop-journal
invariant-loop-journal l = IsSeenTo l.journals l.journal-index l.before l.seen
