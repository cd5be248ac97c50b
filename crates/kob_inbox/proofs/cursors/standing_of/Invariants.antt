use Rattle.kob_inbox.proofs.Words.{cursor_of, drop, ◌≡◌}
use Rattle.kob_inbox.proofs.cursors.standing_of.Given as goal

abbrev pub invariant-loop-cursor : goal.invariant-loop-cursor
invariant-loop-cursor l = cursor_of (drop l.cursor-index l.cursors) l.place ≡ cursor_of l.cursors l.place
