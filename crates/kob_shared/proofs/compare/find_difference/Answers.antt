use Rattle.kob_shared.proofs.Words.{sym}
use Rattle.kob_shared.proofs.compare.find_difference.Goals as goal

pub walk-requires-clause-counted : goal.walk-requires-clause-counted
walk-requires-clause-counted c =
    rw (c.events.ensures, c.receipts.ensures.value) (sym c.receipts.ensures.answered.counted)

pub walk-requires-clause-rising : goal.walk-requires-clause-rising
walk-requires-clause-rising c = rw c.receipts.ensures.value c.receipts.ensures.answered.rising
