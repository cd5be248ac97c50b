use Rattle.kob_topic_check.proofs.Ids.{too_short}
use Rattle.kob_topic_check.proofs.row.parts_of.Goals as goal

pub returns-then-line-lt-ID : goal.returns-then-line-lt-ID
returns-then-line-lt-ID c = too_short c.args.line.now c.if-line-lt-ID.true
