use Rattle.kob_inbox.proofs.Words.{arith, common_steps, enumerate_from, map-map}
use Rattle.kob_inbox.proofs.Reading.{same_events}
use Rattle.kob_inbox.proofs.inbox.Inbox.taken.Goals as goal

pub returns-clause-rows : goal.returns-clause-rows
returns-clause-rows c = grind (arith, common_steps, same_events, enumerate_from, map-map)
