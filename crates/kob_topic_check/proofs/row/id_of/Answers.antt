use Rattle.kob_topic_check.proofs.Ids.{no_id}
use Rattle.kob_topic_check.specs.Lists.{id_of}
use Rattle.kob_topic_check.proofs.row.id_of.Goals as goal

pub returns-in-Err : goal.returns-in-Err
returns-in-Err c = no_id c.try_parse_ascii.result _ (id_of c.args.text.now) c.in-Err.is c.try_parse_ascii.ensures.ok
