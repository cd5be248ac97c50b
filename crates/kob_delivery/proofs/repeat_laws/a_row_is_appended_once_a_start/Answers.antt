use Rattle.kob_delivery.proofs.RepeatsRun.{appended_once_a_start}
use Rattle.kob_delivery.proofs.repeat_laws.a_row_is_appended_once_a_start.Goals as goal

pub returns : goal.returns
returns c = appended_once_a_start
