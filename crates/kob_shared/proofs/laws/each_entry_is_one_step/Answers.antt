use Rattle.kob_shared.proofs.Journals.{entry_is_one_step}
use Rattle.kob_shared.proofs.laws.each_entry_is_one_step.Goals as goal

pub returns : goal.returns
returns c = entry_is_one_step
