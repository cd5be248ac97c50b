use Rattle.kob_shared.proofs.Journals.{entry_is_just}
use Rattle.kob_shared.proofs.laws.each_entry_is_just.Goals as goal

pub returns : goal.returns
returns c = entry_is_just
