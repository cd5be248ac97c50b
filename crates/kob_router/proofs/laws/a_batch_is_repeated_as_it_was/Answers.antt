use Rattle.kob_router.proofs.Lawful.{repeats}
use Rattle.kob_router.proofs.laws.a_batch_is_repeated_as_it_was.Goals as goal

pub returns : goal.returns
returns c = repeats
