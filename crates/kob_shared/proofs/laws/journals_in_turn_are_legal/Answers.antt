use Rattle.kob_shared.proofs.Journals.{legal_in_turn}
use Rattle.kob_shared.proofs.laws.journals_in_turn_are_legal.Goals as goal

pub returns : goal.returns
returns c = legal_in_turn
