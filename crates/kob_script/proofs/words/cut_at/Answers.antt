use Rattle.kob_script.proofs.LineWords.{cut_is, no_cut}
use Rattle.kob_script.proofs.words.cut_at.Goals as goal

pub returns-in-Some : goal.returns-in-Some
returns-in-Some c = cut_is c.args.byte c.args.word.now c.in-Some.at c.in-Some.ensures

pub returns-in-None : goal.returns-in-None
returns-in-None c = no_cut c.args.byte c.args.word.now c.in-None.ensures
