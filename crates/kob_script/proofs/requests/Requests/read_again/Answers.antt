use Rattle.kob_script.proofs.requests.Requests.read_again.Goals as goal

pub read_cut-requires-clause-checked : goal.read_cut-requires-clause-checked
read_cut-requires-clause-checked c = rw c.in-Some.ensures.put at c.requires.checked

pub returns-in-Some-clause-asked : goal.returns-in-Some-clause-asked
returns-in-Some-clause-asked c = rw c.in-Some.ensures.put c.read_cut.ensures.asked

pub returns-in-Some-clause-used : goal.returns-in-Some-clause-used
returns-in-Some-clause-used c = rw c.in-Some.ensures.put c.read_cut.ensures.used
