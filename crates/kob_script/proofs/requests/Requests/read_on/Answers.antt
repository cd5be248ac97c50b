use Rattle.kob_script.proofs.CheckedLines.{asked_here, line_ok, no_bytes, rest_ok}
use Rattle.kob_script.proofs.requests.Requests.read_on.Goals as goal

pub enter_next-requires-clause-read : goal.enter_next-requires-clause-read
enter_next-requires-clause-read c = no_bytes _ (rw c.rest.ensures at c.in_default.ensures)

pub read_again-requires-clause-checked : goal.read_again-requires-clause-checked
read_again-requires-clause-checked c =
    line_ok c.args.blocks.now c.args.blocks.now _ c.in-Some.size c.args.answers.now.items c.args.answers.now.items
    (rw c.rest.ensures at c.in-Some.ensures).1 c.requires.checked

pub returns-clause-read : goal.returns-clause-read
returns-clause-read c =
    asked_here c.args.blocks.now c.pass.new.self _ c.in-Some.size c.args.answers.now.items c.read_again.new.answers.items
    (rw c.rest.ensures at c.in-Some.ensures).1 c.requires.checked c.pass.ensures.front c.pass.ensures.at c.pass.ensures.later
    c.in_ok-read.ensures.used c.in_ok-read.read c.read_again.new.next c.read_again.new.asked.items c.in_ok-read.ensures.asked

pub returns-clause-checked : goal.returns-clause-checked
returns-clause-checked c =
    rest_ok c.args.blocks.now c.pass.new.self _ c.in-Some.size c.args.answers.now.items c.read_again.new.answers.items
    (rw c.rest.ensures at c.in-Some.ensures).1 c.requires.checked c.pass.ensures.front c.pass.ensures.at c.pass.ensures.later
    c.in_ok-read.ensures.used
