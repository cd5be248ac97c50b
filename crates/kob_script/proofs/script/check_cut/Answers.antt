use Rattle.kob_script.proofs.Imports.{rules, script_so_far}
use Rattle.kob_script.proofs.CheckedLines.{unasked_checked}
use Rattle.kob_script.proofs.script.check_cut.Goals as goal

pub returns-else-asks_clap : goal.returns-else-asks_clap
returns-else-asks_clap c = λ line events has counts.
    unasked_checked (script_so_far c.args.checking.now events) line c.check_words.new.checking
    c.args.answers.now.items c.args.answers.now.items c.check_words.result c.args.words.now has
    (search rules) (c.check_words.ensures.next events counts) (λ i. c.args.answers.now.items)
