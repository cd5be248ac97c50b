use Rattle.kob_authorizer.proofs.Words.{◌∙◌}
use Rattle.kob_authorizer.proofs.Verdicts.{least_equal_is_first}
use Rattle.kob_authorizer.proofs.equals.serial_of.Goals as goal

pub returns : goal.returns
returns c =
    c.least_equal.ensures ∙ least_equal_is_first c.args.keys.now c.args.entries.now c.args.binding.now
    c.requires.rising c.requires.indexed
