use Rattle.std.proofs.Common.{rules}
use Rattle.kob_acl_cli.proofs.FirstFaults.{first_of_words}
use Rattle.kob_acl_cli.proofs.commands.commands_of.Goals as goal

pub returns-in_err-parts-clause-refused : goal.returns-in_err-parts-clause-refused
returns-in_err-parts-clause-refused c = search (rules, first_of_words c.args.args.now)
