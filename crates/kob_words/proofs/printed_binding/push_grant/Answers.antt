use Rattle.std.proofs.Common.{rules}
use Rattle.kob_words.proofs.AsciiText.{grant_ascii}
use Rattle.kob_words.proofs.printed_binding.push_grant.Goals as goal

pub returns-clause-ascii : goal.returns-clause-ascii
returns-clause-ascii c = search (rules, grant_ascii c.args.binding.now)
