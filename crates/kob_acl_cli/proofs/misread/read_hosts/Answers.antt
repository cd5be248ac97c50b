use Rattle.std.proofs.Common.{rules}
use Rattle.kob_acl_cli.proofs.FirstFaults.{first_misread}
use Rattle.kob_acl_cli.specs.Commands.{is_no_host}
use Rattle.kob_acl_cli.proofs.misread.read_hosts.Goals as goal

pub returns-in-Err : goal.returns-in-Err
returns-in-Err c = search (rules, first_misread is_no_host c.args.words.now c.loop-word.word-index c.word-item.result)
