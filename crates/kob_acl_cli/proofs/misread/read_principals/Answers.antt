use Rattle.std.proofs.Common.{rules, arith}
use Rattle.std.proofs.lemmas.Grind.{common_steps}
use Rattle.kob_acl_cli.proofs.FirstFaults.{first_misread}
use Rattle.kob_acl_cli.specs.Commands.{is_no_principal}
use Rattle.kob_acl_cli.proofs.misread.read_principals.Goals as goal

pub returns-in-Err : goal.returns-in-Err
returns-in-Err c = search (rules, first_misread is_no_principal c.args.words.now c.loop-word.word-index c.word-item.result)

pub loop-word-preserved : goal.loop-word-preserved
loop-word-preserved c = grind (arith, common_steps)
