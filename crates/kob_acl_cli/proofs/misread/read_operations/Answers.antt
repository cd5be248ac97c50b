use Rattle.std.proofs.Common.{rules, arith}
use Rattle.std.proofs.lemmas.Grind.{common_steps}
use Rattle.std.proofs.lemmas.List.Elements.{filter_map-append}
use Rattle.kob_acl_cli.proofs.FirstFaults.{first_misread}
use Rattle.kob_acl_cli.specs.Commands.{is_no_operation}
use Rattle.kob_acl_cli.proofs.misread.read_operations.Goals as goal

pub returns-in_default : goal.returns-in_default
returns-in_default c = search (rules, first_misread is_no_operation c.args.words.now c.loop-word.word-index c.word-item.result)

pub loop-word-preserved : goal.loop-word-preserved
loop-word-preserved c = grind (arith, common_steps, filter_map-append)
