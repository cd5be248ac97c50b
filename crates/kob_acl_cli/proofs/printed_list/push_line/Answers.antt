use Rattle.kob_words.proofs.AsciiText.{line_ascii}
use Rattle.kob_words.specs.Words.{binding_text}
use Rattle.kob_acl_cli.proofs.printed_list.push_line.Goals as goal

pub returns-clause-ascii : goal.returns-clause-ascii
returns-clause-ascii c = line_ascii (binding_text c.args.serial c.args.binding.now) c.in_ok-print_binding.ensures.ascii
