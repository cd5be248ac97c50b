use Rattle.std.proofs.Common.{rules, filter}
use Rattle.std.specs.Option.{option_to_list}
use Rattle.kob_acl_cli.proofs.FirstFaults.{first_before_words}
use Rattle.kob_acl_cli.specs.Commands.{is_no_principal, is_no_pattern_type}
use Rattle.kob_acl_cli.proofs.parts.read_parts.Goals as goal

pub returns-in_err-principals : goal.returns-in_err-principals
returns-in_err-principals c =
    search (
      rules,
      first_before_words (filter is_no_principal c.args.args.now.principals)
          (filter is_no_pattern_type (option_to_list c.args.args.now.pattern_type)),
    )
