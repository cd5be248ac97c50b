use Rattle.std.proofs.Common.{rules, ◌≡◌, get_or}
use Rattle.clap.specs.Words.{app_of, rule_of}
use Rattle.kob_acl_cli.specs.Lines.{option}
use Rattle.kob_acl_cli.proofs.LineFacts.{options_more}
use Rattle.kob_acl_cli.proofs.line.with_options.Goals as goal

pub loop-name-preserved : goal.loop-name-preserved
loop-name-preserved c =
    let name = c.new.result.id in
    let named : rule_of c.action.result ≡ option c.args.action
    (get_or c.args.names.now c.loop-name.name-index name).now = search rules in
    options_more c.args.action (app_of c.args.command) c.args.names.now c.loop-name.name-index name
    (app_of c.loop-name.made) (app_of c.in_ok-made.made) (rule_of c.action.result)
    c.loop-name-test.true c.loop-name.invariant (c.in_ok-made.ensures.shape (search rules)) named
