use Rattle.std.proofs.Common.{Ok, codes, refl, rules}
use Rattle.std.proofs.lemmas.Result.{IfOk-weaker}
use Rattle.clap.specs.Words.{with_rule, with_subcommand}
use Rattle.kob.specs.CommandLine.{bare_app, export_app, files_app, help_app, play_app, policy_app, version}
use Rattle.kob.proofs.ClapFacts.{arg_is, some_subcommand_is, subcommand_is}
use Rattle.kob.proofs.options.command.Goals as goal

pub returns : goal.returns
returns c =
    let begun = arg_is c.disable_help_subcommand-made.result c.short.result (Ok c.in_ok-made.made) bare_app version
    (search rules) (search rules) refl c.in_ok-made.ensures in
    let bare = with_rule bare_app version in
    let playing = subcommand_is c.in_ok-made.made c.play_command.result (Ok c.in_ok-made-2.made) bare play_app
    begun c.play_command.ensures refl c.in_ok-made-2.ensures.added c.in_ok-made-2.ensures.refused in
    let with_play = with_subcommand bare play_app.top in
    let exporting = some_subcommand_is c.in_ok-made-2.made c.export_command.result (Ok c.in_ok-made-3.made) with_play export_app
    playing c.export_command.ensures (λ databases. refl) c.in_ok-made-3.ensures.added c.in_ok-made-3.ensures.refused in
    let databases = exporting.0 in
    let with_export = with_subcommand with_play (export_app databases).top in
    let asking = subcommand_is c.in_ok-made-3.made c.command.result (Ok c.in_ok-made-4.made) with_export policy_app
    exporting.1 c.command.ensures refl c.in_ok-made-4.ensures.added c.in_ok-made-4.ensures.refused in
    let with_policy = with_subcommand with_export policy_app.top in
    let comparing = subcommand_is c.in_ok-made-4.made c.files_command.result (Ok c.in_ok-made-5.made) with_policy (files_app (codes "topic"))
    asking c.files_command.ensures refl c.in_ok-made-5.ensures.added c.in_ok-made-5.ensures.refused in
    let with_topic = with_subcommand with_policy (files_app (codes "topic")).top in
    IfOk-weaker c.with_subcommand-5.result _ _ (λ made is. (databases, is))
    (subcommand_is c.in_ok-made-5.made c.help_command.result c.with_subcommand-5.result with_topic help_app
    comparing c.help_command.ensures refl c.with_subcommand-5.ensures.added c.with_subcommand-5.ensures.refused)
