use Rattle.std.proofs.Common.{◌≡◌, take}
use Rattle.clap.specs.Words.{app_of}
use Rattle.kob_acl_cli.specs.Lines.{texts, with_options}
use Rattle.kob_acl_cli.proofs.line.with_options.Given as goal

abbrev pub invariant-loop-name : goal.invariant-loop-name
invariant-loop-name l =
    app_of l.made ≡ with_options l.action (app_of l.initial.made) (texts (take l.name-index l.names))
