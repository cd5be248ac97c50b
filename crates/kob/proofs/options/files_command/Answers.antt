use Rattle.std.proofs.Common.{codes, refl}
use Rattle.clap.specs.Words.{new_app}
use Rattle.kob.specs.CommandLine.{others}
use Rattle.kob.proofs.ClapFacts.{arg_is}
use Rattle.kob.proofs.options.files_command.Goals as goal

pub returns : goal.returns
returns c =
    arg_is c.named.result c.others.result c.arg.result (new_app c.args.name.now)
    (others (codes "FILE")) c.named.ensures c.others.ensures refl c.arg.ensures
