use Rattle.std.proofs.Common.{Ok, codes, refl}
use Rattle.clap.specs.Words.{with_rule}
use Rattle.kob.specs.CommandLine.{bound, files_app, flag}
use Rattle.kob.proofs.ClapFacts.{arg_is, conflict_is, made_arg_is}
use Rattle.kob.proofs.options.play_command.Goals as goal

pub returns : goal.returns
returns c =
    let play = files_app (codes "play") in
    let trace = flag (codes "trace") in
    let json = flag (codes "json") in
    made_arg_is c.in_ok-made.made c.conflicts_with.result c.with_arg.result (with_rule play trace) (bound json)
    (arg_is c.in_ok-files_command.field-0 c.flag.result (Ok c.in_ok-made.made) play trace
    c.in_ok-files_command.ensures c.flag.ensures refl c.in_ok-made.ensures)
    (conflict_is c.flag-2.result c.conflicts_with.result _ json c.flag-2.ensures c.conflicts_with.ensures)
    refl c.with_arg.ensures.added c.with_arg.ensures.refused
