use Rattle.std.proofs.Common.{Ok, codes, refl, rules}
use Rattle.std.proofs.lemmas.Result.{IfOk-weaker}
use Rattle.clap.specs.Words.{with_rule}
use Rattle.kob.specs.CommandLine.{bound, files_app, one_of_names, service}
use Rattle.kob.proofs.ClapFacts.{arg_is, conflict_is, made_arg_is, need_is}
use Rattle.kob.proofs.options.export_command.Goals as goal

pub returns : goal.returns
returns c =
    let names = c.as_slice-names.result in
    let export = files_app (codes "export") in
    let connect = one_of_names names (codes "connect") in
    let table = one_of_names names (codes "table") in
    let connected = arg_is c.in_ok-files_command.field-0 c.one_of_names.result (Ok c.in_ok-made.made) export connect
    c.in_ok-files_command.ensures c.one_of_names.ensures refl c.in_ok-made.ensures in
    let tabled = made_arg_is c.in_ok-made.made c.conflicts_with.result (Ok c.in_ok-made-2.made) (with_rule export connect)
    (bound table) connected
    (conflict_is c.one_of_names-2.result c.conflicts_with.result _ table c.one_of_names-2.ensures c.conflicts_with.ensures)
    refl c.in_ok-made-2.ensures.added c.in_ok-made-2.ensures.refused in
    IfOk-weaker c.with_arg-2.result _ _ (λ made is. ((names, search rules), is))
    (made_arg_is c.in_ok-made-2.made c.requires_arg.result c.with_arg-2.result
    (with_rule (with_rule export connect) (bound table)) (bound service) tabled
    (need_is c.service.result c.requires_arg.result _ service c.service.ensures c.requires_arg.ensures)
    refl c.with_arg-2.ensures.added c.with_arg-2.ensures.refused)
