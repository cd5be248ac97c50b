use Rattle.std.proofs.Common.{Ok, codes, refl}
use Rattle.clap.specs.Words.{new_app}
use Rattle.kob.specs.CommandLine.{bound, flag, others, repeated}
use Rattle.kob.proofs.ClapFacts.{arg_is, conflict_is, made_arg_is, need_is}
use Rattle.kob.proofs.policy_options.command.Goals as goal

pub returns : goal.returns
returns c =
    let policy = repeated (codes "policy") in
    let questions = repeated (codes "questions") in
    let topics = repeated (codes "topics") in
    let log = repeated (codes "log") in
    let before = repeated (codes "before") in
    let after = repeated (codes "after") in
    let csv = flag (codes "csv") in
    let app = new_app (codes "policy") in
    let one = arg_is c.named.result c.repeated.result (Ok c.in_ok-made.made) app policy
    c.named.ensures c.repeated.ensures refl c.in_ok-made.ensures in
    let two = arg_is c.in_ok-made.made c.repeated-2.result (Ok c.in_ok-made-2.made) _ questions
    one c.repeated-2.ensures refl c.in_ok-made-2.ensures in
    let three = arg_is c.in_ok-made-2.made c.repeated-3.result (Ok c.in_ok-made-3.made) _ topics
    two c.repeated-3.ensures refl c.in_ok-made-3.ensures in
    let four = arg_is c.in_ok-made-3.made c.repeated-4.result (Ok c.in_ok-made-4.made) _ log
    three c.repeated-4.ensures refl c.in_ok-made-4.ensures in
    let five = made_arg_is c.in_ok-made-4.made c.requires_arg.result (Ok c.in_ok-made-5.made) _ (bound before)
    four (need_is c.repeated-5.result c.requires_arg.result _ before c.repeated-5.ensures c.requires_arg.ensures)
    refl c.in_ok-made-5.ensures.added c.in_ok-made-5.ensures.refused in
    let six = made_arg_is c.in_ok-made-5.made c.requires_arg-2.result (Ok c.in_ok-made-6.made) _ (bound after)
    five (need_is c.repeated-6.result c.requires_arg-2.result _ after c.repeated-6.ensures c.requires_arg-2.ensures)
    refl c.in_ok-made-6.ensures.added c.in_ok-made-6.ensures.refused in
    let seven = arg_is c.in_ok-made-6.made c.repeated-7.result (Ok c.in_ok-made-7.made) _ (repeated (codes "kafka"))
    six c.repeated-7.ensures refl c.in_ok-made-7.ensures in
    let eight = arg_is c.in_ok-made-7.made c.flag.result (Ok c.in_ok-made-8.made) _ (flag (codes "skip"))
    seven c.flag.ensures refl c.in_ok-made-8.ensures in
    let nine = made_arg_is c.in_ok-made-8.made c.commands.result (Ok c.in_ok-made-9.made) _ (bound (flag (codes "commands")))
    eight c.commands.ensures refl c.in_ok-made-9.ensures.added c.in_ok-made-9.ensures.refused in
    let ten = made_arg_is c.in_ok-made-9.made c.json.result (Ok c.in_ok-made-10.made) _ (bound (flag (codes "json")))
    nine c.json.ensures refl c.in_ok-made-10.ensures.added c.in_ok-made-10.ensures.refused in
    let eleven = made_arg_is c.in_ok-made-10.made c.conflicts_with.result (Ok c.in_ok-made-11.made) _ (bound csv)
    ten (conflict_is c.flag-2.result c.conflicts_with.result _ csv c.flag-2.ensures c.conflicts_with.ensures)
    refl c.in_ok-made-11.ensures.added c.in_ok-made-11.ensures.refused in
    arg_is c.in_ok-made-11.made c.others.result c.arg-7.result _ (others (codes "QUESTION"))
    eleven c.others.ensures refl c.arg-7.ensures
