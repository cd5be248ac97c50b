use Rattle.std.proofs.Common.{codes, rules}
use Rattle.clap.specs.Words.{found_of}
use Rattle.clap.proofs.WalkLemmas.{first_value-rows}
use Rattle.kob.proofs.options.export_form_in.Goals as goal

pub returns-in-Some-default : goal.returns-in-Some-default
returns-in-Some-default c =
    let connect = first_value-rows (found_of c.args.matches.now) (codes "connect") in
    search rules

pub returns-in-None-Some : goal.returns-in-None-Some
returns-in-None-Some c =
    let connect = first_value-rows (found_of c.args.matches.now) (codes "connect") in
    let table = first_value-rows (found_of c.args.matches.now) (codes "table") in
    search rules

pub returns-in-None-None : goal.returns-in-None-None
returns-in-None-None c =
    let connect = first_value-rows (found_of c.args.matches.now) (codes "connect") in
    let table = first_value-rows (found_of c.args.matches.now) (codes "table") in
    search rules
