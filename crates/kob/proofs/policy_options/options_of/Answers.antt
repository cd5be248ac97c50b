use Rattle.std.proofs.Common.{map, rules, string_bytes, ◌≡◌}
use Rattle.clap.specs.Words.{app_of}
use Rattle.kob.specs.CommandLine.{part_app}
use Rattle.kob.proofs.CommandLines.{options_are}
use Rattle.kob.proofs.policy_options.options_of.Goals as goal

pub returns-in_ok-options_in-in-Ok : goal.returns-in_ok-options_in-in-Ok
returns-in_ok-options_in-in-Ok c =
    let is_part : app_of c.in_ok-part.part ≡ part_app = search rules in
    options_are (app_of c.in_ok-part.part) (map string_bytes c.args.words.now) c.in-Ok.matches
    c.in_ok-options_in-in-Ok.field-0 is_part c.in-Ok.ensures.matches c.in_ok-options_in-in-Ok.ensures
