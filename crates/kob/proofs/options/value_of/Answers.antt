use Rattle.std.proofs.Common.{rules}
use Rattle.clap.specs.Words.{found_of}
use Rattle.clap.proofs.WalkLemmas.{first_value-rows}
use Rattle.kob.proofs.options.value_of.Goals as goal

pub returns-in_ok-copied-in-Some : goal.returns-in_ok-copied-in-Some
returns-in_ok-copied-in-Some c = let rows = first_value-rows (found_of c.args.matches.now) c.args.name.now in search rules

pub returns-in-None : goal.returns-in-None
returns-in-None c = let rows = first_value-rows (found_of c.args.matches.now) c.args.name.now in search rules
