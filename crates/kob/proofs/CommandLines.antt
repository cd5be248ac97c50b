-- What clap says of a parse, said of the words of this command line.
use Rattle.std.proofs.Common.{◌≡◌, ◌∙◌, true, List, ap, ap₂, codes, refl, ℕ}
use Rattle.clap.specs.Words.{App, HasMatchesOf, found_of, is_simple, matches_of, rows_of, subcommand_of, subcommand_rows_of}
use Rattle.clap.specs.declared.parser.matches.ArgMatches.{ArgMatches}
use Rattle.clap.proofs.OnLiterals.{clap_on_literals}
use Rattle.kob.specs.CommandLine.{Databases, kob_app, options_by, part_app, task_read}
use Rattle.kob.specs.Options.{is_given, options_in, task_found}
use Rattle.kob.specs.declared.options.Task.{Task}
use Rattle.kob.specs.declared.policy_options.Options.{Options}

kob_is_simple : (databases : Databases) → is_simple (kob_app databases) ≡ true
unfolding clap_on_literals
kob_is_simple databases = refl

part_is_simple : is_simple part_app ≡ true
unfolding clap_on_literals
part_is_simple = refl

pub task_is : (databases : Databases) (app : App) (words : List (List ℕ)) (found : ArgMatches) (task : Task)
    → app ≡ kob_app databases → HasMatchesOf app words found
    → task ≡ task_found (subcommand_rows_of found) (is_given (rows_of (found_of found)) (codes "version"))
    → task ≡ task_read databases words
task_is databases app words found task is has read =
    let matched = has (ap is_simple is ∙ kob_is_simple databases) in
    read ∙ ap₂ task_found (matched.1 ∙ ap (λ a. subcommand_of a words) is)
    (ap (λ rows. is_given rows (codes "version")) (matched.0 ∙ ap (λ a. matches_of a words) is))

pub options_are : (app : App) (words : List (List ℕ)) (found : ArgMatches) (options : Options)
    → app ≡ part_app → HasMatchesOf app words found → options ≡ options_in (rows_of (found_of found))
    → options ≡ options_by words
unfolding options_by
options_are app words found options is has read =
    read ∙ ap options_in ((has (ap is_simple is ∙ part_is_simple)).0 ∙ ap (λ a. matches_of a words) is)
