-- Which files a list has.
use Rattle.std.specs.Prelude.{ℕ, List, []}
use Rattle.kob.specs.declared.policy_lists.Side.{Side}
use Rattle.kob.specs.declared.policy_lists.Side.TheVariants.{Only, Before, After}
use Rattle.kob.specs.declared.policy_options.Options.{Options}

-- --policy counts for each list; one of two lists has also those of its own option
abbrev pub files_of : Options → Side → List (List ℕ)
files_of options Only = []
files_of options Before = options.before
files_of options After = options.after
