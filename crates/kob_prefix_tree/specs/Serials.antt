-- Where the serials stand that a key holds of one kind.
use Rattle.std.specs.Prelude.{ℕ, List, [], ◌∷◌}
use Rattle.kob_prefix_tree.specs.declared.serials.Store.{Store}
use Rattle.kob_prefix_tree.specs.declared.serials.Store.TheVariants as store

-- one alone, or those of a list
abbrev pub serials_in : Store → List ℕ
serials_in (store.One serial) = serial ∷ []
serials_in (store.List cells) = cells
