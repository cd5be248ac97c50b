-- The list of the entries in force, in front of which some that were deleted are still held.
use Rattle.std.specs.Prelude.{List, ℕ}
use Rattle.kob_names.specs.Binding.{Binding}

-- entries by rising serial, room for more behind them, and how many deleted ones are held
pub record Listed : Type 0 where
  pub entries : List (ℕ × Binding)
  pub room : ℕ
  pub holes : ℕ
