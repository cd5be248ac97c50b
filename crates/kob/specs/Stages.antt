-- How long the work is that `kob policy` does next.
use Rattle.std.specs.Prelude.{ℕ, max}
use Rattle.kob.specs.declared.stages.Stage.{Stage}
use Rattle.kob.specs.declared.stages.Stage.TheVariants.{Read, Open, Compare, Answer}

-- of two lists the longer one's
abbrev pub bindings_of : Stage → ℕ
bindings_of (Read file bytes bindings) = bindings
bindings_of (Open bindings) = bindings
bindings_of (Compare before after) = max before after
bindings_of (Answer questions bindings) = bindings
