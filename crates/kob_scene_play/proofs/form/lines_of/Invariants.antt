use Rattle.std.specs.Prelude.{◌≡◌, ◌++◌}
use Rattle.kob_scene_play.proofs.form.lines_of.Given as goal

abbrev pub invariant-loop-line : goal.invariant-loop-line
invariant-loop-line l = l.lines.items ++ l.line-iterator ≡ l.initial.line-iterator
