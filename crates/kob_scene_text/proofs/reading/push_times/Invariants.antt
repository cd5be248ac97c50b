-- The number was appended once for each turn.
use Rattle.kob_scene_text.proofs.Words.{replicate, ◌++◌, ◌≡◌}
use Rattle.kob_scene_text.proofs.reading.push_times.Given as goal

abbrev pub invariant-loop : goal.invariant-loop
invariant-loop l = l.lines.items ≡ l.initial.lines.items ++ replicate l.counter l.number
