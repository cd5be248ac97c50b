use Rattle.std.proofs.Common.{None, map, take, ◌≡◌}
use Rattle.std.specs.List.{find}
use Rattle.kob_delivery_check.specs.Altered.{is_altered}
use Rattle.kob_delivery_check.proofs.altered.altered_row.Given as goal

abbrev pub invariant-loop-row : goal.invariant-loop-row
invariant-loop-row l = find (is_altered (map (λ event. event.now) l.events)) (take l.row-index l.rows) ≡ None
