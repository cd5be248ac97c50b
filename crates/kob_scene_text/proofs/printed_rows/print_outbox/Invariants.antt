use Rattle.kob_scene_text.proofs.Words.{flat_map, outbox_item, take, ◌++◌, ◌≡◌}
use Rattle.kob_scene_text.proofs.printed_rows.print_outbox.Given as goal

abbrev pub invariant-loop-row : goal.invariant-loop-row
invariant-loop-row l =
    l.out.items ≡ l.initial.out.items ++ flat_map outbox_item (take l.row-index l.rows)
