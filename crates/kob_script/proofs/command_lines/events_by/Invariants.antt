use Rattle.kob_script.proofs.Imports.{acl_request, events_by, into_iter_items, map, ◌++◌, ◌≡◌}
use Rattle.kob_script.proofs.command_lines.events_by.Given as goal

abbrev pub invariant-loop-command : goal.invariant-loop-command
invariant-loop-command l =
    (l.yielded ++ into_iter_items l.command-iterator ≡ into_iter_items l.initial.command-iterator)
    × (l.events.items ≡ events_by l.asker.principal l.asker.host (map acl_request l.yielded))
