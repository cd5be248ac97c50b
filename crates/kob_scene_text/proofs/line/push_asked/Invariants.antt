-- The steps so far, and those that are left, are the steps before and all that was asked.
use Rattle.kob_scene_text.proofs.Words.{asked, length, map, told, ◌++◌, ◌≡◌}
use Rattle.kob_scene_text.proofs.line.push_asked.Given as goal

abbrev pub invariant-loop-event : goal.invariant-loop-event
invariant-loop-event l =
    map told l.steps.items ++ map asked l.events.items
    ≡ map told l.initial.steps.items ++ map asked l.fn.events.items

abbrev pub decreases-loop-event : goal.decreases-loop-event
decreases-loop-event l = length l.events.items
