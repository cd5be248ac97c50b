-- What the lines that are left may be read as, the text may be; the steps of the lines before are of these lines.
use Rattle.kob_scene_text.proofs.Words.{so_far, ◌+◌}
use Rattle.kob_scene_text.proofs.SceneLines.{Leads, LeadsOn}
use Rattle.kob_scene_text.proofs.reading.read_scene.Given as goal

abbrev pub invariant-loop-line : goal.invariant-loop-line
invariant-loop-line l =
    Leads l.fn.text (so_far l.reading) (l.number + 1) l.line-iterator
    × LeadsOn l.fn.text (so_far l.reading) (l.number + 1) l.line-iterator l.lines.items
