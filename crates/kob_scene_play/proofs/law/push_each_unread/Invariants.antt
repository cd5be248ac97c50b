use Rattle.kob_scene_play.proofs.Words.{flat_map, take, ◌++◌, ◌≡◌}
use Rattle.kob_scene_play.specs.Laws.{unread_text}
use Rattle.kob_scene_play.proofs.law.push_each_unread.Given as goal

abbrev pub invariant-loop-place : goal.invariant-loop-place
invariant-loop-place l =
    l.out.items ≡ l.initial.out.items ++ flat_map unread_text (take l.place-index l.unread)
