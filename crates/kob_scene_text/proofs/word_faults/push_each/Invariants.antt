use Rattle.kob_scene_text.proofs.Words.{map, take, ◌++◌, ◌≡◌}
use Rattle.kob_scene_text.specs.Places.{slot_fault}
use Rattle.kob_scene_text.proofs.word_faults.push_each.Given as goal

abbrev pub invariant-loop-word : goal.invariant-loop-word
invariant-loop-word l =
    l.faults.items ≡ l.initial.faults.items
    ++ map (slot_fault (map (λ line. line.now) l.fn.before) l.slot) (take l.word-index l.words)
