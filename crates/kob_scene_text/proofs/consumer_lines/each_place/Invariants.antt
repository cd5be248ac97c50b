-- What was read, and then what the rest stands for, is what the words stand for.
use Rattle.kob_scene_text.proofs.Words.{drop, each, place_of, with_front, ◌≡◌}
use Rattle.kob_scene_text.proofs.consumer_lines.each_place.Given as goal

abbrev pub invariant-loop-word : goal.invariant-loop-word
invariant-loop-word l = with_front l.places.items (each place_of (drop l.word-index l.words)) ≡ each place_of l.words
