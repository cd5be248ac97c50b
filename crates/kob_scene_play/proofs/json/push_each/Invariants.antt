use Rattle.std.specs.List.{flat_map}
use Rattle.std.specs.Prelude.{◌≡◌, ◌++◌, take}
use Rattle.kob_scene_play.specs.Json.{words_byte}
use Rattle.kob_scene_play.proofs.json.push_each.Given as goal

abbrev pub invariant-loop-byte : goal.invariant-loop-byte
invariant-loop-byte l = l.out.items ≡ l.initial.out.items ++ flat_map words_byte (take l.byte-index l.words)
