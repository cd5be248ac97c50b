use Rattle.std.specs.List.{flat_map}
use Rattle.std.specs.Prelude.{◌≡◌, ◌++◌}
use Rattle.kob_scene_play.specs.Json.{json_object}
use Rattle.kob_scene_play.proofs.json.push_json.Given as goal

abbrev pub invariant-loop-printed : goal.invariant-loop-printed
invariant-loop-printed l =
    l.out.items ++ flat_map (json_object l.line) l.printed-iterator
    ≡ l.initial.out.items ++ flat_map (json_object l.line) l.initial.printed-iterator
