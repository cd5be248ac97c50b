use Rattle.std.proofs.Common.{◌≡◌, map, take}
use Rattle.kob_scene_export.specs.Topics.{dotted}
use Rattle.kob_scene_export.proofs.topics.metric_name.Given as goal

abbrev pub invariant-loop-byte : goal.invariant-loop-byte
invariant-loop-byte l = l.made.items ≡ map dotted (take l.byte-index l.name)
