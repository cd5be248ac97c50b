use Rattle.std.proofs.Common.{◌≡◌, None, bytes_eq, find, take}
use Rattle.kob_scene_export.specs.Topics.{metric_name}
use Rattle.kob.proofs.export.first_alike.Given as goal

abbrev pub invariant-loop-topic : goal.invariant-loop-topic
invariant-loop-topic l =
    find (λ other. bytes_eq (metric_name other.name) l.name) (take l.topic-index l.topics) ≡ None
