-- What is exported of a scene.
use Rattle.std.specs.Prelude.{ℕ, Bool, true, List, Option, None, Some, ◌++◌, bytes_eq, codes, find, flat_map}
use Rattle.kob_broker.specs.State.{settings_of}
use Rattle.kob_names.specs.declared.settings.Settings.{Settings}
use Rattle.kob.specs.Standing.{Seen, end_of}
use Rattle.kob.specs.declared.standing.Topic.{Topic}
use Rattle.kob_scene_export.specs.Bindings.{binding_line}
use Rattle.kob_scene_export.specs.Connector.{connector_text}
use Rattle.kob_scene_export.specs.Server.{head_text, settings_text}
use Rattle.kob_scene_export.specs.Topics.{metric_name, topic_text}
use Rattle.kob_names.specs.Same.{same_text}
use Rattle.kob_scene_text.specs.declared.scene.Scene.{Scene}
use Rattle.kob_scene_text.specs.declared.scene.Service.{Service}

-- the line above the settings, and the one above the commands
unfoldable pub properties_mark : List ℕ
properties_mark = codes "# server.properties\n"

unfoldable pub commands_mark : List ℕ
commands_mark = codes "# commands\n"

-- of topics whose names are one in Kafka's metrics, the first, which alone Kafka takes
abbrev pub is_same : Option Topic → Topic → Bool
is_same None topic = true
is_same (Some other) topic = same_text other.name topic.name

abbrev pub is_first : List Topic → Topic → Bool
is_first topics topic =
    is_same (find (λ other. bytes_eq (metric_name other.name) (metric_name topic.name)) topics) topic

abbrev pub topic_line : List Topic → Topic → List ℕ
topic_line topics topic = topic_text (is_first topics topic) topic.name topic.partitions

abbrev pub service_text : Service → List ℕ
service_text service = connector_text service.name service.settings

abbrev pub settings_part : Settings → List ℕ
settings_part settings = head_text ++ properties_mark ++ settings_text settings

abbrev pub commands_part : Settings → List Topic → List ℕ
commands_part settings topics =
    commands_mark ++ flat_map (topic_line topics) topics ++ flat_map binding_line settings.opening

-- the settings with the bindings in force, topics and services
abbrev pub exported : Seen → List Service → List ℕ
exported end services =
    settings_part (settings_of end.state) ++ commands_part (settings_of end.state) end.topics
    ++ flat_map service_text services

abbrev pub export_text : Scene → List ℕ
export_text scene = exported (end_of scene) scene.services.items
