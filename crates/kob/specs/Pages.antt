-- The page of help on a subject.
use Rattle.std.specs.Prelude.{ℕ, List, Option, Some, None, bytes_eq, codes, if◌then◌else◌}
use Rattle.kob.specs.declared.help.TheConstants.{HELP, HELP_PLAY, HELP_EXPORT, HELP_POLICY, HELP_TOPIC, HELP_SCENE}

abbrev pub page_on : List ℕ → Option (List ℕ)
page_on subject =
    if bytes_eq subject (codes "") then Some HELP.now
    else if bytes_eq subject (codes "play") then Some HELP_PLAY.now
    else if bytes_eq subject (codes "export") then Some HELP_EXPORT.now
    else if bytes_eq subject (codes "policy") then Some HELP_POLICY.now
    else if bytes_eq subject (codes "topic") then Some HELP_TOPIC.now
    else if bytes_eq subject (codes "scene") then Some HELP_SCENE.now
    else None
