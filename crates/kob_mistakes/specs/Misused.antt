-- What is said of a word that its line means otherwise.
use Rattle.std.specs.Prelude.{ℕ, List, ◌++◌, codes}
use Rattle.kob_mistakes.specs.Told.{head_text}
use Rattle.kob_scene_text.specs.declared.misuse.Misuse.{Misuse}
use Rattle.kob_scene_text.specs.declared.misuse.Misuse.TheVariants.{ServiceName, ConsumerName, ServiceStep, ConsumerStep}

-- a word, and the worker whose name its line begins with
abbrev pub misused_text : Misuse → List ℕ → List ℕ → List ℕ
misused_text ServiceName word worker = word ++ codes " is a service, not a consumer"
misused_text ConsumerName word worker = word ++ codes " is a consumer, not a service"
misused_text ServiceStep word worker =
    word ++ codes " is a step of a service, and " ++ worker ++ codes " is a consumer"
misused_text ConsumerStep word worker =
    word ++ codes " is a step of a consumer, and " ++ worker ++ codes " is a service"

-- kob: NAME: line LINE:, and what the word is
abbrev pub misused_line : List ℕ → ℕ → Misuse → List ℕ → List ℕ → List ℕ
misused_line name line misuse word worker =
    head_text name line ++ misused_text misuse word worker ++ codes "\n"
