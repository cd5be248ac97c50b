-- The commands that lead from one list to another, as a shell takes them.
use Rattle.std.specs.Prelude.{ℕ, List, flat_map}
use Rattle.kob_policy_text.specs.Policy.{Policy, contents_of}
use Rattle.kob_policy_text.specs.Steps.{steps}
use Rattle.kob_policy_text.specs.declared.commands.Step.{Step}
use Rattle.kob_policy_text.specs.declared.commands.Step.TheVariants.{Add, Remove}
use Rattle.kob_scene_export.specs.Bindings.{binding_line, removal_line}

abbrev pub step_line : Step → List ℕ
step_line (Add binding) = binding_line binding
step_line (Remove binding) = removal_line binding

abbrev pub commands_text : Policy → Policy → List ℕ
commands_text before after =
    flat_map step_line (steps (contents_of before).entries (contents_of after).entries)
