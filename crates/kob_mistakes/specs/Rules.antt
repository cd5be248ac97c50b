-- What a word has to be that breaks its rule.
use Rattle.std.specs.Prelude.{ℕ, ◌-◌, Bool, ◌&&◌, ◌||◌, List, Option, Some, None, codes, if◌then◌else◌}
use Rattle.kob_mistakes.specs.Records.{word_is}
use Rattle.kob_scene_text.specs.Places.{same_kind}
use Rattle.kob_scene_text.specs.declared.fault.SceneFaultKind.{SceneFaultKind}
use Rattle.kob_scene_text.specs.declared.fault.SceneFaultKind.TheVariants.{BadId, Script}
use Rattle.kob_script.specs.declared.fault.FaultKind.TheVariants as fault

unfoldable pub principal_rule : List ℕ
principal_rule = codes "a principal is User: and a name, as User:alice"

unfoldable pub id_rule : List ℕ
id_rule = codes "an id is a UUID, as 00000000-0000-0000-0000-000000000001"

-- the word at a place is an option of kafka-acls that takes a principal
abbrev pub is_of_principal : List (List ℕ) → ℕ → Bool
is_of_principal words place = word_is words place (codes "--allow-principal")
    || word_is words place (codes "--deny-principal") || word_is words place (codes "--principal")

-- the rule of the word at a place, where a fault of this kind was found
abbrev pub rule_at : SceneFaultKind → List (List ℕ) → ℕ → Option (List ℕ)
rule_at kind words place =
    if same_kind kind (Script fault.BadPrincipal) then Some principal_rule
    else (if same_kind kind BadId then Some id_rule
    else (if same_kind kind (Script fault.BadName) && is_of_principal words (place - 1)
    then Some principal_rule else None))
