use Rattle.kob_scene_text.proofs.ScriptLines.{script_is_scene}
use Rattle.kob_scene_text.proofs.laws.scripts_are_scenes.Goals as goal

pub returns : goal.returns
returns c = λ text read plain may. script_is_scene text read plain may
