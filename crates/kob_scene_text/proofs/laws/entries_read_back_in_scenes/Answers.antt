use Rattle.kob_scene_text.proofs.ReadBackScenes.{scene_back}
use Rattle.kob_scene_text.proofs.laws.entries_read_back_in_scenes.Goals as goal

pub returns : goal.returns
returns c = λ event is. scene_back event is
