use Rattle.kob_scene_text.proofs.ReadBackBindings.{binding_back}
use Rattle.kob_scene_text.proofs.laws.bindings_read_back.Goals as goal

pub returns : goal.returns
returns c = λ draft is. binding_back draft is
