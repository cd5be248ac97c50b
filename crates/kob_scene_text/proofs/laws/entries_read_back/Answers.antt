use Rattle.kob_scene_text.proofs.ReadBackRequests.{line_back}
use Rattle.kob_scene_text.proofs.laws.entries_read_back.Goals as goal

pub returns : goal.returns
returns c = λ event is. line_back event is
