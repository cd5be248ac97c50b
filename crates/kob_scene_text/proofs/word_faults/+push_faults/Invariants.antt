use Rattle.kob_scene_text.proofs.Words.{length}
use Rattle.kob_scene_text.proofs.word_faults.+push_faults.Given as goal

abbrev pub decreases-push_faults : goal.decreases-push_faults
decreases-push_faults l = length l.parts.now
