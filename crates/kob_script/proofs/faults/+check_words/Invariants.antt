use Rattle.kob_script.proofs.Imports.{length}
use Rattle.kob_script.proofs.faults.+check_words.Given as goal

abbrev pub decreases-check_words : goal.decreases-check_words
decreases-check_words l = length l.places.now
