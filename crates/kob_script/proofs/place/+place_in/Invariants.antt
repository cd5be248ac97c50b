use Rattle.kob_script.proofs.Imports.{length}
use Rattle.kob_script.proofs.place.+place_in.Given as goal

abbrev pub decreases-place_in : goal.decreases-place_in
decreases-place_in l = length l.places.now
