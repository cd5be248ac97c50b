use Rattle.kob_script.proofs.RawWords.{blank_lanes}
use Rattle.kob_script.proofs.raw_words.blanks.Goals as goal

pub returns : goal.returns
returns c = blank_lanes c.args.lanes c.fits-lanes.0
