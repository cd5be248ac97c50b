use Rattle.kob_scene_play.proofs.Words.{ap, option_map, ◌∙◌}
use Rattle.kob_outbox.specs.Contents.{stored_row}
use Rattle.kob_scene_play.proofs.Polling.{first_of_stored}
use Rattle.kob_scene_play.proofs.poll.first_visible.Goals as goal

pub returns : goal.returns
returns c = ap (option_map stored_row) c.visible_among.ensures ∙ first_of_stored c.args.hidden.now c.args.rows.now
