use Rattle.kob_scene_text.proofs.Ids.{no_id}
use Rattle.kob_scene_text.proofs.Words.{parsed}
use Rattle.kob_scene_text.proofs.step_lines.id_of.Goals as goal

pub returns-in-Err : goal.returns-in-Err
returns-in-Err c =
    rw (← c.in_ok-text.ensures) (no_id c.parse_str.result _ (parsed c.in_ok-text.text.now) c.in-Err.is c.parse_str.ensures.ok)
