use Rattle.kob_scene_play.proofs.Words.{rules}
use Rattle.kob_scene_play.proofs.Taking.{row_more}
use Rattle.kob_scene_play.proofs.every.Every.push.Goals as goal

pub invariant_of-self-2 : goal.invariant_of-self-2
invariant_of-self-2 c =
    row_more c.self.inside.rows.items c.push_reserved.new.self.items c.in_ok-row.row _ _ c.self.invariant (search rules)
    c.in_ok-row.ensures (search rules)
