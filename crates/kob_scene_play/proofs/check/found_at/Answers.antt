use Rattle.std.proofs.Common.{◌∙◌}
use Rattle.kob_scene_play.proofs.Checked.{same_losses}
use Rattle.kob_scene_play.proofs.check.found_at.Goals as goal

pub returns-clause-found : goal.returns-clause-found
returns-clause-found c =
    let first = c.in_ok-doubled_rows.ensures.same in
    let same = c.in_ok-early_rows.ensures.same in (
      rw first at (rw same at c.in_ok-fates.ensures.fates),
      same_losses _ _ _ _ c.args.journal.now c.deref.result.now c.in_ok-fates.fates.items c.in_ok-losses.losses.items
          c.in_ok-fates.ensures.sender (c.in_ok-fates.ensures.taker ∙ same ∙ first) c.deref.ensures.value
          c.in_ok-losses.ensures.losses,
      c.in_ok-repeats.ensures,
      c.in_ok-doubled_rows.ensures.doubled,
      rw first at c.in_ok-early_rows.ensures.early,
      c.in_ok-early_records.ensures,
    )
