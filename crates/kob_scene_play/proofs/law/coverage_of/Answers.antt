use Rattle.kob_scene_play.proofs.Words.{ap, length, rules, sym, ◌∙◌}
use Rattle.std.proofs.lemmas.List.{length-map}
use Rattle.kob_scene_play.proofs.law.coverage_of.Goals as goal

pub returns-clause-covered : goal.returns-clause-covered
returns-clause-covered c =
    let rows = c.in_ok-rows.rows.items in
    let are = c.in_ok-rows.ensures.rows in (
      c.in_ok-early.early.items,
      (rows, are, search rules),
      search rules,
      search (rules, length-map),
      (rows, are, search rules),
      (rows, are, search rules),
      search rules,
    )
