use Rattle.kob_pipeline.proofs.Words.{Contents, ap, drop, first_after, later_than, refl, sym, take-append-drop, ◌++◌, ◌∙◌}
use Rattle.kob_pipeline.proofs.posting.rows_of.Goals as goal

pub loop-rows-init : goal.loop-rows-init
loop-rows-init c =
    let all = later_than 0 c.after.new.self.events in
    let read =
    c.in_ok-rows.ensures.rows ∙ ap (λ (o : Contents). first_after 0 1000 o.events) (sym c.after.ensures.same) in
    ((drop 1000 all, ap (λ es. es ++ drop 1000 all) read ∙ take-append-drop 1000 all), refl)
