use Rattle.kob_endpoints.proofs.Words.{Some, ap, slice_get, sym, ◌∙◌, ◌≡◌}
use Rattle.kob_endpoints.proofs.Entries.{told_more}
use Rattle.std.proofs.lemmas.Option.{slice_get-get_or}
use Rattle.kob_endpoints.proofs.part.own_entries.Goals as goal

pub loop-journal-preserved : goal.loop-journal-preserved
loop-journal-preserved c =
    let journals = c.args.journals.now in
    let at = c.loop-journal.journal-index in
    let journal = c.journal-item.result in
    let there : slice_get journals at ≡ Some journal =
    slice_get-get_or journals at journal c.loop-journal-test.true ∙ ap (λ j. Some j) (sym c.journal-item.is) in
    told_more c.args.worker journals at journal c.loop-journal.own.items c.add_entries.new.own.items there
    c.loop-journal.invariant c.in_ok-add_entries.ensures
