use Rattle.kob_ordered.proofs.Words.{ap, get_or_from_slice_get, names_in, slice_get, ◌∙◌}
use Rattle.kob_ordered.proofs.by_name.place_of.Goals as goal

pub returns-in-Ok-clause-stands : goal.returns-in-Ok-clause-stands
returns-in-Ok-clause-stands g c =
    let nth = c.in-Ok.ensures.found in
    let read = c.index.ensures
    ∙ get_or_from_slice_get c.args.by_name.now.items c.in-Ok.index nth.place c.index.result.now nth.listed in
    ap (slice_get (names_in c.args.slots.now)) read ∙ nth.stands
