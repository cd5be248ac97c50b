use Rattle.kob_ordered.proofs.Words.{sym, ◌∙◌}
use Rattle.kob_ordered.proofs.Search.{equal_at}
use Rattle.kob_ordered.proofs.by_name.place_near.Goals as goal

pub returns-in-Equal-clause-stands : goal.returns-in-Equal-clause-stands
returns-in-Equal-clause-stands g c =
    (equal_at c.args.slots.now c.args.by_name.now.items c.args.name.now c.requires c.args.near.0
    (sym c.order_at.ensures ∙ c.in-Equal.is)).0

pub returns-in-Equal-clause-known : goal.returns-in-Equal-clause-known
returns-in-Equal-clause-known g c =
    sym (equal_at c.args.slots.now c.args.by_name.now.items c.args.name.now c.requires c.args.near.0
    (sym c.order_at.ensures ∙ c.in-Equal.is)).1

pub returns-in-Equal-order_at : goal.returns-in-Equal-order_at
returns-in-Equal-order_at g c =
    let found = equal_at c.args.slots.now c.args.by_name.now.items c.args.name.now c.requires c.args.near.1
    (sym c.order_at-2.ensures ∙ c.in-Equal-order_at.is) in
    record { stands = found.0; known = sym found.1 }
