use Rattle.kob_producers.proofs.Words.{ap, sym, ◌∙◌}
use Rattle.kob_producers.proofs.Showing.{can_accept, reordered}
use Rattle.kob_producers.proofs.rings.Rings.reserve.Goals as goal

pub returns-then-contains_key-clause-room : goal.returns-then-contains_key-clause-room
returns-then-contains_key-clause-room c =
    can_accept c.self.inside.kept.entries c.args.self.now c.args.idem.now.id (ap (λ t. t.recent) c.self.view_is)
    (sym c.contains_key.ensures ∙ c.if-contains_key.true)

pub returns-clause-recent : goal.returns-clause-recent
returns-clause-recent c =
    reordered c.self.inside.kept.entries c.reserve.new.self.entries c.args.self.now.recent
    (ap (λ t. t.recent) c.self.view_is) c.reserve.ensures.entries.2
