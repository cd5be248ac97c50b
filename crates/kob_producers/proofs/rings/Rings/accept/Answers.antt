use Rattle.kob_producers.proofs.Words.{ap, get_by, is_some, nat_eq, nat_lt, recent_in, spare, subst, sym, ◌&&◌, ◌<◌, ◌∙◌}
use Rattle.kob_producers.proofs.Showing.{accepted_by_ring, accepted_first, cannot_accept, ring_capacity, fresh_is, some_is, room_for}
use Rattle.kob_producers.proofs.rings.Rings.accept.Goals as goal

pub returns-in-Some : goal.returns-in-Some
returns-in-Some c =
    let old = c.self.inside.kept.entries in
    let new = (c.get_mut.follows.lender c.push_back.new.self).entries in
    let ring = c.in-Some.ring.now in
    let written = (c.get_mut.follows.holds c.push_back.new.self).3 (some_is _ ring c.in-Some.ensures.value) in
    accepted_by_ring old new c.args.self.now.recent c.args.idem.now c.args.count c.args.offset ring
    c.push_back.new.self c.new-sent.result
    (ap (λ t. t.recent) c.self.view_is) c.in-Some.ensures.value
    (ring_capacity _ ring (c.self.invariant.0 c.args.idem.now.id) c.in-Some.ensures.value)
    c.new-sent.ensures c.push_back.ensures.items written.0

pub insert_reserved-requires : goal.insert_reserved-requires
insert_reserved-requires c =
    let room =
    room_for c.self.inside.kept.entries c.args.self.now c.args.idem.now.id (is_some c.self.inside.fresh)
    (spare c.self.inside.kept)
    (ap (λ t. t.recent) c.self.view_is) (ap (λ t. t.ready) c.self.view_is) c.in_default.ensures.value c.requires in
    subst (λ m. 0 < spare m) (sym c.get_mut.follows.holds-at-none) room

pub returns-in-Some-take : goal.returns-in-Some-take
returns-in-Some-take c =
    let ring = c.in-Some-take.ring in
    let same = c.get_mut.follows.holds-at-none in
    accepted_first c.get_mut.follows.lender-at-none.entries c.insert_reserved.new.rings.entries
    c.args.self.now.recent c.args.idem.now c.args.count c.args.offset ring c.push_back-in-Some-take.new.self
    c.new-sent.result
    (ap (λ m. recent_in m.entries) same ∙ ap (λ t. t.recent) c.self.view_is)
    (c.in_default.ensures.value ∙ sym (ap (λ m. get_by (nat_eq c.args.idem.now.id) m) same))
    (fresh_is _ ring c.self.invariant.1 (sym c.in-Some-take.is ∙ c.take.ensures.value))
    c.new-sent.ensures c.push_back-in-Some-take.ensures.items c.insert_reserved.ensures.0

pub returns-in_default-take : goal.returns-in_default-take
returns-in_default-take c =
    let unready =
    sym (ap (λ t. t.ready) c.self.view_is)
    ∙ ap (λ o. is_some o && nat_lt 0 (spare c.self.inside.kept))
    (sym c.take.ensures.value ∙ c.in_default-take.is) in
    absurd (cannot_accept c.self.inside.kept.entries c.args.self.now c.args.idem.now.id
    (ap (λ t. t.recent) c.self.view_is) unready c.in_default.ensures.value c.requires)
