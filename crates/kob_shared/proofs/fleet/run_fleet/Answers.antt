use Rattle.kob_shared.proofs.Words.{Follows, IfErr-weaker, IfOk-weaker, IsFullOnlyPast, IsNamedWithin, NamesOneOf, entry_limit, length, subst, sym, vec_len, ◌≡◌}
use Rattle.kob_shared.proofs.Fleets.{full_within, named_within}
use Rattle.kob_shared.proofs.fleet.run_fleet.Goals as goal

pub returns-in-Ok-clause-first : goal.returns-in-Ok-clause-first
returns-in-Ok-clause-first g c =
    IfOk-weaker c.run_begun.result (λ ran. ran.first ≡ c.in-Ok.noted)
    (λ ran. (ran.first.events ≡ c.args.first.items) × Follows 0 ran.first.told)
    (λ ran same. subst (λ n. (n.events ≡ c.args.first.items) × Follows 0 n.told) (sym same) c.in-Ok.ensures.told)
    c.run_begun.ensures.first

pub returns-in-Ok-clause-named : goal.returns-in-Ok-clause-named
returns-in-Ok-clause-named g c =
    let count = length c.args.works.now in
    IfErr-weaker c.run_begun.result (NamesOneOf count) (IsNamedWithin count)
    (named_within count) c.run_begun.ensures.named

pub returns-in-Ok-clause-full : goal.returns-in-Ok-clause-full
returns-in-Ok-clause-full g c =
    let count = length c.args.works.now in
    let events = vec_len c.args.first in
    IfErr-weaker c.run_begun.result (NamesOneOf count) (IsFullOnlyPast entry_limit events)
    (full_within entry_limit events count) c.run_begun.ensures.named
