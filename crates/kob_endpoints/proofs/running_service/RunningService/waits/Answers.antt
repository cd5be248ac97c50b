use Rattle.kob_endpoints.proofs.Words.{arith, length, map, rules, ◌<◌, ◌≡◌, ◌↔◌}
use Rattle.std.specs.Prelude.{IsSome}
use Rattle.kob_endpoints.proofs.Endings.{one_is_read}
use Rattle.kob_outbox.specs.Contents.{first_after, stored_row}
use Rattle.kob_router.specs.Run.{next_row}
use Rattle.kob_endpoints.proofs.running_service.RunningService.waits.Goals as goal

pub returns-clause-waits : goal.returns-clause-waits
returns-clause-waits g c =
    let outbox = c.args.self.now.relayed.outbox in
    let rows = c.in_ok-first.first.items in
    let read : map stored_row rows ≡ first_after c.in_ok-mark.mark 1 outbox.events = search rules in
    let one : (0 < length rows) ↔ IsSome (next_row outbox) =
    one_is_read rows c.in_ok-mark.mark outbox c.in_ok-mark.ensures.value read in (
      λ waits.
          let within : 0 < c.len.result = search rules in
          one.0 (omega (arith, within, c.len.ensures)),
      λ some.
          let within = one.1 some in
          let many : 0 < c.len.result = omega (arith, within, c.len.ensures) in search rules,
    )
