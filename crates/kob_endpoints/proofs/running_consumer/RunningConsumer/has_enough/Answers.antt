use Rattle.kob_endpoints.proofs.Words.{ap, arith, length, length-enumerate_from, length-map, placed_intake, rules, sym, ◌∙◌, ◌≡◌, ◌≤◌}
use Rattle.kob_endpoints.proofs.running_consumer.RunningConsumer.has_enough.Goals as goal

pub returns-clause-has : goal.returns-clause-has
returns-clause-has g c =
    let rows = c.in_ok-taken.field-0.items in
    let inbox = c.args.self.now.inbox in
    let many : length rows ≡ length inbox =
    sym (length-map rows placed_intake) ∙ ap (λ xs. length xs) c.in_ok-taken.ensures.rows ∙ length-enumerate_from 1 inbox
    in (
      λ has. let within : c.args.count ≤ c.len.result = search rules in omega (arith, within, many, c.len.ensures),
      λ enough. search (rules),
    )
