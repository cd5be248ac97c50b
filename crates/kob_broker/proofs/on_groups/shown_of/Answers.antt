use Rattle.kob_broker.proofs.Words.{arith, describes_group, filter, filter_same, nat_tests, rules, ◌≡◌}
use Rattle.kob_broker.proofs.on_groups.shown_of.Goals as goal

pub returns-then-not-describes_cluster : goal.returns-then-not-describes_cluster
returns-then-not-describes_cluster c =
    let kept : c.retain.new.self.items ≡ filter (describes_group c.args.authorizer.now.contents c.args.event.now) c.args.names.items =
    filter_same _ _ _ (λ x b f' k. search rules) _ _ c.retain.ensures.filtered in
    grind (arith, nat_tests, kept)
