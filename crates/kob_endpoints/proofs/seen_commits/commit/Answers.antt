use Rattle.std.proofs.Common.{rules}
use Rattle.std.proofs.lemmas.Fn.{filter_same}
use Rattle.kob_endpoints.proofs.Keepings.{with_a_commit}
use Rattle.kob_endpoints.proofs.seen_commits.commit.Goals as goal

pub returns : goal.returns
returns c group place =
    with_a_commit _ group place c.args.commits.now.items c.retain.new.self.items c.push.new.self.items
    (filter_same _ _ _ (λ x b f' k. search rules) _ _ c.retain.ensures.filtered) c.in_ok-push.ensures.items
