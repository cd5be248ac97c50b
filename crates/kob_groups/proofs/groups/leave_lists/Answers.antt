use Rattle.kob_groups.proofs.Words.{ap, is_listed, is_some, lookup, not, offsets_in, same_text, sym, ◌&&◌, ◌∙◌}
use Rattle.kob_groups.proofs.Listings.{none_to_leave}
use Rattle.kob_groups.proofs.Maps.{seen_has}
use Rattle.kob_groups.proofs.groups.leave_lists.Goals as goal

pub returns : goal.returns
returns c = λ t g.
    (let ended = rw c.in-None.is at c.next.ensures.steps in
    none_to_leave (is_listed t g c.loop-topic.lists) (same_text c.args.group.now g)
    ∙ ap (λ rest. is_listed t g c.loop-topic.lists
    && not (same_text c.args.group.now g && is_some (lookup (same_text t) rest))) (sym ended.0)
    ∙ c.loop-topic.invariant t g
    ∙ ap (λ b. is_listed t g c.args.lists.now && not (same_text c.args.group.now g && b))
    (sym (seen_has offsets_in (same_text t) c.args.commits.now.by_topic.entries)))
