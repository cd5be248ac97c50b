use Rattle.kob_groups.proofs.Words.{List, is_listed, is_some, lookup, not, same_text, ℕ, ◌&&◌, ◌≡◌}
use Rattle.kob_groups.proofs.groups.leave_lists.Given as goal

-- the lists that are left to leave are left with those that were
abbrev pub invariant-loop-topic : goal.invariant-loop-topic
invariant-loop-topic l =
    (t g : List ℕ)
    → (is_listed t g l.lists && not (same_text l.group g && is_some (lookup (same_text t) l.topic-iterator)))
    ≡ (is_listed t g l.initial.lists
    && not (same_text l.group g && is_some (lookup (same_text t) l.commits.by_topic.entries)))
