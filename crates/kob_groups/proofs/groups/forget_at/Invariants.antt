use Rattle.kob_groups.proofs.Words.{groups_in, is_some, lookup, same_text, without_topic_at, ◌≡◌}
use Rattle.kob_groups.proofs.groups.forget_at.Given as goal

-- what is left to forget is forgotten with what was
abbrev pub invariant-loop-name : goal.invariant-loop-name
invariant-loop-name l =
    without_topic_at (λ other. is_some (lookup (same_text other) l.name-iterator)) l.topic (groups_in l.groups.entries)
    ≡ without_topic_at (λ other. is_some (lookup (same_text other) l.names.entries)) l.topic
    (groups_in l.initial.groups.entries)
