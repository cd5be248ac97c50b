use Rattle.kob_catalog.proofs.Words.{length, listed_where, ◌≡◌}
use Rattle.kob_catalog.proofs.granted.GrantedTopicsIterator.next.Given as goal

abbrev pub invariant-loop-name : goal.invariant-loop-name
invariant-loop-name g l =
    listed_where (g.D.Decider.granted l.self-inside.decider) l.self-inside.topics
    ≡ listed_where (g.D.Decider.granted l.initial.self-inside.decider) l.initial.self-inside.topics

abbrev pub decreases-loop-name : goal.decreases-loop-name
decreases-loop-name g l = length l.self-inside.topics
