use Rattle.kob_producers.proofs.Words.{find, is_same, ◌≡◌}
use Rattle.kob_producers.proofs.judge.find_same.Given as goal

abbrev pub invariant-loop-sent : goal.invariant-loop-sent
invariant-loop-sent l =
    (goal.iterator-loop-sent).can_next l.sent-iterator ×
    (goal.iterator-loop-sent).is_finite l.sent-iterator ×
    (find (is_same l.idem l.count) l.ring.items ≡ find (is_same l.idem l.count) l.sent-iterator)
