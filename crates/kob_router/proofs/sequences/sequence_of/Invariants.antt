use Rattle.kob_router.proofs.Words.{drop, sequence_of, ◌≡◌}
use Rattle.kob_router.proofs.sequences.sequence_of.Given as goal

abbrev pub invariant-loop-sequence : goal.invariant-loop-sequence
invariant-loop-sequence l = sequence_of (drop l.sequence-index l.sequences) l.place ≡ sequence_of l.sequences l.place
