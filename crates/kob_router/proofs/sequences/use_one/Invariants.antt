use Rattle.kob_router.proofs.Words.{after_use, drop, has_place, take, true, ◌++◌, ◌≡◌}
use Rattle.kob_router.proofs.sequences.use_one.Given as goal

-- the place is not among those that were passed
abbrev pub invariant-loop-i : goal.invariant-loop-i
invariant-loop-i l = record {
  same : l.sequences ≡ l.fn.sequences;
  rest : take l.i l.sequences ++ after_use (drop l.i l.sequences) l.place ≡ after_use l.sequences l.place;
  some : has_place (drop l.i l.sequences) l.place ≡ true;
}
