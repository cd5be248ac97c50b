use Rattle.kob_inbox.proofs.Words.{None, arrivals, behind, take, taken_in, ◌≡◌}
use Rattle.kob_inbox.proofs.intake.take_all.Given as goal

abbrev pub invariant-loop-at : goal.invariant-loop-at
invariant-loop-at l = record {
  count : l.passed.count ≡ l.at-index;
  fine : l.passed.fault ≡ None;
  taken : l.inbox ≡ taken_in l.fn.inbox (arrivals l.place (take l.at-index l.records));
  behind : l.passed.position ≡ behind l.fn.position (take l.at-index l.records);
}
