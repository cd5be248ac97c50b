use Rattle.kob_endpoints.proofs.Words.{events_of, take, ◌++◌, ◌≡◌}
use Rattle.std.specs.List.{All}
use Rattle.kob_endpoints.proofs.opening.serve_all.Given as goal

abbrev pub invariant-loop-event : goal.invariant-loop-event
invariant-loop-event l = record {
  events : events_of l.recorded.journal ≡ events_of l.fn.recorded.journal ++ take l.event-index l.events;
  limit : l.recorded.limit ≡ l.fn.recorded.limit;
  opening : l.recorded.opening ≡ l.fn.recorded.opening;
  workers : All (λ x. x.worker ≡ 0) l.fn.recorded.journal → All (λ x. x.worker ≡ 0) l.recorded.journal;
}
