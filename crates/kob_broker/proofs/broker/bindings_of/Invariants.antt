use Rattle.kob_broker.proofs.Words.{Binding, map, take, ℕ, ◌≡◌}
use Rattle.kob_broker.proofs.broker.bindings_of.Given as goal

abbrev pub invariant-loop-entry : goal.invariant-loop-entry
invariant-loop-entry l = l.bindings.items ≡ map (λ (entry : ℕ × Binding). entry.1) (take l.entry-index l.entries)
