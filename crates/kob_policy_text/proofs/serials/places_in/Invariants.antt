use Rattle.std.proofs.Common.{nat_eq, position, take, ◌==◌, ◌≡◌, ℕ}
use Rattle.std.specs.HashMap.{get}
use Rattle.kob_policy_text.proofs.serials.places_in.Given as goal

abbrev pub invariant-loop-place : goal.invariant-loop-place
invariant-loop-place l =
    (serial : ℕ) → get nat_eq l.places serial ≡ position (λ other. other == serial) (take l.place l.serials)
