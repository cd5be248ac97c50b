-- The places that a session is told of.
use Rattle.kob_shared.proofs.Words.{IfOk, Receipt, Result, subst, sym, ℕ, ◌≡◌, ◌<◌, ◌≤◌}
use Rattle.kob_shared.specs.Sessions.{places_of}
use Rattle.kob_shared.specs.declared.session.Shared.{Shared}

-- a place below the most that a broker's journals have is below that of the shared broker that it is
pub within_places : {E : Type 0} (shared is : Shared) (limit seen : ℕ) (result : Result Receipt E) → shared ≡ is
    → places_of is ≡ limit → IfOk result (λ r. (seen ≤ r.place) × (r.place < limit))
    → IfOk result (λ r. (seen ≤ r.place) × (r.place < places_of shared))
within_places shared is limit seen result same most below =
    subst (λ at. IfOk result (λ r. (seen ≤ r.place) × (r.place < places_of at))) (sym same)
    (subst (λ n. IfOk result (λ r. (seen ≤ r.place) × (r.place < n))) (sym most) below)
