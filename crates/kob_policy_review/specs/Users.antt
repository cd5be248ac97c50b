-- The super users that come and go.
use Rattle.std.specs.Prelude.{Bool, List, ℕ, not}
use Rattle.kob_authorizer.specs.Decide.{is_super}

-- a super user that is none before
abbrev pub is_gained : List (List ℕ) → List ℕ → Bool
is_gained supers user = not (is_super supers user)
