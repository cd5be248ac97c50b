-- How often a row stands on a partition.
use Rattle.std.specs.Prelude.{ℕ, ◌+◌, List, [], ◌∷◌, filter, length, bytes_eq}
use Rattle.std.specs.List.{filter_map}
use Rattle.kob_delivery.specs.Types.{Record, Move}
use Rattle.kob_delivery.specs.Delivered.{carried_id}
use Rattle.kob_router.specs.Run.Move.{Restarted}

-- how often the router was started again among the moves of a service
abbrev pub restarts_of : List Move → ℕ
restarts_of [] = 0
restarts_of (Restarted ∷ moves) = restarts_of moves + 1
restarts_of (_ ∷ moves) = restarts_of moves

-- how many of the records carry the event id
abbrev pub copies_of : List ℕ → List Record → ℕ
copies_of id records = length (filter (bytes_eq id) (filter_map carried_id records))
