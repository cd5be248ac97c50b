-- Journals that follow one another, the oldest first.
use Rattle.std.specs.Borrow.{Bor}
use Rattle.std.specs.List.{flat_map}
use Rattle.std.specs.Prelude.{List}
use Rattle.kob_delivery.specs.Types.{Entry}

-- the entries of all of them
abbrev pub entries_of : List (Bor (List Entry)) → List Entry
entries_of journals = flat_map (λ journal. journal.now) journals
