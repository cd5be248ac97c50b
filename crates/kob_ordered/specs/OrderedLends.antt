-- What a map ends as, where a `&mut` to one of its values is returned.
use Rattle.std.specs.Prelude.{ℕ, List, Option}
use Rattle.std.specs.Borrow.{Fml, Lends, LendsIf, MutBor, RattleType}
use Rattle.kob_ordered.specs.Ordered.{Ordered, name_at, with_value}
use Rattle.kob_ordered.specs.contracts.ordered_map.OrderedMap.{the_row}

-- when the borrow r ends, the name has the value left behind r; at `None` the map stays as it is
abbrev pub lends_value : (V : RattleType) → MutBor (Ordered V.Denot) → List ℕ
    → Option (MutBor V.Denot) → Fml
lends_value V m name r = LendsIf (the_row V) V m r (with_value m.now name) m.now

-- once the borrow r ends, the entry at the place has the value that was left behind r
abbrev pub lends_at : (V : RattleType) → MutBor (Ordered V.Denot) → ℕ → MutBor V.Denot → Fml
lends_at V m place r = Lends (the_row V) V m r (with_value m.now (name_at m.now place))
