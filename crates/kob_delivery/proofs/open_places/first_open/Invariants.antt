use Rattle.kob_delivery.proofs.Words.{length, take, ℕ, ◌+◌, ◌<◌, ◌≡◌}
use Rattle.kob_shared.specs.Journals.{bindings_after}
use Rattle.kob_delivery.specs.InTurn.{entries_of}
use Rattle.kob_delivery.specs.Reserved.{bindings_on, is_open_to_others}
use Rattle.kob_delivery.proofs.Following.{ReservedAt}
use Rattle.kob_delivery.proofs.open_places.first_open.Given as goal

abbrev pub invariant-loop-journal : goal.invariant-loop-journal
invariant-loop-journal l = record {
  counted : l.before ≡ length (entries_of (take l.journal-index l.journals));
  on : l.bindings.items ≡ bindings_on l.resource l.name (bindings_after l.opening (take l.before (entries_of l.journals)));
  decide : l.others ≡ is_open_to_others l.principal l.operation l.opening.everyone l.bindings.items;
  reserved : (k : ℕ) → k < l.before
      → ReservedAt l.opening l.principal l.operation l.resource l.name (entries_of l.journals) k;
}

abbrev pub invariant-loop-place : goal.invariant-loop-place
invariant-loop-place l = record {
  on : l.bindings.items
      ≡ bindings_on l.resource l.name (bindings_after l.opening (take (l.before + l.place) (entries_of l.journals)));
  decide : l.others ≡ is_open_to_others l.principal l.operation l.opening.everyone l.bindings.items;
  reserved : (k : ℕ) → k < l.before + l.place
      → ReservedAt l.opening l.principal l.operation l.resource l.name (entries_of l.journals) k;
}
