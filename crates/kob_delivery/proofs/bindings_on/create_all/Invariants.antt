use Rattle.kob_delivery.proofs.Words.{fold, take, ◌≡◌}
use Rattle.kob_delivery.specs.Reserved.{with_created}
use Rattle.kob_delivery.proofs.bindings_on.create_all.Given as goal

abbrev pub invariant-loop-draft : goal.invariant-loop-draft
invariant-loop-draft l =
    l.bindings.items ≡ fold (with_created l.resource l.name) l.fn.bindings.items (take l.draft-index l.drafts)
