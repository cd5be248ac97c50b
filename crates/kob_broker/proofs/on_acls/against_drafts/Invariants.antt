use Rattle.kob_broker.proofs.Words.{draft_reasons, drop, first_reason, flat_map, ◌≡◌}
use Rattle.kob_broker.proofs.on_acls.against_drafts.Given as goal

-- the first rule that one of all drafts breaks is broken by what is left
abbrev pub invariant-loop-draft : goal.invariant-loop-draft
invariant-loop-draft l =
    first_reason (flat_map draft_reasons (drop l.draft-index l.drafts))
    ≡ first_reason (flat_map draft_reasons l.drafts)
