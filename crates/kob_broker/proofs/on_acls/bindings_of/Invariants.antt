use Rattle.kob_broker.proofs.Words.{None, draft_reasons, drop, first_reason, flat_map, take, ◌≡◌}
use Rattle.kob_broker.proofs.on_acls.bindings_of.Given as goal

-- the drafts so far are bindings, and those that are left break no rule
abbrev pub invariant-loop-draft : goal.invariant-loop-draft
invariant-loop-draft l = record {
  made : l.bindings.items ≡ take l.draft-index l.drafts;
  allowed : first_reason (flat_map draft_reasons (drop l.draft-index l.drafts)) ≡ None;
}
