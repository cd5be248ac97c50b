use Rattle.std.proofs.lemmas.Grind.{common_steps}
use Rattle.kob_broker.proofs.Words.{Draft, List, None, Option, Reason, ap, arith, draft_reasons, drop, drop_more, first_reason, flat_map, get_or, length, rules, sym, ℕ, ◌++◌, ◌+◌, ◌<◌, ◌∙◌, ◌≡◌}
use Rattle.kob_broker.proofs.Decisions.{first_none, first_some}
use Rattle.kob_broker.proofs.on_acls.against_drafts.Goals as goal

-- the draft at a place, and those behind it
left : (drafts : List Draft) (i : ℕ) (d : Draft) → i < length drafts → d ≡ get_or drafts i d
    → flat_map draft_reasons (drop i drafts) ≡ draft_reasons d ++ flat_map draft_reasons (drop (i + 1) drafts)
left drafts i d within is = grind (arith, common_steps, flat_map, drop_more)

-- a draft that breaks no rule leaves the first that one breaks to those behind it
passed : (drafts : List Draft) (i : ℕ) (d : Draft) (against : Option Reason) → i < length drafts → d ≡ get_or drafts i d
    → against ≡ None → against ≡ first_reason (draft_reasons d)
    → first_reason (flat_map draft_reasons (drop i drafts)) ≡ first_reason (flat_map draft_reasons drafts)
    → first_reason (flat_map draft_reasons (drop (i + 1) drafts)) ≡ first_reason (flat_map draft_reasons drafts)
passed drafts i d against within is none same so_far =
    sym (first_none (draft_reasons d) (flat_map draft_reasons (drop (i + 1) drafts)) (sym same ∙ none))
    ∙ ap first_reason (sym (left drafts i d within is)) ∙ so_far

pub loop-draft-preserved : goal.loop-draft-preserved
loop-draft-preserved c = search (rules, passed c.args.drafts.now c.loop-draft.draft-index)

pub returns-in-Some : goal.returns-in-Some
returns-in-Some c = grind (arith, common_steps, drop_more, first_some, flat_map)
