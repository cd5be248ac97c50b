use Rattle.kob_router.proofs.Words.{drop, each_dollar_begins, ◌≡◌}
use Rattle.kob_router.proofs.template.is_template.Given as goal

abbrev pub invariant-loop-at : goal.invariant-loop-at
invariant-loop-at l = each_dollar_begins (drop l.at l.text) ≡ each_dollar_begins l.text
