use Rattle.std.proofs.Common.{List, ap, subst, ◌∙◌, ℕ}
use Rattle.kob_names.specs.Binding.{Binding}
use Rattle.kob_authorizer.specs.Decide.{Contents, IsRising}
use Rattle.kob_policy_review.proofs.Going.{lists_all}
use Rattle.kob_policy_review.specs.Removal.{removable_in}
use Rattle.kob_policy_review.proofs.removal.removable.Goals as goal

pub returns-clause-exact : goal.returns-clause-exact
returns-clause-exact c =
    let rules : Contents = c.args.rules.now.contents in
    let given = c.entries.ensures in
    lists_all rules (subst (λ (es : List (ℕ × Binding)). IsRising 1 es rules.next) given.entries given.rising)
    c.into_vec.result.items
    (c.into_vec.ensures ∙ c.in_ok-gone.ensures ∙ ap removable_in c.in_ok-sites.ensures)
