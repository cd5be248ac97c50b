use Rattle.std.proofs.Common.{IfOk, List, ap, map, nat_eq, subst, sym, ℕ, ◌≡◌, ◌∙◌}
use Rattle.std.proofs.lemmas.Result.{IfOk-weaker}
use Rattle.std.specs.HashSet.{contains}
use Rattle.std.specs.List.{filter}
use Rattle.kob_names.specs.Binding.{Binding}
use Rattle.kob_authorizer.specs.Decide.{Contents, IsRising}
use Rattle.kob_policy_review.proofs.Shadowing.{between_are, lists_between}
use Rattle.kob_policy_review.specs.Shadows.{ListsShadowed, is_between, serial_of_entry, shadowed_in}
use Rattle.kob_policy_review.proofs.shadows.shadowed.Goals as goal

pub returns-clause-exact : goal.returns-clause-exact
returns-clause-exact c =
    let is = c.in_ok-finder.ensures in
    let rules : Contents = c.in_ok-finder.finder in
    let given = c.entries-entries.ensures in
    subst (λ (r : Contents). IfOk c.between.result (λ found. ListsShadowed r found.items)) is
    (IfOk-weaker c.between.result _ _
    (λ found listed.
    lists_between rules
    (subst (λ (r : Contents). IsRising 1 r.entries r.next) (sym is)
    (subst (λ (es : List (ℕ × Binding)). IsRising 1 es c.args.rules.now.contents.next) given.entries given.rising))
    (contains nat_eq c.in_ok-some.some) (contains nat_eq c.in_ok-others.others)
    c.in_ok-some.ensures c.in_ok-others.ensures
    found.items
    (subst (λ (es : List (ℕ × Binding)). found.items ≡ map serial_of_entry
    (filter (is_between (contains nat_eq c.in_ok-some.some) (contains nat_eq c.in_ok-others.others)) es))
    (given.entries ∙ ap (λ (r : Contents). r.entries) (sym is)) listed))
    c.between.ensures)

pub returns-clause-listed : goal.returns-clause-listed
returns-clause-listed c =
    let is = c.in_ok-finder.ensures in
    let rules : Contents = c.in_ok-finder.finder in
    let given = c.entries-entries.ensures in
    subst (λ (r : Contents). IfOk c.between.result (λ found. found.items ≡ shadowed_in r)) is
    (IfOk-weaker c.between.result _ _
    (λ found listed.
    between_are rules
    (contains nat_eq c.in_ok-some.some) (contains nat_eq c.in_ok-others.others)
    c.in_ok-some.ensures c.in_ok-others.ensures
    found.items
    (subst (λ (es : List (ℕ × Binding)). found.items ≡ map serial_of_entry
    (filter (is_between (contains nat_eq c.in_ok-some.some) (contains nat_eq c.in_ok-others.others)) es))
    (given.entries ∙ ap (λ (r : Contents). r.entries) (sym is)) listed))
    c.between.ensures)
