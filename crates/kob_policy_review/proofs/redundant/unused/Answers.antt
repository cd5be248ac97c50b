use Rattle.std.proofs.Common.{IfOk, List, ap, map, nat_eq, subst, sym, ℕ, ◌==◌, ◌≡◌, ◌∙◌}
use Rattle.std.proofs.lemmas.Result.{IfOk-weaker}
use Rattle.std.specs.HashSet.{contains}
use Rattle.std.specs.List.{filter, list_any}
use Rattle.kob_names.specs.Binding.{Binding}
use Rattle.kob_authorizer.specs.Decide.{Contents, IsRising}
use Rattle.kob_policy_review.proofs.Listing.{lists_outside, unused_outside}
use Rattle.kob_policy_review.specs.Redundancy.{ListsUnused, is_outside, unused_entry, unused_in}
use Rattle.kob_policy_review.proofs.redundant.unused.Goals as goal

pub returns-clause-exact : goal.returns-clause-exact
returns-clause-exact c =
    let is = c.in_ok-finder.ensures in
    let rules : Contents = c.in_ok-finder.finder in
    let given = c.entries-entries.ensures in
    subst (λ (r : Contents). IfOk c.outside.result (λ found. ListsUnused r found.items)) is
    (IfOk-weaker c.outside.result _ _
    (λ found listed.
    lists_outside rules
    (subst (λ (r : Contents). IsRising 1 r.entries r.next) (sym is)
    (subst (λ (es : List (ℕ × Binding)). IsRising 1 es c.args.rules.now.contents.next) given.entries given.rising))
    (contains nat_eq c.in_ok-set.set)
    (λ serial. c.in_ok-set.ensures serial
    ∙ ap (list_any (λ other. other == serial)) (c.as_slice.ensures.value ∙ c.in_ok-serials.ensures))
    found.items
    (subst (λ (es : List (ℕ × Binding)). found.items ≡ map (unused_entry rules)
    (filter (is_outside (contains nat_eq c.in_ok-set.set)) es))
    (given.entries ∙ ap (λ (r : Contents). r.entries) (sym is)) listed))
    c.outside.ensures)

pub returns-clause-listed : goal.returns-clause-listed
returns-clause-listed c =
    let is = c.in_ok-finder.ensures in
    let rules : Contents = c.in_ok-finder.finder in
    subst (λ (r : Contents). IfOk c.outside.result (λ found. found.items ≡ unused_in r)) is
    (IfOk-weaker c.outside.result _ _
    (λ found listed.
    unused_outside rules (contains nat_eq c.in_ok-set.set)
    (λ serial. c.in_ok-set.ensures serial
    ∙ ap (list_any (λ other. other == serial)) (c.as_slice.ensures.value ∙ c.in_ok-serials.ensures))
    found.items
    (subst (λ (es : List (ℕ × Binding)). found.items ≡ map (unused_entry rules)
    (filter (is_outside (contains nat_eq c.in_ok-set.set)) es))
    (c.entries-entries.ensures.entries ∙ ap (λ (r : Contents). r.entries) (sym is)) listed))
    c.outside.ensures)
