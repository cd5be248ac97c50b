use Rattle.std.proofs.Common.{List, ap, map, subst, sym, ◌∙◌, ℕ}
use Rattle.kob_names.specs.Binding.{Binding}
use Rattle.kob_authorizer.specs.Decide.{Contents, IsRising}
use Rattle.kob_policy_review.specs.Classes.{targets_named}
use Rattle.kob_policy_review.specs.Sites.{LeadsToRows, row_on, rows_of}
use Rattle.kob_policy_review.proofs.sites.Sites.of.Goals as goal

pub invariant_of-result : goal.invariant_of-result
invariant_of-result c =
    let rules : Contents = c.args.rules.now.contents in
    let found : Contents = c.in_ok-finder.finder in
    let is = c.in_ok-finder.ensures in
    let given = c.entries.ensures in (
      subst (λ (r : Contents). IsRising 1 r.entries r.next) (sym is)
          (subst (λ (es : List (ℕ × Binding)). IsRising 1 es rules.next) given.entries given.rising),
      c.in_ok-near.ensures
          ∙ ap (map (row_on found.entries)) (c.as_slice.ensures.value ∙ c.in_ok-targets.ensures
          ∙ ap targets_named (given.entries ∙ ap (λ (r : Contents). r.entries) (sym is))),
      subst (λ vecs. LeadsToRows (rows_of vecs) c.in_ok-places.places) c.as_slice-2.ensures.value
          c.in_ok-places.ensures,
    )
