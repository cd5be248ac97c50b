use Rattle.std.proofs.Common.{List, ap, slice_get, sym, ◌∙◌}
use Rattle.std.specs.List.{list_any}
use Rattle.kob_policy_review.proofs.Places.{listed_at}
use Rattle.kob_prefix_tree.specs.Held.{held}
use Rattle.kob_policy_review.specs.Classes.{same_target}
use Rattle.kob_policy_review.specs.Sites.{is_at}
use Rattle.kob_policy_review.specs.declared.class.Target.{Target}
use Rattle.kob_policy_review.proofs.targets.Targets.is_listed.Goals as goal

pub returns : goal.returns
returns c =
    let target : Target = c.args.target.now in
    let made : List Target = c.self.inside.made.items in
    c.is_at_one.ensures
    ∙ ap (λ (xs : List Target). list_any (λ place. is_at target (slice_get xs place)) c.as_slice.result.now)
    (sym c.self.view_is)
    ∙ ap (list_any (λ place. is_at target (slice_get made place)))
    (c.as_slice.ensures.value ∙ c.in_ok-places.ensures
    ∙ ap (λ text. (held c.self.inside.places text).0) c.text_of.ensures)
    ∙ listed_at made c.self.inside.places target c.self.invariant
    ∙ ap (list_any (same_target target)) c.self.view_is
