use Rattle.std.proofs.Common.{Contains, List, ap, slice_get, subst, sym, ◌∙◌, ℕ}
use Rattle.std.proofs.lemmas.Result.{IfOk-weaker}
use Rattle.std.specs.List.{list_any}
use Rattle.kob_names.specs.Binding.{Binding}
use Rattle.kob_authorizer.specs.Decide.{Contents}
use Rattle.kob_policy_review.proofs.Removing.{at_rows, needed_is_at}
use Rattle.kob_policy_review.specs.Redundancy.{is_needed}
use Rattle.kob_policy_review.specs.Removal.{is_among, without_all}
use Rattle.kob_policy_review.specs.Sites.{LeadsToRows, is_needed_of, places_in}
use Rattle.kob_policy_review.proofs.sites.Sites.is_needed.Goals as goal

pub returns : goal.returns
returns c =
    let rules : Contents = c.self.inside.finder in
    let is = c.self.view_is in
    let entry : ℕ × Binding = c.args.entry.now in
    let gone : List ℕ = c.args.gone.now in
    let near = c.self.inside.near.items in
    let found_places = c.as_slice-2.ensures.value ∙ c.in_ok-places.ensures in
    IfOk-weaker c.is_needed_at_one.result _ _
    (λ needed found.
    found
    ∙ ap (λ (r : Contents). list_any
    (λ place. is_needed_of r (is_among gone) entry (slice_get c.as_slice.result.now place))
    c.as_slice-2.result.now) c.rules-rules.ensures
    ∙ ap (λ vecs. list_any (λ place. is_needed_of rules (is_among gone) entry (slice_get vecs place))
    c.as_slice-2.result.now) c.as_slice.ensures.value
    ∙ ap (list_any (λ place. is_needed_of rules (is_among gone) entry (slice_get near place))) found_places
    ∙ at_rows rules (is_among gone) entry near c.self.invariant.1 (places_in c.self.inside.places entry.0)
    ∙ needed_is_at rules c.self.invariant.0 (is_among gone) entry
    (subst (λ (r : Contents). Contains r.entries entry) (sym is) c.requires) c.self.inside.places
    (subst (λ rows. LeadsToRows rows c.self.inside.places) c.self.invariant.1 c.self.invariant.2)
    ∙ ap (λ (r : Contents). is_needed (without_all gone r) entry.0) is)
    c.is_needed_at_one.ensures
