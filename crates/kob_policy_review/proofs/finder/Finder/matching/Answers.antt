use Rattle.std.proofs.Common.{Contains, List, ap, subst, sym, ℕ, ◌≡◌, ◌∙◌}
use Rattle.std.proofs.lemmas.Result.{IfOk-weaker}
use Rattle.kob_names.specs.Binding.{Binding}
use Rattle.kob_policy_review.proofs.Asking.{still_rising}
use Rattle.kob_policy_review.proofs.Finding.{all_on}
use Rattle.kob_policy_review.specs.Classes.{is_on}
use Rattle.std.specs.List.{filter}
use Rattle.kob_policy_review.specs.Finding.{picked}
use Rattle.kob_authorizer.specs.Decide.{Contents, IsRising}
use Rattle.kob_authorizer.specs.Index.{AreRising, matching_serials}
use Rattle.kob_prefix_tree.specs.Held.{held}
use Rattle.kob_policy_review.proofs.finder.Finder.matching.Goals as goal
use Rattle.kob_policy_review.proofs.finder.Finder.matching.Goals.{In_ok-near}

rising : (c : In_ok-near)
    → IsRising 1 c.self.inside.rules.now.contents.entries c.self.inside.rules.now.contents.next
rising c =
    subst (λ (es : List (ℕ × Binding)). IsRising 1 es c.self.inside.rules.now.contents.next)
    c.entries.ensures.entries c.entries.ensures.rising

-- what is picked has all entries on the target
all_picked : (c : In_ok-near)
    → filter (is_on c.args.target.now) c.in_ok-near.near.items
    ≡ filter (is_on c.args.target.now) c.self.inside.rules.now.contents.entries
all_picked c =
    ap (filter (is_on c.args.target.now))
    (c.in_ok-near.ensures ∙ (λ i. picked (c.entries.ensures.entries i) (c.as_slice.ensures.value i)))
    ∙ all_on c.self.inside.names c.self.inside.rules.now.contents.next c.self.inside.rules.now.contents.entries
    c.self.invariant (rising c) c.args.target.now c.in_order-serials.result.items c.in_order-serials.ensures.rising
    (λ serial there. c.in_order-serials.ensures.all serial
    (subst (λ (xs : List ℕ). Contains xs serial)
    (sym (c.in_ok-walked.ensures ∙ ap (matching_serials (held c.self.inside.names)) c.text_of.ensures)) there))

pub returns-clause-on : goal.returns-clause-on
returns-clause-on c =
    IfOk-weaker c.matching.result _ _
    (λ made is. is ∙ ap (filter (is_on c.args.target.now)) c.as_slice-2.ensures.value
    ∙ all_picked (goal.at.returns-clause-on c).In_ok-near
    ∙ ap (λ (r : Contents). filter (is_on c.args.target.now) r.entries) c.self.view_is) c.matching.ensures

pub returns-clause-rising : goal.returns-clause-rising
returns-clause-rising c =
    let near = (goal.at.returns-clause-rising c).In_ok-near in
    IfOk-weaker c.matching.result _ _
    (λ made is. subst AreRising (sym (is ∙ ap (filter (is_on c.args.target.now)) c.as_slice-2.ensures.value
    ∙ all_picked near))
    (still_rising (is_on c.args.target.now) 1 c.self.inside.rules.now.contents.next
    c.self.inside.rules.now.contents.entries (rising near))) c.matching.ensures
