use Rattle.std.proofs.Common.{Contains, List, ap, subst, sym, ℕ, ◌≡◌, ◌∙◌}
use Rattle.std.proofs.lemmas.Result.{IfOk-weaker}
use Rattle.std.specs.List.{filter}
use Rattle.kob_names.specs.Binding.{Binding}
use Rattle.kob_policy_review.proofs.Asking.{askers_lead_to}
use Rattle.kob_policy_review.proofs.Finding.{same_passing}
use Rattle.kob_policy_review.specs.Classes.{is_for}
use Rattle.kob_policy_review.specs.Finding.{picked}
use Rattle.kob_policy_review.proofs.askers.Askers.asking.Goals as goal

pub returns : goal.returns
returns c =
    let principal = c.args.principal.now in
    let entries : List (ℕ × Binding) = c.self.inside.entries.now in
    let rising = c.self.invariant.0 in
    let near : c.in_ok-near.near.items ≡ picked entries c.in_order-serials.result.items =
    c.in_ok-near.ensures ∙ ap (picked entries) c.as_slice.ensures.value in
    let all : filter (is_for principal) (picked entries c.in_order-serials.result.items)
    ≡ filter (is_for principal) entries =
    same_passing (is_for principal) rising.0 0 entries rising.1 0 c.in_order-serials.result.items
    c.in_order-serials.ensures.rising
    (λ entry there passes. c.in_order-serials.ensures.all entry.0
    (subst (λ (xs : List ℕ). Contains xs entry.0) (sym c.in_ok-named.ensures)
    (askers_lead_to c.self.inside.principals entries c.self.invariant.1 entry there principal passes))) in
    IfOk-weaker c.asking.result _ _
    (λ made is. is ∙ ap (filter (is_for principal)) (c.as_slice-2.ensures.value ∙ near) ∙ all
    ∙ ap (filter (is_for principal)) c.self.view_is) c.asking.ensures
