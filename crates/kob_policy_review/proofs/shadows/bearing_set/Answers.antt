use Rattle.std.proofs.Common.{ap, ◌==◌, ◌∙◌}
use Rattle.std.proofs.lemmas.Result.{IfOk-weaker}
use Rattle.std.specs.List.{list_any}
use Rattle.kob_policy_review.proofs.shadows.bearing_set.Goals as goal

pub returns : goal.returns
returns c =
    IfOk-weaker c.set_of.result _ _
    (λ set is serial. is serial
    ∙ ap (list_any (λ other. other == serial)) (c.as_slice.ensures.value ∙ c.in_ok-serials.ensures))
    c.set_of.ensures
