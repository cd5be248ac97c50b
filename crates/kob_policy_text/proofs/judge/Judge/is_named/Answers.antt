use Rattle.std.proofs.Common.{List, ap, ℕ, ◌∙◌}
use Rattle.kob_policy_text.proofs.Taken.{named_is}
use Rattle.kob_policy_text.specs.AtHand.{is_known}
use Rattle.kob_policy_text.specs.Hints.{is_named}
use Rattle.kob_policy_text.specs.Policy.{Policy}
use Rattle.kob_policy_text.proofs.judge.Judge.is_named.Goals as goal

pub returns : goal.returns
returns c =
    c.knows.ensures
    ∙ ap (is_known c.self.inside.users) c.as_str.ensures.text
    ∙ ap (λ (us : List (List ℕ)). is_known us c.args.principal.now) c.self.invariant.1.1
    ∙ named_is c.self.inside.policy c.args.principal.now
    ∙ ap (λ (p : Policy). is_named p c.args.principal.now) c.self.view_is
