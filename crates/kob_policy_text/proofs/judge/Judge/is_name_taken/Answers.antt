use Rattle.std.proofs.Common.{ap, ◌∙◌}
use Rattle.kob_authorizer.specs.Decide.{Contents, has_match}
use Rattle.kob_policy_text.proofs.Taken.{name_taken_is}
use Rattle.kob_policy_text.specs.Hints.{is_name_taken}
use Rattle.kob_policy_text.specs.Policy.{Policy}
use Rattle.kob_policy_text.proofs.judge.Judge.is_name_taken.Goals as goal

pub returns : goal.returns
returns c =
    c.has_match.ensures
    ∙ ap (λ (held : Contents). has_match held.entries c.args.resource c.args.name.now) c.self.invariant.0
    ∙ name_taken_is c.self.inside.policy c.args.resource c.args.name.now
    ∙ ap (λ (p : Policy). is_name_taken p c.args.resource c.args.name.now) c.self.view_is
