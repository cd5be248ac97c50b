use Rattle.std.proofs.Common.{ap, ◌∙◌, not}
use Rattle.kob_authorizer.proofs.Words.{State}
use Rattle.kob_authorizer.proofs.Verdicts.{some_given}
use Rattle.kob_authorizer.specs.Decide.{has_match}
use Rattle.kob_authorizer.proofs.authorizer.Authorizer.has_match.Goals as goal

pub returns : goal.returns
returns c =
    ap not c.is_unmatched.ensures
    ∙ some_given c.self.inside.index c.self.inside.entries.entries c.self.invariant.2 c.args.resource c.args.name.now
    ∙ ap (λ (s : State). has_match s.contents.entries c.args.resource c.args.name.now) c.self.view_is
