use Rattle.kob_broker.proofs.Words.{ap, draft_reasons, first_reason, flat_map, sym, ◌∙◌}
use Rattle.kob_rights.specs.declared.request.Request.TheVariants as requests
use Rattle.kob_broker.proofs.Decisions.{refused_makes, first_some}
use Rattle.kob_broker.proofs.broker.Broker.prepare_create_acls.Goals as goal

pub returns-in-Some-clause-ok : goal.returns-in-Some-clause-ok
returns-in-Some-clause-ok c =
    refused_makes c.args.self.now (requests.CreateAcls c.args.create.now) c.refused.result _
    (first_some (flat_map draft_reasons c.args.create.now.drafts) _ _
    (ap (λ drafts. first_reason (flat_map draft_reasons drafts)) (sym c.as_slice-drafts.ensures) ∙ sym c.in-Some.ensures))
    c.refused.ensures.reply c.refused.ensures.change
