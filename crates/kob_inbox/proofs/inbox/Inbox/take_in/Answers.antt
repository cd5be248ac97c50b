use Rattle.kob_inbox.proofs.Words.{ap, arith, common_steps, id_text, inl, ◌∙◌}
use Rattle.kob_inbox.proofs.Intakes.{stored}
use Rattle.kob_inbox.proofs.inbox.Inbox.take_in.Goals as goal

pub returns-then-branch-eq0-clause-answer : goal.returns-then-branch-eq0-clause-answer
returns-then-branch-eq0-clause-answer c = grind (arith, common_steps)

pub returns-clause-answer : goal.returns-clause-answer
returns-clause-answer c = grind (arith, common_steps)

pub returns-in_err-insert_intake-clause-store : goal.returns-in_err-insert_intake-clause-store
returns-in_err-insert_intake-clause-store c = λ h.
    inl (stored c.self.view_is c.in-Some.ensures (c.encode_lower-id.ensures.text ∙ ap id_text c.hyphenated.ensures)
    c.from_residual.result c.in_err-insert_intake.field-0.0 c.from_residual.ensures.1
    c.in_err-insert_intake.ensures.again h)
