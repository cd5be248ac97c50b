use Rattle.kob_endpoints.proofs.Words.{IsLegal, OnOk, opened_by, refl, subst, sym}
use Rattle.kob_endpoints.proofs.Entries.{one_journal}
use Rattle.kob_endpoints.proofs.Servings.{on_ok}
use Rattle.kob_endpoints.specs.Running.{HasPremises, IsLacking}
use Rattle.std.specs.Prelude.{IfErr}
use Rattle.kob_endpoints.proofs.reaching.reaches_in_order.Goals as goal

pub returns-clause-premises : goal.returns-clause-premises
returns-clause-premises c =
    subst (λ es. OnOk c.reaches_in_turn.result (HasPremises c.args.sent.now c.args.taken.now es))
    (one_journal c.journal.result c.args.recorded.now.journal c.journal.ensures.value)
    c.reaches_in_turn.ensures.premises

pub returns-clause-reaches : goal.returns-clause-reaches
returns-clause-reaches c =
    let r = c.args.recorded.now in
    let legal = subst (λ es. IsLegal (opened_by r.opening) es r.broker) (sym c.journal.ensures.value)
    c.journal.ensures.sound.legal
    in on_ok c.reaches_in_turn.result _ _ (λ reaches. reaches r.opening r.broker (r.broker, legal, refl))
    c.reaches_in_turn.ensures.in_turn

pub returns-clause-lacking : goal.returns-clause-lacking
returns-clause-lacking c =
    subst (λ es. IfErr c.reaches_in_turn.result (IsLacking c.args.sent.now c.args.taken.now es))
    (one_journal c.journal.result c.args.recorded.now.journal c.journal.ensures.value)
    c.reaches_in_turn.ensures.lacking
