use Rattle.kob_policy_text.proofs.Words.{err_from_is_err_and, refl}
use Rattle.kob_policy_text.specs.LogLines.{access_words}
use Rattle.kob_policy_text.proofs.Chains.{fails_at}
use Rattle.kob_policy_text.proofs.log_line.access_words.Goals as goal

pub returns-in_err-access : goal.returns-in_err-access
unfolding access_words
returns-in_err-access c =
    let p = err_from_is_err_and c.from_residual.result c.from_residual.ensures.1 in
    rw (p.1, p.2) (fails_at _ _ _ c.in_err-access.ensures)

pub returns-in_err-front : goal.returns-in_err-front
unfolding access_words
returns-in_err-front c =
    let p = err_from_is_err_and c.from_residual-in_err-front.result c.from_residual-in_err-front.ensures.1 in
    rw (p.1, p.2) (rw c.in_ok-access.ensures (fails_at _ _ _ c.in_err-front.ensures))

pub returns-in_err-principal : goal.returns-in_err-principal
unfolding access_words
returns-in_err-principal c =
    let p = err_from_is_err_and c.from_residual-in_err-principal.result c.from_residual-in_err-principal.ensures.1 in
    rw (p.1, p.2)
    (rw (c.in_ok-access.ensures, c.in_ok-front.ensures) (fails_at _ _ _ c.in_err-principal.ensures))

pub returns-in_err-operation : goal.returns-in_err-operation
unfolding access_words
returns-in_err-operation c =
    let p = err_from_is_err_and c.from_residual-in_err-operation.result c.from_residual-in_err-operation.ensures.1 in
    rw (p.1, p.2)
    (rw (c.in_ok-access.ensures, c.in_ok-front.ensures, c.in_ok-principal.ensures)
    (fails_at _ _ _ c.in_err-operation.ensures))

pub returns-in_err-host : goal.returns-in_err-host
unfolding access_words
returns-in_err-host c =
    let p = err_from_is_err_and c.from_residual-in_err-host.result c.from_residual-in_err-host.ensures.1 in
    rw (p.1, p.2)
    (rw (c.in_ok-access.ensures, c.in_ok-front.ensures, c.in_ok-principal.ensures, c.in_ok-operation.ensures)
    (fails_at _ _ _ c.in_err-host.ensures))

pub returns : goal.returns
unfolding access_words
returns c =
    rw (
      c.in_ok-access.ensures,
      c.in_ok-front.ensures,
      c.in_ok-principal.ensures,
      c.in_ok-operation.ensures,
      c.in_ok-host.ensures,
    )
    refl
