use Rattle.kob_policy_text.proofs.Words.{err_from_is_err_and, refl}
use Rattle.kob_policy_text.specs.Listing.{newer_words}
use Rattle.kob_policy_text.proofs.Chains.{fails_at}
use Rattle.kob_policy_text.proofs.listing.newer_words.Goals as goal

pub returns-in_err-principal : goal.returns-in_err-principal
unfolding newer_words
returns-in_err-principal c =
    let p = err_from_is_err_and c.from_residual-in_err-principal.result c.from_residual-in_err-principal.ensures.1 in
    rw (p.1, p.2)
    (rw (c.in_ok-inside.ensures, c.in_ok-front.ensures, c.in_ok-holder.ensures)
    (fails_at _ _ _ c.in_err-principal.ensures))

pub returns-in_err-one_principal : goal.returns-in_err-one_principal
unfolding newer_words
returns-in_err-one_principal c =
    let p =
    err_from_is_err_and c.from_residual-in_err-one_principal.result
    c.from_residual-in_err-one_principal.ensures.1 in
    rw (p.1, p.2)
    (rw (c.in_ok-inside.ensures, c.in_ok-front.ensures, c.in_ok-holder.ensures, c.in_ok-principal.ensures)
    (fails_at _ _ _ c.in_err-one_principal.ensures))

pub returns : goal.returns
unfolding newer_words
returns c =
    rw (
      c.in_ok-inside.ensures,
      c.in_ok-front.ensures,
      c.in_ok-holder.ensures,
      c.in_ok-principal.ensures,
      c.in_ok-one_principal.ensures,
    )
    refl
