use Rattle.kob_script.proofs.Imports.{bytes_eq-Decides, sym, ◌∙◌, ◌≡◌}
use Rattle.kob_script.proofs.LineFaults.{principal_again}
use Rattle.kob_script.proofs.faults.is_of_principal.Goals as goal

pub returns : goal.returns
returns c = λ is.
    let same : c.decoded.result.now ≡ c.as_bytes.result.now = (bytes_eq-Decides _ _).0 (sym c.eq.ensures ∙ is) in
    principal_again c.args.principal.now _ (rw c.as_str.ensures.text at c.as_str.utf8) c.as_str.ensures.valid
    (sym c.decoded.ensures ∙ same ∙ c.as_bytes.ensures.value ∙ c.as_str.ensures.text)
