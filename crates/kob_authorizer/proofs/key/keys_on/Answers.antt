use Rattle.kob_authorizer.proofs.Words.{[], held, ◌++◌, ◌∙◌, ◌∷◌, ◌≡◌}
use Rattle.kob_authorizer.proofs.key.keys_on.Goals as goal

pub returns : goal.returns
returns c =
    let text : c.as_bytes.result.now ≡ [] = cc in
    c.behind.ensures ∙ (λ i key. held c.args.keys.now (text i ++ c.kind_byte.ensures i ∷ key))
