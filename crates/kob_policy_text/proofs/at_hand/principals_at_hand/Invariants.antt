use Rattle.kob_policy_text.proofs.Words.{[], codes, fold, take, with_principal, ◌∷◌, ◌≡◌}
use Rattle.kob_policy_text.proofs.at_hand.principals_at_hand.Given as goal

abbrev pub invariant-loop-binding : goal.invariant-loop-binding
invariant-loop-binding l =
    l.made ≡ fold with_principal (codes "User:*" ∷ []) (take l.binding-index l.bindings)
