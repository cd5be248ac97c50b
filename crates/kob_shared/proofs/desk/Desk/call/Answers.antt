use Rattle.std.proofs.Common.{rules}
use Rattle.kob_shared.proofs.Words.{[], ap, arith, length-append, ◌++◌, ◌∙◌, ◌∷◌, ◌≡◌}
use Rattle.kob_shared.proofs.Claims.{rises_push}
use Rattle.kob_shared.proofs.desk.Desk.call.Goals as goal

pub invariant_of-self-2 : goal.invariant_of-self-2
invariant_of-self-2 g c =
    let was = c.self.invariant in
    let old = c.self.inside in
    let event = c.in_ok-noted.noted in
    let receipt = c.in_ok-receipt.receipt in
    let served = c.in_ok-receipt.ensures.ok in
    let events : c.push_reserved.new.self.items ≡ old.events.items ++ event ∷ [] =
    c.push_reserved.ensures.items ∙ ap (λ es. es ++ event ∷ []) (search rules) in
    let told : c.push_reserved-2.new.self.items ≡ old.receipts.items ++ receipt ∷ [] =
    c.push_reserved-2.ensures.items ∙ ap (λ rs. rs ++ receipt ∷ []) (search rules) in (
      rw (events, told) (omega (
        arith,
        length-append old.events.items (event ∷ []),
        length-append old.receipts.items (receipt ∷ []),
        was.0,
      )),
      rw (told, ap (λ s. s.seen) served.1) (rises_push 0 old.receipts.items old.session.seen receipt was.1 served.0),
    )
