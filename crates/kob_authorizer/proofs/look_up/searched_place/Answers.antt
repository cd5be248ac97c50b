use Rattle.kob_authorizer.proofs.Words.{Binding, answers_always, arith, common_steps, rules, ℕ}
use Rattle.kob_authorizer.proofs.Entries.{searched}
use Rattle.kob_authorizer.proofs.look_up.searched_place.Goals as goal

pub returns : goal.returns
returns c =
    let facts = c.binary_search_by_key.ensures in
    let by_serial = facts.position (λ (entry : ℕ × Binding). entry.0) (answers_always _ _ _
    (λ f a r g called. search rules)) in
    let found = searched c.args.entries.now c.requires c.args.serial c.binary_search_by_key.result facts.bound
    by_serial in
    grind (arith, common_steps)
