use Rattle.kob_authorizer.proofs.Words.{arith, common_steps, fold_push, new_bindings, with_new, [], ◌++◌, ◌∷◌, ◌≡◌}
use Rattle.kob_authorizer.proofs.Creating.{new_count, serials_push}
use Rattle.kob_authorizer.proofs.at_once.new_bindings.Goals as goal

pub loop-binding-preserved : goal.loop-binding-preserved
loop-binding-preserved c =
    let entries = c.args.entries.now in let b = c.in-Some.binding in let done = c.loop-binding.yielded in
    let fresh : new_bindings entries (done ++ b ∷ []) ≡ with_new entries (new_bindings entries done) b =
    fold_push (with_new entries) [] done b in
    let fewer = new_count entries (new_bindings entries done) b in (
      tt,
      tt,
      grind (arith, common_steps),
      λ within. grind (arith, common_steps, serials_push c.args.next entries done b),
    )
