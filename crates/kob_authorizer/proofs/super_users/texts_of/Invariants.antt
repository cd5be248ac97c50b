use Rattle.kob_authorizer.proofs.Words.{fold, take, with_text, ◌≡◌}
use Rattle.std.specs.FinMap as map
use Rattle.kob_authorizer.proofs.super_users.texts_of.Given as goal

abbrev pub invariant-loop-user : goal.invariant-loop-user
invariant-loop-user l = l.texts ≡ fold with_text map.empty (take l.user-index l.users)
