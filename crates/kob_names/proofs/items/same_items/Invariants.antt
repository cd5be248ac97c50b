use Rattle.std.proofs.Common.{◌≡◌, take}
use Rattle.kob_names.proofs.items.same_items.Given as goal

abbrev pub invariant-loop-place : goal.invariant-loop-place
invariant-loop-place g l = take l.place l.one ≡ take l.place l.two
