use Rattle.std.proofs.Common.{◌≡◌, map, take, Some}
use Rattle.kob_acl_cli.proofs.commands.each_or_any.Given as goal

abbrev pub invariant-loop-item : goal.invariant-loop-item
invariant-loop-item g l = l.made.items ≡ map (λ item. Some item) (take l.item-index l.items)
