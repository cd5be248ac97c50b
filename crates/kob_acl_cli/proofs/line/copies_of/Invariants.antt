use Rattle.std.proofs.Common.{◌≡◌, take}
use Rattle.kob_acl_cli.specs.Lines.{texts}
use Rattle.kob_acl_cli.proofs.line.copies_of.Given as goal

abbrev pub invariant-loop-value : goal.invariant-loop-value
invariant-loop-value l = l.made.items ≡ texts (take l.value-index l.values)
