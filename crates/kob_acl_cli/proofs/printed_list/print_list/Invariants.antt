use Rattle.std.proofs.Common.{◌≡◌, take}
use Rattle.std.specs.Str.{IsAscii}
use Rattle.kob_acl_cli.specs.Lines.{list_text}
use Rattle.kob_acl_cli.proofs.printed_list.print_list.Given as goal

abbrev pub invariant-loop-serial : goal.invariant-loop-serial
invariant-loop-serial l =
    (l.out.items ≡ list_text (take l.serial-index l.bindings)) × IsAscii (list_text (take l.serial-index l.bindings))
