use Rattle.std.proofs.Common.{arith, append_assoc, take}
use Rattle.std.proofs.lemmas.Grind.{common_steps}
use Rattle.std.proofs.lemmas.Str.{IsUtf8-from_ascii}
use Rattle.kob_acl_cli.proofs.AsciiList.{list_ascii_more}
use Rattle.kob_acl_cli.specs.Lines.{list_text}
use Rattle.kob_acl_cli.proofs.printed_list.print_list.Goals as goal

pub loop-serial-preserved : goal.loop-serial-preserved
loop-serial-preserved c = (
  grind (arith, common_steps, append_assoc),
  list_ascii_more c.args.bindings.now c.loop-serial.serial-index c.loop-serial-item.result c.loop-serial-test.true
      c.loop-serial-item.is c.loop-serial.invariant.1 c.in_ok-push_line.ensures.ascii,
)

pub unwrap-requires : goal.unwrap-requires
unwrap-requires c =
    c.from_utf8.ensures.succeeds
    (rw c.loop-serial.invariant.0 (IsUtf8-from_ascii
    (list_text (take c.loop-serial.serial-index c.args.bindings.now)) c.loop-serial.invariant.1))
