use Rattle.kob_authorizer.proofs.Words.{append-nil, arith, common_steps, rules}
use Rattle.std.specs.Option.{option_copied}
use Rattle.kob_authorizer.proofs.Deleting.{found_more}
use Rattle.kob_authorizer.proofs.deletion.copies_at.Goals as goal

pub loop-serial-preserved : goal.loop-serial-preserved
loop-serial-preserved c =
    let more = found_more c.args.filter.now c.args.entries.now c.args.serials.now c.loop-serial.serial-index 0
    (search rules) (option_copied c.entry_of.result) c.entry_of.ensures in
    grind (arith, common_steps, append-nil)
