use Rattle.std.proofs.Common.{Some, arith, rules, slice_get, ◌≡◌}
use Rattle.std.proofs.lemmas.Grind.{common_steps}
use Rattle.kob_script_run.proofs.PrintedRecords.{record_put}
use Rattle.kob_script_run.proofs.lent.push_records.Goals as goal

pub loop-at-preserved : goal.loop-at-preserved
loop-at-preserved c =
    let there : Some c.unwrap-record.result.now ≡ slice_get c.args.records.now.records c.loop-at.at =
    grind (arith, common_steps) in
    record_put c.first-first.result c.loop-at.at c.args.records.now.records c.unwrap-record.result.now there
    c.args.out.now.items c.loop-at.out.items c.push_record.new.out.items c.loop-at.invariant (search rules)
