use Rattle.kob_script.proofs.Imports.{arith, drop, length, length-drop, rules, take_all, ◌-◌}
use Rattle.kob_script.proofs.LineFaults.{asker_before_others}
use Rattle.kob_script.proofs.faults.check_line.Goals as goal

pub returns : goal.returns
returns c =
    let words = c.args.words.now in
    let others = take_all (length words - 3) (drop 3 words) (omega (arith, length-drop 3 words)) in
    asker_before_others words c.principal-item.result c.host-item.result c.command-item.result
    c.in_ok-places.places.now _ (search rules) c.principal-item.is c.host-item.is c.command-item.is (search rules)
    (rw others at (c.first_error.ensures _ _ c.check_asker.ensures.fault c.check_words-others.ensures))
