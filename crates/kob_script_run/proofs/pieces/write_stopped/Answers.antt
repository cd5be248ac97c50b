use Rattle.kob_script_run.proofs.Words.{AppendsPart, codes, decimal, refl, subst, sym, ◌++◌, ◌∙◌, ◌≡◌}
use Rattle.kob_script_run.proofs.Parts.{all_written, is_err, on_ok, on_err, goes_on, part_with_more, part_of_front, part_of_held, same_text, three_parts}
use Rattle.kob_script_run.proofs.pieces.write_stopped.Goals as goal

pub returns-in_err-put-clause-part : goal.returns-in_err-put-clause-part
returns-in_err-put-clause-part g c =
    let held = c.args.held.now.items in
    let one = codes "stopped after " in
    let two = decimal c.args.done in
    let three = codes "\n" in
    is_err c.from_residual.result
    (subst (AppendsPart _ _) (sym (three_parts held one two three two refl))
    (part_of_front _ _ ((held ++ one) ++ two) three (part_of_front _ _ (held ++ one) two c.in_err-put.ensures.part)))

pub returns-in_err-put-2-clause-part : goal.returns-in_err-put-2-clause-part
returns-in_err-put-2-clause-part g c =
    let held = c.args.held.now.items in
    let one = codes "stopped after " in
    let two = c.as_bytes.result.now in
    let three = codes "\n" in
    let is : two ≡ decimal c.args.done = c.as_bytes.ensures.value ∙ c.format.ensures.text in
    is_err c.from_residual-in_err-put-2.result
    (subst (AppendsPart _ _) (sym (three_parts held one two three (decimal c.args.done) is))
    (part_of_front _ _ ((held ++ one) ++ two) three
    (part_with_more _ _ _ (held ++ one) _ c.in_ok-put.ensures.put two c.in_err-put-2.ensures.part)))

pub returns-in_err-put-3-clause-part : goal.returns-in_err-put-3-clause-part
returns-in_err-put-3-clause-part g c =
    let held = c.args.held.now.items in
    let one = codes "stopped after " in
    let two = c.as_bytes.result.now in
    let three = codes "\n" in
    let is : two ≡ decimal c.args.done = c.as_bytes.ensures.value ∙ c.format.ensures.text in
    let two_put = goes_on _ _ _ (held ++ one) _ c.in_ok-put.ensures.put two _ c.in_ok-put-2.ensures.put in
    is_err c.from_residual-in_err-put-3.result
    (subst (AppendsPart _ _) (sym (three_parts held one two three (decimal c.args.done) is))
    (part_with_more _ _ _ ((held ++ one) ++ two) _ two_put three c.in_err-put-3.ensures.part))

pub returns-clause-whole : goal.returns-clause-whole
returns-clause-whole g c =
    let held = c.args.held.now.items in
    let one = codes "stopped after " in
    let two = c.as_bytes.result.now in
    let three = codes "\n" in
    let is : two ≡ decimal c.args.done = c.as_bytes.ensures.value ∙ c.format.ensures.text in
    let two_put = goes_on _ _ _ (held ++ one) _ c.in_ok-put.ensures.put two _ c.in_ok-put-2.ensures.put in
    let all =
    same_text _ _ _ _ _ (sym (three_parts held one two three (decimal c.args.done) is))
    (goes_on _ _ _ ((held ++ one) ++ two) _ two_put three _ c.in_ok-put-3.ensures.put) in
    on_ok c.write_all.result (all_written _ _ _ _ c.put-3.new.held.items all)
    (rw c.deref.ensures.value at c.write_all.ensures.whole)

pub returns-clause-part : goal.returns-clause-part
returns-clause-part g c =
    let held = c.args.held.now.items in
    let one = codes "stopped after " in
    let two = c.as_bytes.result.now in
    let three = codes "\n" in
    let is : two ≡ decimal c.args.done = c.as_bytes.ensures.value ∙ c.format.ensures.text in
    let two_put = goes_on _ _ _ (held ++ one) _ c.in_ok-put.ensures.put two _ c.in_ok-put-2.ensures.put in
    let all =
    same_text _ _ _ _ _ (sym (three_parts held one two three (decimal c.args.done) is))
    (goes_on _ _ _ ((held ++ one) ++ two) _ two_put three _ c.in_ok-put-3.ensures.put) in
    on_err c.write_all.result (part_of_held _ _ _ _ c.put-3.new.held.items all)
    (rw c.deref.ensures.value at c.write_all.ensures.part)
