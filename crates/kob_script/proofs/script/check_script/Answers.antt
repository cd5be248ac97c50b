use Rattle.kob_script.proofs.Imports.{Err, List, [], ap, arith, concat, drop, drop_of_length-le, length, lines_in, lines_in_blocks, refl, rules, subst, sym, ℕ, ◌++◌, ◌+◌, ◌<◌, ◌∙◌, ◌≡◌, ◌≤◌}
use Rattle.kob_script.proofs.CheckedLines.{block_lines, Stands, all_counted, all_read, one_reading, stands_first, stands_next, stops, reads_plain}
use Rattle.kob_script.proofs.script.check_script.Goals as goal

pub loop-block-init : goal.loop-block-init
loop-block-init c =
    stands_first c.args.blocks.items _ c.new-answers.result.items c.requires.whole c.new.ensures.items refl refl
    c.new-answers.ensures.items

pub loop-line-init : goal.loop-line-init
loop-line-init c =
    let blocks = c.args.blocks.items in
    let at = c.loop-block.block-index in
    let long = ap length c.as_slice-block-items.ensures.value in
    let below : at < length blocks = omega (arith, long) in
    let given : c.into_iter-line-iterator.result ≡ lines_in c.block-item.result =
    c.into_iter-line-iterator.ensures.into_iter_gives ∙ c.lines-line-items.ensures.value ∙ ap lines_in c.as_slice.ensures in
    let later = lines_in_blocks (drop (at + 1) blocks) in
    let rest : lines_in_blocks (drop at blocks) ≡ c.into_iter-line-iterator.result ++ later =
    block_lines blocks at c.block-item.result below (rw c.as_slice-block-items.ensures.value at c.block-item.is)
    ∙ ap (λ (lines : List (List ℕ)). lines ++ later) (sym given) in
    subst (Stands _ c.loop-block.checking c.loop-block.answers.items c.loop-block.number) rest c.loop-block.invariant

pub overflow_add-number : goal.overflow_add-number
overflow_add-number c =
    let later = lines_in_blocks (drop (c.loop-block.block-index + 1) c.args.blocks.items) in
    let count = ap (λ (lines : List (List ℕ)). length (lines ++ later)) c.in-Some.ensures.steps in
    omega (arith, count, c.loop-line.invariant.few, c.requires.short)

pub loop-line-preserved : goal.loop-line-preserved
loop-line-preserved c =
    let later = lines_in_blocks (drop (c.loop-block.block-index + 1) c.args.blocks.items) in
    stands_next _ c.loop-line.checking c.check_line.new.checking c.loop-line.answers.items c.check_line.new.answers.items
    c.loop-line.number _ c.in-Some.line.now (c.next.new.self ++ later) c.loop-line.invariant
    (ap (λ (lines : List (List ℕ)). lines ++ later) c.in-Some.ensures.steps) (search rules)

pub returns-in-Err-clause-any : goal.returns-in-Err-clause-any
returns-in-Err-clause-any c =
    let later = lines_in_blocks (drop (c.loop-block.block-index + 1) c.args.blocks.items) in
    rw c.fault_at.ensures
    (stops c.args.blocks.items c.loop-line.checking c.check_line.new.checking c.loop-line.answers.items
    c.check_line.new.answers.items c.loop-line.number _ c.in-Some.line.now (c.next.new.self ++ later)
    c.loop-line.invariant (ap (λ (lines : List (List ℕ)). lines ++ later) c.in-Some.ensures.steps) _ c.in-Err.ensures)

pub returns-in-Err-clause-plain : goal.returns-in-Err-clause-plain
returns-in-Err-clause-plain c = reads_plain _ (Err c.fault_at.result) (returns-in-Err-clause-any c)

pub loop-block-preserved : goal.loop-block-preserved
loop-block-preserved c =
    let later = lines_in_blocks (drop (c.loop-block.block-index + 1) c.args.blocks.items) in
    subst (Stands _ c.loop-line.checking c.loop-line.answers.items c.loop-line.number)
    (ap (λ (lines : List (List ℕ)). lines ++ later) c.in-None.ensures.steps.0) c.loop-line.invariant

no_blocks : (blocks : List (List ℕ)) (given : List (List ℕ)) (at : ℕ) → given ≡ blocks → length given ≤ at
    → lines_in_blocks (drop at blocks) ≡ []
no_blocks blocks given at same past =
    let long = ap length same in ap lines_in_blocks (drop_of_length-le blocks {i = at} (omega (arith, long, past)))

pub new-requires-3 : goal.new-requires-3
new-requires-3 c =
    all_counted _ c.loop-block.checking c.loop-block.answers.items c.loop-block.number _ c.loop-block.invariant
    (no_blocks c.args.blocks.items _ _ c.as_slice-block-items.ensures.value (omega arith))

pub returns-clause-any : goal.returns-clause-any
returns-clause-any c =
    all_read c.args.blocks.items c.loop-block.checking c.loop-block.answers.items c.loop-block.number _
    c.loop-block.invariant (no_blocks c.args.blocks.items _ _ c.as_slice-block-items.ensures.value (omega arith)) _
    _ c.new-3.ensures (rw (c.from_vec.ensures, c.from_vec-2.ensures, c.new-2.ensures.items) refl)

pub returns-clause-plain : goal.returns-clause-plain
returns-clause-plain c = λ plain. sym (one_reading (concat c.args.blocks.items) _ plain (returns-clause-any c))
