use Rattle.kob_scene_text.proofs.Words.{Fault, ap, arith, length, length-map, replicate, so_far, subst, told, ℕ, ◌++◌, ◌+◌, ◌-◌, ◌∙◌, ◌≡◌}
use Rattle.kob_scene_text.proofs.SceneLines.{Leads, LeadsOn, line_keeps, line_stops, lines_end, steps_end, steps_follow}
use Rattle.kob_scene_text.proofs.reading.read_scene.Goals as goal

pub loop-line-preserved : goal.loop-line-preserved
loop-line-preserved c =
    let up : c.loop-line.number + 1 ≡ c.in_ok-number.number = grind (arith, c.in_ok-number.was, c.in_ok-number.ensures, c.sum_of.ensures) in
    let lines = c.loop-line.lines.items in
    let number = c.in_ok-number.number in
    let added : c.push_times.new.lines.items ≡ lines ++ replicate c.saturating_sub-added.result number =
    grind (arith, c.in_ok-map_err.was, c.in_ok-map_err.ensures, c.push_times.ensures) in
    let count : c.saturating_sub-added.result ≡ length (so_far c.read_line.new.reading).steps - length (so_far c.loop-line.reading).steps =
    omega (
      arith,
      c.saturating_sub-added.ensures,
      c.len.ensures,
      c.len-before.ensures,
      length-map c.read_line.new.reading.steps.items told,
      length-map c.loop-line.reading.steps.items told,
    ) in (
      line_keeps c.args.text.now (so_far c.loop-line.reading) c.in_ok-number.number c.loop-line.line-iterator
          c.in-Some.line.now c.next.new.self
          (subst (λ (number : ℕ).
          Leads c.args.text.now (so_far c.loop-line.reading) number c.loop-line.line-iterator) up c.loop-line.invariant.0)
          c.in-Some.ensures.steps c.read_line.new.reading c.in-Ok.ensures,
      steps_follow c.args.text.now (so_far c.loop-line.reading) number c.loop-line.line-iterator c.in-Some.line.now
          c.next.new.self lines c.push_times.new.lines.items c.read_line.new.reading
          (subst (λ (number : ℕ).
          LeadsOn c.args.text.now (so_far c.loop-line.reading) number c.loop-line.line-iterator lines) up c.loop-line.invariant.1)
          c.in-Some.ensures.steps c.in-Ok.ensures (added ∙ ap (λ n. lines ++ replicate n number) count),
    )

pub returns-in-Err-Fault-clause-read : goal.returns-in-Err-Fault-clause-read
returns-in-Err-Fault-clause-read c =
    let up : c.loop-line.number + 1 ≡ c.in_ok-number.number = grind (arith, c.in_ok-number.was, c.in_ok-number.ensures, c.sum_of.ensures) in
    rw c.in-Err-Fault.field-0-is
    (line_stops c.args.text.now (so_far c.loop-line.reading) c.in_ok-number.number c.loop-line.line-iterator
    c.in-Some.line.now c.next.new.self
    (subst (λ (number : ℕ).
    Leads c.args.text.now (so_far c.loop-line.reading) number c.loop-line.line-iterator) up c.loop-line.invariant.0)
    c.in-Some.ensures.steps c.read_line.new.reading (Fault c.in-Err-Fault.kind)
    (rw c.in-Err-Fault.field-0-is at c.in-Err-Fault.ensures))

pub returns-clause-read : goal.returns-clause-read
returns-clause-read c =
    rw c.finished.ensures.seen
    (lines_end c.args.text.now (so_far c.loop-line.reading) _ c.loop-line.line-iterator c.loop-line.invariant.0
    c.in-None.ensures.steps.0)

pub returns-clause-lines : goal.returns-clause-lines
returns-clause-lines c =
    rw c.finished.ensures.seen (rw c.finished.ensures.lines
    (steps_end c.args.text.now (so_far c.loop-line.reading) _ c.loop-line.line-iterator c.loop-line.lines.items
    c.loop-line.invariant.1 c.in-None.ensures.steps.0))
