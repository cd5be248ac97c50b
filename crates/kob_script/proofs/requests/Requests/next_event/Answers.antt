use Rattle.kob_script.proofs.Imports.{arith, lines_left, nat_tests}
use Rattle.std.proofs.lemmas.List.{nil_from_length}
use Rattle.kob_script.proofs.CheckedLines.{some_lines}
use Rattle.kob_script.proofs.requests.Requests.next_event.Goals as goal

pub read_on-requires-clause-some : goal.read_on-requires-clause-some
read_on-requires-clause-some c =
    let inside = c.loop-alloc.self-inside in
    some_lines inside.asked.items (lines_left inside.blocks) inside.answers.items c.args.self.now _
    (nil_from_length inside.asked.items (grind (arith, nat_tests)))
    c.loop-alloc.invariant.same c.requires
