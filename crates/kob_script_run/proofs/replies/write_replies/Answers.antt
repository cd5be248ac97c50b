use Rattle.kob_script_run.proofs.Words.{ap, arith, length, length-drop, refl, replies_from, retained_meaning, rules, state_of, ◌+◌, ◌<◌, ◌≤◌}
use Rattle.kob_script_run.proofs.Parts.{is_err}
use Rattle.kob_script_run.proofs.PrintedReplies.{nothing_put, reply_part, reply_put, state_put}
use Rattle.kob_script_run.proofs.RunTexts.{all_of_run, next_left, of_ok, part_of_run, part_of_stopped_run, part_of_whole_run, stopped_run}
use Rattle.kob_script_run.proofs.replies.write_replies.Goals as goal

pub loop-done-init : goal.loop-done-init
loop-done-init g c = record {
  piece = search rules;
  room = search rules;
  left = refl;
  count = search rules;
  state = refl;
  written = nothing_put retained_meaning c.args.requests (state_of c.args.broker.now) _ _ c.requires.none;
}

pub print_next-requires : goal.print_next-requires
print_next-requires g c =
    let left = ap length c.loop-done.invariant.left in
    omega (arith, left, length-drop c.loop-done.done c.args.requests, c.loop-done.invariant.count)

pub returns-in_err-write_stopped-clause-part : goal.returns-in_err-write_stopped-clause-part
returns-in_err-write_stopped-clause-part g c =
    let few : c.loop-done.done < length c.args.requests = omega (arith, c.loop-done.invariant.count) in
    is_err c.from_residual.result
    (part_of_stopped_run (replies_from (state_of c.args.broker.now)) c.args.requests c.loop-done.done _ _ _
    c.loop-done.held.items c.loop-done.invariant.written few c.in_err-write_stopped.ensures.part)

pub returns-then-is_err-clause-output : goal.returns-then-is_err-clause-output
returns-then-is_err-clause-output g c =
    let few : c.loop-done.done < length c.args.requests = omega (arith, c.loop-done.invariant.count) in
    stopped_run (replies_from (state_of c.args.broker.now)) c.args.requests c.loop-done.done _ _ _
    c.loop-done.held.items c.loop-done.invariant.written few c.in_ok-write_stopped.ensures.whole

pub returns-in_err-put-clause-part : goal.returns-in_err-put-clause-part
returns-in_err-put-clause-part g c =
    let (event, split, printed, served) = of_ok c.print_next.result (search rules) c.print_next.ensures in
    let (few, at, others) =
    next_left c.args.requests _ _ c.loop-done.done event c.loop-done.invariant.left split in
    let within : c.loop-done.done + 1 ≤ length c.args.requests = omega (arith, few) in
    is_err c.from_residual-in_err-put.result
    (part_of_run (replies_from (state_of c.args.broker.now)) c.args.requests (c.loop-done.done + 1) _ _ within
    (reply_part retained_meaning c.args.requests c.loop-done.done event
    (state_of c.args.broker.now) (state_of c.loop-done.broker) c.print_next.new.out.items few at
    c.loop-done.invariant.state printed _ _ _
    c.loop-done.held.items c.loop-done.invariant.written (rw c.deref.ensures.value at c.in_err-put.ensures.part)))

pub loop-done-preserved : goal.loop-done-preserved
loop-done-preserved g c =
    let (event, split, printed, served) = of_ok c.print_next.result (search rules) c.print_next.ensures in
    let (few, at, others) =
    next_left c.args.requests _ _ c.loop-done.done event c.loop-done.invariant.left split in
    record {
      piece = search rules;
      room = search rules;
      left = others;
      count = c.loop-done.invariant.count;
      state = state_put retained_meaning c.args.requests c.loop-done.done event
          (state_of c.args.broker.now) (state_of c.loop-done.broker) (state_of c.print_next.new.broker) few
          at c.loop-done.invariant.state served;
      written = reply_put retained_meaning c.args.requests c.loop-done.done event
          (state_of c.args.broker.now) (state_of c.loop-done.broker) c.print_next.new.out.items few
          at c.loop-done.invariant.state printed _ _ _ c.loop-done.held.items
          c.loop-done.invariant.written _ (rw c.deref.ensures.value at c.in_ok-put.ensures.put);
    }

pub returns-in_err-write_all-clause-part : goal.returns-in_err-write_all-clause-part
returns-in_err-write_all-clause-part g c =
    let past : length c.args.requests ≤ c.loop-done.done = omega (arith, c.loop-done.invariant.count) in
    is_err c.from_residual-in_err-write_all.result
    (part_of_whole_run (replies_from (state_of c.args.broker.now)) c.args.requests c.loop-done.done _ _ _
    c.loop-done.held.items c.loop-done.invariant.written past
    (rw c.deref-2.ensures.value at c.in_err-write_all.ensures.part))

pub returns-clause-output : goal.returns-clause-output
returns-clause-output g c =
    let past : length c.args.requests ≤ c.loop-done.done = omega (arith, c.loop-done.invariant.count) in
    all_of_run (replies_from (state_of c.args.broker.now)) c.args.requests c.loop-done.done _ _ _
    c.loop-done.held.items c.loop-done.invariant.written past
    (rw c.deref-2.ensures.value at c.in_ok-write_all.ensures.whole)
