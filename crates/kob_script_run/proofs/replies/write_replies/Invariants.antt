-- The requests so far were served: their replies were written, but for the end of them that is held.
use Rattle.kob_script_run.proofs.Words.{AppendsAllBut, drop, length, piece_limit, replies_from, retained_meaning, state_after, state_of, take, text_of_replies, vec_capacity, vec_len, ◌≡◌, ◌≤◌}
use Rattle.kob_script_run.proofs.replies.write_replies.Given as goal

abbrev pub invariant-loop-done : goal.invariant-loop-done
invariant-loop-done g l = record {
  piece : vec_len l.held ≤ piece_limit;
  room : piece_limit ≤ vec_capacity l.held;
  left : l.requests ≡ drop l.done l.fn.requests;
  count : l.done-end ≡ length l.fn.requests;
  state : state_of l.broker
      ≡ state_after retained_meaning (take l.done l.fn.requests) (state_of l.initial.broker);
  written : AppendsAllBut (g.W.Write.contents l.initial.writer) (g.W.Write.contents l.writer)
      (text_of_replies (replies_from (state_of l.initial.broker) (take l.done l.fn.requests))) l.held.items;
}
