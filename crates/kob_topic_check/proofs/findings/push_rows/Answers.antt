use Rattle.std.proofs.Common.{ap, bytes_eq, is_some, nat_eq, None, refl, reverse, Some, sym, take, ◌∙◌}
use Rattle.std.specs.HashMap.{get}
use Rattle.kob_topic_check.specs.Findings.{first_of, row_text, sent_last}
use Rattle.kob_topic_check.proofs.Listed.{found_at, last_kept, last_put, row_more, taken_rows}
use Rattle.kob_topic_check.proofs.findings.push_rows.Goals.{in-Some+in_ok-earlier-in-Some+in_ok-push_row-in-Some, in-None+in_ok-push_row-in-None}
use Rattle.kob_topic_check.proofs.findings.push_rows.Goals as goal

pub loop-row-preserved : goal.loop-row-preserved
loop-row-preserved c =
    let records = c.args.records.now in
    let rows = c.args.rows.now in
    let k = c.loop-row.row-index in
    let row = c.row-item.result in
    let id = c.as_u128-id.result in
    let before = reverse (take k rows) in
    let first = c.first_of.ensures ∙ c.in_ok-firsts.ensures id ∙ ap (λ n. first_of n records) c.as_u128-id.ensures in
    let more = sym (taken_rows rows k row c.loop-row-test.true c.row-item.is) in
    elim c.match-first_of.branch [
      | in-Some+in_ok-earlier-in-Some+in_ok-push_row-in-Some w ↦
          let last = w.in_ok-earlier-in-Some.ensures in record {
            sent = λ key.
                ap (λ m. get (λ one other. bytes_eq one.now other.now) m key) w.last-is
                ∙ last_put key.now records before row id _ _ c.as_u128-id.ensures
                (ap is_some (sym first ∙ w.in-Some.is))
                (rw w.as_str.ensures at (last.updates.0 key)) (c.loop-row.invariant.sent key)
                ∙ ap (sent_last key.now records) more;
            text = row_more records rows k row c.loop-row.out.items c.match-first_of.out.items _
                (Some w.in-Some.first) w.record_at.result
                c.loop-row-test.true c.row-item.is (sym w.in-Some.is ∙ first)
                (ap (row_text row (Some w.in-Some.first)) (found_at (get nat_eq c.in_ok-firsts.firsts) records _ _ _
                c.in_ok-firsts.ensures w.record_at.ensures
                (rw w.as_str.ensures at (last.old ∙ c.loop-row.invariant.sent w.as_str.result))))
                (ap (λ o. o.items) w.out-is ∙ w.in_ok-push_row-in-Some.ensures) c.loop-row.invariant.text;
          }
      | in-None+in_ok-push_row-in-None w ↦ record {
        sent = λ key.
            ap (λ m. get (λ one other. bytes_eq one.now other.now) m key) w.last-is ∙ c.loop-row.invariant.sent key
            ∙ last_kept key.now records before row (sym first ∙ w.in-None.is) ∙ ap (sent_last key.now records) more;
        text = row_more records rows k row c.loop-row.out.items c.match-first_of.out.items _ None None
            c.loop-row-test.true c.row-item.is
            (sym w.in-None.is ∙ first) refl (ap (λ o. o.items) w.out-is ∙ w.in_ok-push_row-in-None.ensures)
            c.loop-row.invariant.text;
      }
    ]
