use Rattle.std.proofs.Common.{◌≡◌, [], rules, drop_of_length-le}
use Rattle.kob_words.proofs.Appending.{kept_before, kept_longer, kept_through}
use Rattle.kob_words.proofs.PlainRuns.{rest_text, front_ascii, text_ends, text_keeps, ascii_ends, ascii_keeps}
use Rattle.std.proofs.lemmas.Result.{err_from_is_err_and}
use Rattle.kob_words.proofs.printed_text.push_each.Goals as goal

pub returns-in_default-clause-text : goal.returns-in_default-clause-text
returns-in_default-clause-text c =
    let rest = c.loop-byte.rest.now in
    let split = rest_text rest _ _ _ c.plain_length.ensures.length c.split_at.ensures.front c.split_at.ensures.back in
    let none : c.split_at.result.1.now ≡ [] = drop_of_length-le c.split_at.result.1.now {i = 0} (search rules) in
    text_ends c.args.bytes.now rest _ _ split _ _ _ c.loop-byte.invariant.text none
    c.in_ok-extend_from_slice.ensures.items

pub returns-in_default-clause-ascii : goal.returns-in_default-clause-ascii
returns-in_default-clause-ascii c =
    let rest = c.loop-byte.rest.now in
    let split = rest_text rest _ _ _ c.plain_length.ensures.length c.split_at.ensures.front c.split_at.ensures.back in
    let none : c.split_at.result.1.now ≡ [] = drop_of_length-le c.split_at.result.1.now {i = 0} (search rules) in
    ascii_ends c.args.bytes.now rest _ _ split c.loop-byte.invariant.ascii none
    (front_ascii rest _ _ c.plain_length.ensures.length c.split_at.ensures.front)

pub loop-byte-preserved : goal.loop-byte-preserved
loop-byte-preserved c =
    let rest = c.loop-byte.rest.now in
    let split = rest_text rest _ _ _ c.plain_length.ensures.length c.split_at.ensures.front c.split_at.ensures.back in
    record {
      text = text_keeps c.args.bytes.now rest _ _ split _ _ _ _ _ _ c.loop-byte.invariant.text
          c.in-Some.ensures.cases.0 c.in_ok-extend_from_slice.ensures.items c.in_ok-push_byte.ensures.text;
      kept = rw (c.in_ok-push_byte.ensures.text, c.in_ok-extend_from_slice.ensures.items)
          (kept_longer _ _ _ (kept_longer _ _ _ c.loop-byte.invariant.kept));
      ascii = ascii_keeps c.args.bytes.now rest _ _ split _ _ c.loop-byte.invariant.ascii c.in-Some.ensures.cases.0
          (front_ascii rest _ _ c.plain_length.ensures.length c.split_at.ensures.front)
          c.in_ok-push_byte.ensures.ascii;
    }

pub returns-in_err-push_byte-clause-kept : goal.returns-in_err-push_byte-clause-kept
returns-in_err-push_byte-clause-kept c =
    let p = err_from_is_err_and c.from_residual-in_err-push_byte.result c.from_residual-in_err-push_byte.ensures.1 in
    rw p.1
    (kept_through _ _ _ c.loop-byte.invariant.kept
    (kept_before _ _ _ (rw c.in_ok-extend_from_slice.ensures.items at c.in_err-push_byte.ensures.kept)))
