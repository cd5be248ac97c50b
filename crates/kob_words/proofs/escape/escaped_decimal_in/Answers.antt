use Rattle.std.proofs.Common.{[], drop_of_length-le, rules, sym, ◌∙◌, ◌≡◌}
use Rattle.kob_words.proofs.Numbers.{byte_missing, escaped_digit_read, escaped_digit_refused, escaped_digits_end, nothing_written}
use Rattle.kob_words.proofs.escape.escaped_decimal_in.Goals as goal

pub returns-then-is_empty : goal.returns-then-is_empty
returns-then-is_empty c = nothing_written c.args.part.now (sym c.is_empty.ensures ∙ c.if-is_empty.true)

pub loop-first-preserved : goal.loop-first-preserved
loop-first-preserved c = (
  escaped_digit_read _ _ _ _ _ c.loop-first.invariant.0 c.in-Some.ensures.cases.0 (c.in-Some-byte_at.byte, c.in-Some-byte_at.after.now)
      c.in-Some-byte_at.ensures.read _ c.in-Some-with_digit.ensures.0 c.in-Some-with_digit.ensures.1,
  search rules,
)

pub returns-in_default-byte_at : goal.returns-in_default-byte_at
returns-in_default-byte_at c =
    byte_missing _ _ _ _ _ c.loop-first.invariant.0 c.in-Some.ensures.cases.0 c.in_default-byte_at.ensures.read

pub returns-in_default-with_digit : goal.returns-in_default-with_digit
returns-in_default-with_digit c =
    escaped_digit_refused _ _ _ _ _ c.loop-first.invariant.0 c.in-Some.ensures.cases.0 (c.in-Some-byte_at.byte, c.in-Some-byte_at.after.now)
    c.in-Some-byte_at.ensures.read c.in_default-with_digit.ensures

pub returns : goal.returns
returns c =
    let empty : c.loop-first.rest.now ≡ [] = drop_of_length-le c.loop-first.rest.now {i = 0} (search rules) in
    escaped_digits_end _ _ _ c.loop-first.invariant.0 empty c.loop-first.invariant.1 (sym c.is_empty.ensures ∙ c.if-is_empty.false)
