use Rattle.std.proofs.Common.{arith, drop_of_length-le, sym, ◌∙◌}
use Rattle.std.proofs.lemmas.List.{drop_more}
use Rattle.kob_words.proofs.Numbers.{digit_refused, digits_end}
use Rattle.kob_words.proofs.number.decimal_in.Goals as goal

pub returns-in-None : goal.returns-in-None
returns-in-None c =
    sym (digit_refused c.args.digits.now _ _ c.loop-digit.number _ c.loop-digit.invariant.0
    (drop_more c.args.digits.now c.loop-digit.digit-index 0 (omega arith)) c.in-None.ensures)

pub returns : goal.returns
returns c =
    sym (digits_end c.args.digits.now _ c.loop-digit.number c.loop-digit.invariant.0
    (drop_of_length-le c.args.digits.now {i = c.loop-digit.digit-index} (omega arith)) c.loop-digit.invariant.1
    (sym c.is_empty.ensures ∙ c.if-is_empty.false))
