use Rattle.std.proofs.Common.{drop, ◌<◌, ◌^◌}
use Rattle.kob_words.proofs.Numbers.{GoesOn}
use Rattle.kob_words.proofs.number.decimal_in.Given as goal

abbrev pub invariant-loop-digit : goal.invariant-loop-digit
invariant-loop-digit l =
    GoesOn l.digits l.number (drop l.digit-index l.digits) × (l.number < 2 ^ 64)
