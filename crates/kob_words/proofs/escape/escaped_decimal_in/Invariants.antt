use Rattle.std.proofs.Common.{length, ◌<◌, ◌^◌}
use Rattle.kob_words.proofs.Numbers.{ReadsOn}
use Rattle.kob_words.proofs.escape.escaped_decimal_in.Given as goal

abbrev pub invariant-loop-first : goal.invariant-loop-first
invariant-loop-first l = ReadsOn l.part l.number l.rest × (l.number < 2 ^ 64)

abbrev pub decreases-loop-first : goal.decreases-loop-first
decreases-loop-first l = length l.rest
