use Rattle.std.proofs.Common.{[], drop_of_length-le, rules, ◌≡◌}
use Rattle.kob_words.proofs.Escapes.{all_read, byte_read, none_before, none_read}
use Rattle.kob_words.proofs.escape.unescaped.Goals as goal

pub loop-first-init : goal.loop-first-init
loop-first-init c = none_before _ _ c.new-bytes.ensures.items

pub loop-first-preserved : goal.loop-first-preserved
loop-first-preserved c =
    rw c.in_ok-push-in-Some-byte_at.ensures.items
    (byte_read _ _ _ _ _ c.loop-first.invariant c.in-Some.ensures.cases.0 (c.in-Some-byte_at.byte, c.in-Some-byte_at.after.now)
    c.in-Some-byte_at.ensures.read)

pub returns-in-None-clause-read : goal.returns-in-None-clause-read
returns-in-None-clause-read c = none_read _ _ _ _ _ c.loop-first.invariant c.in-Some.ensures.cases.0 c.in-None.ensures.read

pub returns-clause-read : goal.returns-clause-read
returns-clause-read c =
    let empty : c.loop-first.rest.now ≡ [] = drop_of_length-le c.loop-first.rest.now {i = 0} (search rules) in
    rw c.from_vec.ensures (all_read _ _ _ c.loop-first.invariant empty)
