use Rattle.std.proofs.Common.{[], drop_of_length-le, rules, ◌≡◌}
use Rattle.kob_words.proofs.Escapes.{all_whole, not_whole, whole_after}
use Rattle.kob_words.proofs.escape.has_whole_escapes.Goals as goal

pub loop-first-preserved : goal.loop-first-preserved
loop-first-preserved c =
    whole_after _ _ _ _ c.loop-first.invariant c.in-Some.ensures.cases.0 (c.in-Some-byte_at.field-0-0, c.in-Some-byte_at.after.now)
    c.in-Some-byte_at.ensures.read

pub returns-in-None : goal.returns-in-None
returns-in-None c = not_whole _ _ _ _ c.loop-first.invariant c.in-Some.ensures.cases.0 c.in-None.ensures.read

pub returns : goal.returns
returns c =
    let empty : c.loop-first.rest.now ≡ [] = drop_of_length-le c.loop-first.rest.now {i = 0} (search rules) in
    all_whole _ _ c.loop-first.invariant empty
