use Rattle.std.proofs.Common.{rules, ◌≡◌, ◌≤◌, length, IfSome, subst}
use Rattle.kob.proofs.Reading.{whole_text}
use Rattle.kob.proofs.input.read_text.Goals as goal

pub returns-in-Ok-clause-bytes : goal.returns-in-Ok-clause-bytes
returns-in-Ok-clause-bytes g c =
    let short : length c.read_to_end.new.buf.items ≤ c.limit-limit.result = search rules in
    subst (λ r. IfSome (g.R.Read.remaining r) (λ bytes. c.read_to_end.new.buf.items ≡ bytes))
    c.take-limited.ensures.inner
    (whole_text (g.R.Read.remaining c.take-limited.result.inner) c.limit-limit.result c.take-limited.result.limit
    c.new-text.result.items c.read_to_end.new.buf.items c.take-limited.ensures.limit
    c.new-text.ensures.items short c.in-Ok.ensures.bytes)
