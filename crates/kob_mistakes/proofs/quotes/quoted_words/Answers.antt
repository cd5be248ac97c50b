use Rattle.std.proofs.Common.{arith, map, rules}
use Rattle.kob_mistakes.specs.Quotes.{quoted_words}
use Rattle.kob_mistakes.proofs.Cutting.{ends}
use Rattle.kob_mistakes.proofs.quotes.quoted_words.Goals as goal

pub returns : goal.returns
returns c =
    let kept = ends (map (λ word. word.now) c.loop-byte.words.items) (quoted_words c.args.line.now)
    c.loop-byte.quoting c.args.line.now c.loop-byte.start c.loop-byte.place c.loop-byte.byte-index
    c.loop-byte.invariant.0 (search (rules, arith)) in
    search (rules, kept)
