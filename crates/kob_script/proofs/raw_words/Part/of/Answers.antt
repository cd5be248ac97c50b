use Rattle.kob_script.proofs.Imports.{ap, arith, length, ◌+◌, ◌-◌, ◌∙◌}
use Rattle.std.proofs.Common.{◌/◌, ◌^◌}
use Rattle.kob_script.proofs.RawWords.{last_bits, no_percent}
use Rattle.kob_script.proofs.raw_words.Part.of.Goals as goal

pub returns-then-line-at-ge16-clause-plain : goal.returns-then-line-at-ge16-clause-plain
returns-then-line-at-ge16-clause-plain c = no_percent c.args.line.now c.args.at c.percents.result (omega arith) c.percents.ensures

pub returns-clause-bits : goal.returns-clause-bits
returns-clause-bits c =
    ap (λ bits. bits / 2 ^ (c.args.at + 16 - length c.args.line.now)) c.blanks-2.ensures
    ∙ last_bits c.args.line.now c.args.at (omega arith) (omega arith) (omega arith)

pub returns-clause-plain : goal.returns-clause-plain
returns-clause-plain c =
    λ none k from to. no_percent c.args.line.now (length c.args.line.now - 16) c.percents-2.result (omega arith) c.percents-2.ensures none k (omega (arith, from)) (omega (arith, to))
