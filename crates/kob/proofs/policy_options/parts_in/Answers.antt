use Rattle.std.proofs.Common.{Global, String, rules, string_bytes, tests}
use Rattle.std.proofs.lemmas.Iterator.Consumers.{map_from_collect}
use Rattle.std.proofs.lemmas.Iterator.Splits.{YieldsList-from_slice_split}
use Rattle.kob.specs.CommandLine.{is_next}
use Rattle.kob.proofs.policy_options.parts_in.Goals as goal

pub returns : goal.returns
returns c =
    map_from_collect _ c.collect.ensures.ran
    (YieldsList-from_slice_split _ (λ (word : String Global). is_next (string_bytes word)) c.args.words.now
    c.split.ensures.rest c.split.ensures.done c.split.ensures.closure (λ x b q k. search (rules, tests)))
