use Rattle.kob_policy_text.proofs.Words.{List, YieldsList-at, YieldsList-from_filter, YieldsList-from_slice_split, length, map_from_collect, nat_lt, rules, tests, ℕ, ◌==◌}
use Rattle.kob_policy_text.proofs.properties.between_semicolons.Goals as goal

pub returns : goal.returns
returns c =
    map_from_collect _ c.collect.ensures.ran
    (YieldsList-from_filter _ (λ (part : List ℕ). nat_lt 0 (length part))
    (YieldsList-at c.filter.ensures.source
    (YieldsList-from_slice_split _ (λ byte. byte == 59) c.args.value.now c.split.ensures.rest c.split.ensures.done
    c.split.ensures.closure (λ x b q k. search (rules, tests))))
    c.filter.ensures.closure (λ x b q k. search (rules, tests)))
