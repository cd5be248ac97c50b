use Rattle.kob_router.proofs.Words.{List, Placed, drop, each_entry, map, option_map, ◌++◌, ◌≡◌}
use Rattle.kob_router.proofs.placement.each_entry.Given as goal

-- what was read, and what the texts that are left read as
abbrev pub invariant-loop-text : goal.invariant-loop-text
invariant-loop-text l =
    option_map (λ (rest : List Placed). l.entries.items ++ rest)
    (each_entry (map (λ text. text.now) (drop l.text-index l.texts))) ≡ each_entry (map (λ text. text.now) l.texts)
