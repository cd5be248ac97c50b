-- The names so far are those before and those on the lines that were passed.
use Rattle.std.proofs.Common.{flat_map, map, take, ◌++◌, ◌≡◌}
use Rattle.kob_mistakes.specs.Names.{name_on}
use Rattle.kob_mistakes.proofs.mistake.push_declared.Given as goal

abbrev pub invariant-loop-line : goal.invariant-loop-line
invariant-loop-line l =
    map (λ name. name.now) l.names.items
    ≡ map (λ name. name.now) l.initial.names.items
    ++ flat_map name_on (map (λ line. line.now) (take l.line-index l.lines))
