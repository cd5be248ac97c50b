use Rattle.std.proofs.Common.{◌≡◌, map, take}
use Rattle.kob.proofs.options.copies_of.Given as goal

abbrev pub invariant-loop-text : goal.invariant-loop-text
invariant-loop-text l = l.made.items ≡ map (λ text. text.now) (take l.text-index l.texts)
