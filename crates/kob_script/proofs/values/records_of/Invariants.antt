use Rattle.kob_script.proofs.Imports.{map, record_of, take, ◌≡◌}
use Rattle.kob_script.proofs.values.records_of.Given as goal

abbrev pub invariant-loop-word : goal.invariant-loop-word
invariant-loop-word l = l.records.items ≡ map record_of (take l.word-index l.words)
