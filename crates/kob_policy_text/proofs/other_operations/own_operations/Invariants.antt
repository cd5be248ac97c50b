use Rattle.kob_policy_text.proofs.Words.{flat_map, take, ◌≡◌}
use Rattle.kob_policy_text.specs.Options.{own_alone}
use Rattle.kob_policy_text.proofs.other_operations.own_operations.Given as goal

abbrev pub invariant-loop-word : goal.invariant-loop-word
invariant-loop-word l = l.own.items ≡ flat_map own_alone (take l.word-index l.words)
