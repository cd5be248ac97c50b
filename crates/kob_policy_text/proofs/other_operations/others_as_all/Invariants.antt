use Rattle.kob_policy_text.proofs.Words.{flat_map, take, ◌≡◌}
use Rattle.kob_policy_text.specs.Options.{all_if_other}
use Rattle.kob_policy_text.proofs.other_operations.others_as_all.Given as goal

abbrev pub invariant-loop-word : goal.invariant-loop-word
invariant-loop-word l = l.others.items ≡ flat_map all_if_other (take l.word-index l.words)
