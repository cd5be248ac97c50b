use Rattle.std.proofs.Common.{nat_eq, take, ◌≡◌, ℕ}
use Rattle.std.specs.HashSet.{contains}
use Rattle.kob_policy_text.specs.LogAnswers.{is_decider}
use Rattle.kob_policy_text.proofs.log_answer.deciders.Given as goal

abbrev pub invariant-loop-entry : goal.invariant-loop-entry
invariant-loop-entry l =
    (serial : ℕ) → contains nat_eq l.set serial ≡ is_decider l.judge (take l.entry-index l.accesses) serial
