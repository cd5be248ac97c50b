-- The serials in the set are those that decide.
use Rattle.std.proofs.Common.{Bool, nat_eq, refl, sym, ℕ, ◌≡◌}
use Rattle.std.specs.HashSet.{contains}
use Rattle.kob_policy_text.proofs.Growing.{numbered_same}
use Rattle.kob_policy_text.specs.LogAnswers.{is_decider}
use Rattle.kob_policy_text.specs.Policy.{Policy, serials_of}
use Rattle.kob_policy_rows.specs.Logs.{idle_row}
use Rattle.kob_policy_rows.proofs.log_rows.push_idle_in.Goals as goal

same_kept : (policy : Policy) (among others : ℕ → Bool) → ((serial : ℕ) → among serial ≡ others serial)
    → (place serial : ℕ) → idle_row policy among place serial ≡ idle_row policy others place serial
same_kept policy among others same place serial = rw (same serial) refl

pub returns : goal.returns
returns c =
    rw (sym (numbered_same (idle_row c.args.judge.now (contains nat_eq c.in_ok-set.set))
    (idle_row c.args.judge.now (is_decider c.args.judge.now c.args.accesses.now)) 0 (serials_of c.args.judge.now)
    (same_kept c.args.judge.now (contains nat_eq c.in_ok-set.set) (is_decider c.args.judge.now c.args.accesses.now)
    c.in_ok-set.ensures)))
    c.push_idle_rows.ensures
