-- An idempotent producer since Kafka 2.8.
use Rattle.kob_policy_text.proofs.Words.{arith, nat_tests, ◌≡◌}
use Rattle.std.proofs.Common.{Bool, true, false, inr, ◌&&◌, ◌||◌}
use Rattle.kob_rights.specs.Table.{on_cluster, on_topic}
use Rattle.kob_names.specs.declared.kinds.Operation.TheVariants.{IdempotentWrite, Write}
use Rattle.kob_policy_text.specs.Access.{IsAsKafkaSince28, question_on}
use Rattle.kob_policy_text.specs.Policy.{Policy, contents_of, is_yes}

both : (start write : Bool) → ((start || (write || false)) && ((write || false) && true)) ≡ true → write ≡ true
both start write is = grind (arith, nat_tests)

one_of : (start write : Bool) → write ≡ true → ((start || (write || false)) && ((write || false) && true)) ≡ true
one_of start write is = grind (arith, nat_tests)

pub as_kafka : (policy : Policy) → IsAsKafkaSince28 policy
unfolding contents_of
as_kafka policy since asker topic = (
  λ is. let granted = both (is_yes policy (question_on asker (on_cluster IdempotentWrite)))
      (is_yes policy (question_on asker (on_topic Write topic))) (rw since at is) in
      (inr (topic, granted), granted),
  λ may. rw since (one_of (is_yes policy (question_on asker (on_cluster IdempotentWrite)))
      (is_yes policy (question_on asker (on_topic Write topic))) may.1),
)
