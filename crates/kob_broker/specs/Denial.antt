-- The reasons to refuse a request, in order, each with whether it holds.
use Rattle.std.specs.Prelude.{◌≡◌, ◌⊎◌, ℕ, Bool, true, false, not, List, [], ◌∷◌, Option, Some, None, is_some, if◌then◌else◌, ◌+◌, map}
use Rattle.kob_broker.specs.State.{Meaning, Reason, Topic, has_topic, Contents, Event, Reply, decide, Question, question_of}
use Rattle.std.specs.Option.{option_map}
use Rattle.std.specs.List.{list_any}
use Rattle.kob_names.specs.declared.kinds.Operation.TheVariants.{Describe}
pub use Rattle.kob_names.specs.declared.verdict.Verdict.{Verdict}
pub use Rattle.kob_names.specs.Binding.{is_granted}
pub use Rattle.kob_rights.specs.Table.{Check, on_cluster, on_group, on_topic, denial_code, rights}
pub use Rattle.kob_rights.specs.declared.reply.Reply.TheVariants.{Denied, Done, Refused}
use Rattle.kob_broker.specs.declared.verdicts.Verdicts.{Verdicts}
use Rattle.kob_broker.specs.declared.verdicts.Verdicts.TheVariants.{Only, Either}
use Rattle.kob_rights.specs.declared.reason.Reason.TheVariants as reasons

-- the first that holds
abbrev pub first_reason : List (Bool × Reason) → Option Reason
first_reason [] = None
first_reason (against ∷ rest) = if against.0 then Some against.1 else first_reason rest

module _ {P : Type 0} where
  -- no topic has the name, or it has no partition of the number
  abbrev pub named_reasons : List ℕ → List (Topic P) → Option P → List (Bool × Reason)
  named_reasons name topics found =
      (not (has_topic name topics), reasons.UnknownTopic)
      ∷ (not (is_some found), reasons.UnknownPartition)
      ∷ []

  -- the reason is the first of these
  abbrev pub IsUnnamed : List ℕ → List (Topic P) → Option P → Reason → Type 0
  IsUnnamed name topics found reason =
      ((has_topic name topics ≡ false) × (reason ≡ reasons.UnknownTopic))
      ⊎ ((has_topic name topics ≡ true) × ((found ≡ None) × (reason ≡ reasons.UnknownPartition)))

module _ {P : Type 0} (m : Meaning P) where
  -- the start and the end of the partition, if it is there
  abbrev pub start_at : Option P → ℕ
  start_at None = 0
  start_at (Some partition) = m.start partition

  abbrev pub end_at : Option P → ℕ
  end_at None = 0
  end_at (Some partition) = m.end partition

-- Which requests are denied, what may be described: by event, super users, switch and bindings.

-- what is asked of the authorizer for an alternative
abbrev pub question : Event → Check → Question
question event check =
    question_of event.principal event.host check.operation check.resource check.name

abbrev pub verdict : Contents → Event → Check → Verdict
verdict access event check = decide access (question event check)

-- one of the alternatives is granted
abbrev pub is_met : Contents → Event → List Check → Bool
is_met access event clause = list_any is_granted (map (verdict access event) clause)

-- the first clause that isn't met, with its place
abbrev pub first_unmet : Contents → Event → ℕ → List (List Check) → Option (ℕ × List Check)
first_unmet access event place [] = None
first_unmet access event place (clause ∷ clauses) =
    if is_met access event clause then first_unmet access event (place + 1) clauses
    else Some (place, clause)

-- the reply that names the code of a clause, and the verdicts of its alternatives
abbrev pub denial_naming : Contents → Event → ℕ × List Check → Reply
denial_naming access event blamed =
    Denied (denial_code event.request blamed.0) (map (verdict access event) blamed.1)

-- the denial for the first clause that isn't met
abbrev pub denial_of : Contents → Event → Option Reply
denial_of access event =
    option_map (denial_naming access event) (first_unmet access event 0 (rights event.request))

-- the verdicts of one clause
abbrev pub verdicts_view : Verdicts → List Verdict
verdicts_view (Only verdict) = verdict ∷ []
verdicts_view (Either first second) = first ∷ second ∷ []

-- the bindings in force let the principal describe the topic, the group of that name, the cluster
abbrev pub describes_topic : Contents → Event → List ℕ → Bool
describes_topic access event name = is_granted (verdict access event (on_topic Describe name))

abbrev pub describes_group : Contents → Event → List ℕ → Bool
describes_group access event name = is_granted (verdict access event (on_group Describe name))

abbrev pub describes_cluster : Contents → Event → Bool
describes_cluster access event = is_granted (verdict access event (on_cluster Describe))
