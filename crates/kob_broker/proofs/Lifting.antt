-- A meaning of partitions that is carried to another gives the same steps.
use Rattle.kob_broker.proofs.Words.{Carries, Contents, CreateTopics, DeleteRecords, DeleteTopics, Event, Fetch, List, ListOffsets, Meaning, None, OffsetCommit, Option, Outcome, Plain, Reason, Request, RunsAlike, Some, State, StepsAlike, Topic, [], ap, arith, counted, effect_by, has_topic_mapped, length-map, listed_mapped, map, map-append, metadata_of, metadata_reasons, nat_tests, option_map, partition_count_mapped, partition_in, partition_of_mapped, reasons_against, refl, replicate, replies_of, retaining_carries, state_after, state_map, step, suc, topics_map, with_batch, with_partition_mapped, with_start, without_topic_mapped, zero, ℕ, ◌∷◌, ◌≡◌}
use Rattle.kob_rights.specs.declared.request.Request.TheVariants.{Metadata, Produce}
use Rattle.kob_rights.specs.declared.on_partitions.DeleteRecords.{DeleteRecords as DeleteAsked}
use Rattle.kob_rights.specs.declared.on_partitions.Produce.{Produce as ProduceAsked}
use Rattle.kob_broker.proofs.EachPartition.{unless_alike}

module _ {P Q : Type 0} (f : P → Q) where
  replicate_map : (n : ℕ) (p : P) → replicate n (f p) ≡ map f (replicate n p)
  replicate_map zero p = refl
  replicate_map (suc n) p = ap (λ ps. f p ∷ ps) (replicate_map n p)

  metadata_map : (access : Contents) (event : Event) (topics : List (Topic P)) (asked : Option (List ℕ))
      → metadata_of access event (topics_map f topics) asked ≡ metadata_of access event topics asked
  metadata_map access event topics None = listed_mapped f _ topics
  metadata_map access event topics (Some name) = ap (counted name) (partition_count_mapped f name topics)

  metadata_reasons_map : (topics : List (Topic P)) (asked : Option (List ℕ))
      → metadata_reasons (topics_map f topics) asked ≡ metadata_reasons topics asked
  metadata_reasons_map topics None = refl
  metadata_reasons_map topics (Some name) = rw (has_topic_mapped f name topics) refl

  abbrev pub outcome_map : Outcome P → Outcome Q
  outcome_map o = record { reply = o.reply; state = state_map f o.state }

module _ {P Q : Type 0} (m : Meaning P) (n : Meaning Q) (f : P → Q) (c : Carries m n f) where
  with_start_alike : (found : Option P) (delete : DeleteAsked) (topics : List (Topic P))
      → with_start n (option_map f found) delete (topics_map f topics) ≡ topics_map f (with_start m found delete topics)
  with_start_alike None delete topics = refl
  with_start_alike (Some p) delete topics = grind (arith, nat_tests, with_partition_mapped)

  with_batch_alike : (found : Option P) (produce : ProduceAsked) (topics : List (Topic P))
      → with_batch n (option_map f found) produce (topics_map f topics)
      ≡ topics_map f (with_batch m found produce topics)
  with_batch_alike None produce topics = refl
  with_batch_alike (Some p) produce topics = grind (arith, nat_tests, unless_alike, with_partition_mapped)

  in_alike : (topics : List (Topic P)) (name : Option (List ℕ × ℕ))
      → partition_in (topics_map f topics) name ≡ option_map f (partition_in topics name)
  in_alike topics None = refl
  in_alike topics (Some name) = partition_of_mapped f name.0 name.1 topics

  reasons_alike : (s : State P) (found : Option P) (request : Request)
      → reasons_against n (state_map f s) (option_map f found) request ≡ reasons_against m s found request
  reasons_alike s found (Produce produce) = grind (arith, nat_tests, has_topic_mapped)
  reasons_alike s found (Fetch fetch) = grind (arith, nat_tests, has_topic_mapped)
  reasons_alike s found (ListOffsets asked) = grind (arith, nat_tests, has_topic_mapped)
  reasons_alike s found (Metadata asked) = metadata_reasons_map f s.topics asked.topic
  reasons_alike s found (OffsetCommit commit) = grind (arith, nat_tests, has_topic_mapped)
  reasons_alike s found (CreateTopics create) = grind (arith, nat_tests, has_topic_mapped, length-map)
  reasons_alike s found (DeleteTopics delete) = rw (has_topic_mapped f delete.name s.topics) refl
  reasons_alike s found (DeleteRecords delete) = grind (arith, nat_tests, has_topic_mapped)
  reasons_alike s found _ = refl

  effect_by_alike : (against : Option Reason) (s : State P) (found : Option P) (event : Event) (request : Request)
      → effect_by n against (state_map f s) (option_map f found) event request
      ≡ outcome_map f (effect_by m against s found event request)
  effect_by_alike against s found event request =
      grind (
        arith,
        nat_tests,
        metadata_map,
        with_batch_alike,
        map-append,
        replicate_map,
        without_topic_mapped,
        with_start_alike,
      )

  step_alike : (s : State P) (event : Event) → step n (state_map f s) event ≡ outcome_map f (step m s event)
  step_alike s event = grind (arith, nat_tests, reasons_alike, effect_by_alike, in_alike)

  replies_alike : (events : List Event) (s : State P) → replies_of n events (state_map f s) ≡ replies_of m events s
  replies_alike [] s = refl
  replies_alike (event ∷ events) s = grind (arith, nat_tests, step_alike, replies_alike events (step m s event).state)

  states_alike : (events : List Event) (s : State P)
      → state_after n events (state_map f s) ≡ state_map f (state_after m events s)
  states_alike [] s = refl
  states_alike (event ∷ events) s = grind (arith, nat_tests, step_alike, states_alike events (step m s event).state)

pub steps_alike : (s : State Plain) (event : Event) → StepsAlike s event
steps_alike s event = grind (arith, nat_tests, step_alike, retaining_carries)

pub runs_alike : (s : State Plain) (events : List Event) → RunsAlike s events
runs_alike s events = grind (arith, nat_tests, replies_alike, retaining_carries, states_alike)
