-- What holds of each partition of a broker, through what is read of its topics and written to them.
use Rattle.kob_broker.proofs.Words.{AddTopic, AdvanceStart, All, All-cons, All-filter, All-head, All-lookup, All-nil, All-push, All-replicate, All-set, All-tail, Append, Bool, IfSome, Judgement, List, Meaning, None, Option, Produce, RemoveTopic, Request, Some, State, Topic, Write, [], after_batch, after_write, arith, batch_judged, cond_both, insert_entry, lookup, named, nat_tests, new_topic, offset_before, option_map, partition_in, partition_named, partitions_of, same_text, set_value, slice_get, slice_set, suc, unless_repeat, unwrap_or, with_partition, zero, ℕ, ◌∷◌}

-- a repeat has the old, and any other batch the new
pub unless_alike : {X Y : Type 0} (Alike : X → Y → Type 0) (judgement : Judgement) (old new : X) (was now : Y)
    → Alike old was → Alike new now → Alike (unless_repeat judgement old new) (unless_repeat judgement was now)
unless_alike Alike judgement old new was now one two = grind (arith, nat_tests)

-- what fits each value fits each after one is put in or written, and the one that is read, or none
module _ {K X : Type 0} (Fits : X → Type 0) where
  abbrev pub EachFits : List (K × X) → Type 0
  EachFits entries = All (λ (entry : K × X). Fits entry.1) entries

  pub put_in : (same : K → K → Bool) (entries : List (K × X)) (key : K) (x : X) → Fits x → EachFits entries
      → EachFits (insert_entry same entries key x)
  put_in same [] key x fits all = grind (arith, nat_tests)
  put_in same (entry ∷ entries) key x fits all =
      let rest = All-tail (λ (e : K × X). Fits e.1) entry entries all in
      let later = put_in same entries key x fits rest in
      grind (arith, nat_tests, cond_both, All-cons, All-head (λ (e : K × X). Fits e.1) entry entries all)

  written_in : (test : K → Bool) (entries : List (K × X)) (x : X) → Fits x → EachFits entries
      → EachFits (set_value test entries x)
  written_in test [] x fits all = all
  written_in test (entry ∷ entries) x fits all =
      let rest = All-tail (λ (e : K × X). Fits e.1) entry entries all in
      let later = written_in test entries x fits rest in
      grind (arith, nat_tests, cond_both, All-cons, All-head (λ (e : K × X). Fits e.1) entry entries all)

  pub read : (test : K → Bool) (entries : List (K × X)) (none : X) → Fits none → EachFits entries
      → Fits (unwrap_or (lookup test entries) none)
  read test entries none fits all = grind (arith, nat_tests, unwrap_or, All-lookup Fits test entries all)

module _ {P : Type 0} (Holds : P → Type 0) where
  -- it holds of each partition of the topic
  abbrev pub EachOf : Topic P → Type 0
  EachOf topic = All Holds topic.1

  got : (partitions : List P) (i : ℕ) → All Holds partitions → IfSome (slice_get partitions i) Holds
  got [] i all = tt
  got (partition ∷ partitions) zero all = All-head Holds partition partitions all
  got (partition ∷ partitions) (suc i) all = got partitions i (All-tail Holds partition partitions all)

  of_topic : (name : List ℕ) (topics : List (Topic P)) → All EachOf topics → All Holds (partitions_of name topics)
  of_topic name topics all = read (All Holds) (same_text name) topics [] (All-nil Holds) all

  in_topics : (topics : List (Topic P)) (name : Option (List ℕ × ℕ)) → All EachOf topics
      → IfSome (partition_in topics name) Holds
  in_topics topics None all = tt
  in_topics topics (Some name) all = got (partitions_of name.0 topics) name.1 (of_topic name.0 topics all)

  -- the partition that a request names
  pub of_request : (s : State P) (request : Request) → All EachOf s.topics → IfSome (named s request) Holds
  of_request s request all = in_topics s.topics (partition_named request) all

  once_written : (name : List ℕ) (number : ℕ) (partition : P) (topics : List (Topic P)) → Holds partition
      → All EachOf topics → All EachOf (with_partition name number partition topics)
  once_written name number partition topics holds all =
      written_in (All Holds) (same_text name) topics (slice_set (partitions_of name topics) number partition)
      (All-set Holds (partitions_of name topics) number partition holds (of_topic name topics all)) all

  once_put : (judgement : Judgement) (old put : P) (produce : Produce) (topics : List (Topic P))
      → Holds (unless_repeat judgement old put) → All EachOf topics
      → All EachOf (unless_repeat judgement topics
      (with_partition produce.topic produce.partition put topics))
  once_put judgement old put produce topics holds all = grind (arith, nat_tests, unless_alike, once_written)

module _ {P : Type 0} (m : Meaning P) where
  -- what a write makes of the partition that is found, if it writes to one
  abbrev pub written : Option P → Option Write → Option P
  written found (Some (Append produce)) = option_map (λ p. after_batch m p produce.batch) found
  written found (Some (AdvanceStart delete)) =
      option_map (λ p. m.advance p (offset_before m (Some p) delete.before)) found
  written found _ = None

  -- it holds of each after a write, if it holds of the one written and of an empty one
  pub each_after : (Holds : P → Type 0) (s : State P) (found : Option P) (write : Option Write) → Holds m.empty
      → IfSome (written found write) Holds → All (EachOf Holds) s.topics
      → All (EachOf Holds) (after_write m s found write).topics
  each_after Holds s (Some p) (Some (Append produce)) empty holds all =
      once_put Holds (batch_judged m p produce.batch) p (m.append p produce.batch) produce s.topics holds all
  each_after Holds s (Some p) (Some (AdvanceStart delete)) empty holds all =
      once_written Holds delete.topic delete.partition _ s.topics holds all
  each_after Holds s found (Some (AddTopic create)) empty holds all =
      All-push (EachOf Holds) s.topics (new_topic m create.name create.partitions) all
      (All-replicate Holds create.partitions m.empty empty)
  each_after Holds s found (Some (RemoveTopic delete)) empty holds all =
      All-filter _ (EachOf Holds) s.topics all
  each_after Holds s None (Some (Append produce)) empty holds all = all
  each_after Holds s None (Some (AdvanceStart delete)) empty holds all = all
  each_after Holds s found _ empty holds all = all
