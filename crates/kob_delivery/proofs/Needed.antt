-- Each premise is needed: a law without it is false, by a journal of a few entries.
use Rattle.kob_delivery.proofs.ExampleWords.{AllByRecursion, Batch, Bool, DeleteTopics, Done, Entry, Event, Fetch, Idem, InitProducerId, IsConsumerPart, IsDelivered, IsHistory, IsNeverDeleted, IsOwnOrApart, IsPrefixOf, IsServicePart, IsSoleCommitter, IsTakenInOrder, List, None, OffsetCommit, OffsetFetch, Place, Produce, ReachesInOrder, Record, Some, Subscription, Target, View, [], ap, arith, bytes_eq, bytes_eq-Decides, codes, dispatch_of, false, get_or, id_text, ids_of, inl, inr, nat_tests, opening_view, range_with_len, records_of, refl, rows_of, rows_of_aggregate, slice_get, subst, suc, sym, taken_ids, taken_of_aggregate, true, true≢false, with_batch, with_commit, with_producer, without_topic, zero, ℕ, ◌||◌, ◌∙◌, ◌∷◌, ◌≡◌}
use Rattle.uuid.specs.Text.{by_index}
use Rattle.kob_rights.specs.declared.on_partitions.Fetch.{Fetch as FetchRequest}
use Rattle.kob_rights.specs.declared.reply.Body.TheVariants as bodies
use Rattle.kob_router.specs.Run as router
use Rattle.kob_inbox.specs.Run as consumer
use Rattle.kob_delivery.proofs.Example.{after_all, call, entry, first_id, given_by, gives, is_sent, placed, position, same, sends, subscription, taken_all}
use Rattle.kob_delivery.proofs.Samples.{batch, change, event, first_is_new, held, here, id_of, message, producer, row, second_is_new, target}

-- a stranger sends these without a producer id

abbrev pub loose : List Record → Batch
loose records = record { idem = None; records = records }

abbrev pub sent : List Record → Entry
sent records =
    entry 3 (Produce (record { topic = here.topic; partition = here.partition; batch = loose records }))
    (Done (bodies.Offset 0))

abbrev pub view_with : List Record → View
view_with records = with_batch opening_view here (loose records)

-- where others may send, a record may be no row's

other_sends : IsHistory opening_view (sent (message 1 ∷ []) ∷ []) (view_with (message 1 ∷ []))
other_sends =
    (view_with (message 1 ∷ []), (tt, same (view_with (message 1 ∷ []))), same (view_with (message 1 ∷ [])))

idle_part : IsServicePart target 1 (sent (message 1 ∷ []) ∷ []) [] router.start
idle_part = record { run = refl; served = tt }

needs_a_sole_producer :
    ((t : Target) (worker : ℕ) (journal : List Entry) (view : View) (moves : List router.Move) (now : router.State)
    (place : Place)
    → IsHistory opening_view journal view → IsServicePart t worker journal moves now
    → IsNeverDeleted place.topic journal
    → IsDelivered (dispatch_of t) place (rows_of moves) (records_of (view.log place)))
    → ⊥
needs_a_sole_producer law =
    none ((law target 1 (sent (message 1 ∷ []) ∷ []) (view_with (message 1 ∷ [])) [] router.start here other_sends
    idle_part (λ p. p, tt)).each.0.1)
  where
    none : {A : Type 0} {x : A} → Rattle.std.specs.Prelude.Contains [] x → ⊥
    none (k, within, at) = absurd (omega arith)

-- where others may commit, offsets may be left out

abbrev two : List Record
two = message 1 ∷ message 2 ∷ []

abbrev pub fetch_from : ℕ → FetchRequest
fetch_from offset = record { topic = here.topic; partition = here.partition; offset = offset; max = 10 }

abbrev past_one : List Entry
past_one =
    sent two
    ∷ entry 3 (OffsetCommit (record { group = codes "g"; topic = here.topic; partition = here.partition; offset = 1 }))
    (Done bodies.Committed)
    ∷ entry 2 (OffsetFetch position) (Done (bodies.Commit (Some 1)))
    ∷ entry 2 (Fetch (fetch_from 1)) (Done (bodies.Records ((1, message 2) ∷ [])))
    ∷ []

abbrev committed_one : View
committed_one = with_commit (view_with two) (codes "g") here 1

other_commits : IsHistory opening_view past_one committed_one
other_commits = (
  view_with two,
  (tt, same (view_with two)),
  (
    committed_one,
    same committed_one,
    (
      committed_one,
      (refl, same committed_one),
      (committed_one, (record { count = 1; body_is = refl }, same committed_one), same committed_one),
    ),
  ),
)

abbrev pub takes_one : List consumer.Move
takes_one =
    consumer.Move.Called (call (OffsetFetch position) (Some (Done (bodies.Commit (Some 1))))) 0
    ∷ consumer.Move.Called (call (Fetch (fetch_from 1)) (Some (Done (bodies.Records ((1, message 2) ∷ []))))) 1
    ∷ []

one_part : IsConsumerPart subscription 2 past_one takes_one (taken_all consumer.start takes_one)
one_part = record {
  run = (
    (record { place = here; its_turn = refl; is_due = refl }, omega arith),
    ((record { place = here; its_turn = refl; is_due = refl }, omega arith), refl),
  );
  served = inr (refl, inr refl, inr (refl, inr refl, tt));
}

needs_a_sole_committer :
    ((t : Subscription) (worker : ℕ) (journal : List Entry) (view : View) (moves : List consumer.Move)
    (now : consumer.State) (place : Place)
    → IsHistory opening_view journal view → IsConsumerPart t worker journal moves now
    → IsNeverDeleted place.topic journal
    → IsTakenInOrder place (records_of (view.log place)) (consumer.taken_of moves))
    → ⊥
needs_a_sole_committer law =
    let order =
    law subscription 2 past_one committed_one takes_one (taken_all consumer.start takes_one) here other_commits
    one_part (λ p. p, (λ p. p, (λ p. p, (λ p. p, tt)))) in
    begins_at_0 order.bound order.offsets
  where
    begins_at_0 : (bound : ℕ) → 1 ∷ [] ≡ range_with_len 0 bound → ⊥
    begins_at_0 zero same = cc
    begins_at_0 (suc bound) same = let first : 1 ≡ 0 = ap (λ ns. get_or ns 0 0) same in absurd (omega (arith, first))

-- where a topic may be deleted, what was taken in may stand there no more

abbrev then_deleted : List Entry
then_deleted =
    sent two
    ∷ entry 2 (OffsetFetch position) (Done (bodies.Commit None))
    ∷ entry 2 (Fetch (fetch_from 0)) (Done (bodies.Records ((0, message 1) ∷ (1, message 2) ∷ [])))
    ∷ entry 3 (DeleteTopics (record { name = here.topic })) (Done bodies.Deleted)
    ∷ []

abbrev deleted : View
deleted = without_topic (view_with two) here.topic

other_deletes : IsHistory opening_view then_deleted deleted
other_deletes = (
  view_with two,
  (tt, same (view_with two)),
  (
    view_with two,
    (refl, same (view_with two)),
    (
      view_with two,
      (record { count = 2; body_is = refl }, same (view_with two)),
      (deleted, same deleted, same deleted),
    ),
  ),
)

abbrev takes_both : List consumer.Move
takes_both =
    consumer.Move.Called (call (OffsetFetch position) (Some (Done (bodies.Commit None)))) 0
    ∷ consumer.Move.Called (call (Fetch (fetch_from 0))
    (Some (Done (bodies.Records ((0, message 1) ∷ (1, message 2) ∷ []))))) 2
    ∷ []

both_part : IsConsumerPart subscription 2 then_deleted takes_both (taken_all consumer.start takes_both)
both_part = record {
  run = (
    (record { place = here; its_turn = refl; is_due = refl }, omega arith),
    ((record { place = here; its_turn = refl; is_due = refl }, omega arith), refl),
  );
  served = inr (refl, inr refl, inr (refl, inr refl, tt));
}

needs_the_topic :
    ((t : Subscription) (worker : ℕ) (journal : List Entry) (view : View) (moves : List consumer.Move)
    (now : consumer.State) (place : Place)
    → IsHistory opening_view journal view → IsConsumerPart t worker journal moves now
    → IsSoleCommitter worker t.group place.topic journal
    → IsTakenInOrder place (records_of (view.log place)) (consumer.taken_of moves))
    → ⊥
needs_the_topic law =
    let order =
    law subscription 2 then_deleted deleted takes_both (taken_all consumer.start takes_both) here other_deletes
    both_part (λ p. absurd p, (λ p. absurd p, (λ p. absurd p, (λ p. absurd p, tt)))) in
    let none : slice_get [] 0 ≡ Some (message 1) = order.contents.0 in
    cc

-- Where another sends to the aggregate's topic with the service's producer id, a batch of the service counts as a repeat
-- of the other's, and its row is left out, though the other sends no event id at all.

abbrev plain : Record
plain = record { key = None; value = []; headers = [] }

abbrev its_idem : Idem
its_idem = record { id = 0; epoch = 0; base = 0 }

abbrev taken_before : Batch
taken_before = record { idem = Some its_idem; records = plain ∷ [] }

abbrev in_between : List Entry
in_between =
    entry 1 InitProducerId (gives (producer 0))
    ∷ entry 3 (Produce (record { topic = here.topic; partition = here.partition; batch = taken_before }))
    (Done (bodies.Offset 0))
    ∷ entry 1 (Produce (sends (producer 0) 0 1)) (Done (bodies.Offset 0))
    ∷ entry 1 (Produce (sends (producer 0) 1 2)) (Done (bodies.Offset 1))
    ∷ entry 2 (OffsetFetch position) (Done (bodies.Commit None))
    ∷ entry 2 (Fetch (fetch_from 0)) (Done (bodies.Records ((0, plain) ∷ (1, message 2) ∷ [])))
    ∷ []

abbrev pub introduced : View
introduced = with_producer opening_view 0

abbrev with_its : View
with_its = with_batch introduced here taken_before

abbrev with_second : View
with_second = with_batch with_its here (batch (producer 0) 1 2)

other_repeats : IsHistory opening_view in_between with_second
other_repeats = (
  introduced,
  given_by opening_view (producer 0) (first_id 0),
  (
    with_its,
    ((0, omega arith, refl), same with_its),
    (
      with_its,
      ((0, omega arith, refl), same with_its),
      (
        with_second,
        ((0, omega arith, refl), same with_second),
        (
          with_second,
          (refl, same with_second),
          (with_second, (record { count = 2; body_is = refl }, same with_second), same with_second),
        ),
      ),
    ),
  ),
)

abbrev pub two_sent : List router.Move
two_sent =
    router.Move.Recorded change (event 1)
    ∷ router.Move.Recorded change (event 2)
    ∷ router.Move.Called (call InitProducerId (Some (gives (producer 0)))) false
    ∷ router.Move.Took (held 1)
    ∷ router.Move.Called (call (Produce (sends (producer 0) 0 1)) (Some (Done (bodies.Offset 0)))) true
    ∷ router.Move.Took (held 2)
    ∷ router.Move.Called (call (Produce (sends (producer 0) 1 2)) (Some (Done (bodies.Offset 1)))) true
    ∷ []

pub two_run : router.IsRouterRun (dispatch_of target) router.start two_sent (after_all router.start two_sent)
two_run = (
  record { fits = refl; fresh = refl; room = omega arith },
  (
    record { fits = refl; fresh = ap (λ (b : Bool). b || false) second_is_new; room = omega arith },
    (
      (refl, refl),
      (
        (refl, refl, placed 1),
        (
          (is_sent _ (producer 0) 0 1 refl refl refl, λ _. tt),
          ((refl, refl, placed 2), ((is_sent _ (producer 0) 1 2 refl refl refl, λ _. tt), refl)),
        ),
      ),
    ),
  ),
)

two_part : IsServicePart target 1 in_between two_sent (after_all router.start two_sent)
two_part =
    record { run = two_run; served = inr (refl, inr refl, inr (refl, inr refl, inr (refl, inr refl, tt))) }

abbrev takes_second : List consumer.Move
takes_second =
    consumer.Move.Called (call (OffsetFetch position) (Some (Done (bodies.Commit None)))) 0
    ∷ consumer.Move.Called (call (Fetch (fetch_from 0))
    (Some (Done (bodies.Records ((0, plain) ∷ (1, message 2) ∷ []))))) 2
    ∷ []

second_part : IsConsumerPart subscription 2 in_between takes_second (taken_all consumer.start takes_second)
second_part = record {
  run = (
    (record { place = here; its_turn = refl; is_due = refl }, omega arith),
    ((record { place = here; its_turn = refl; is_due = refl }, omega arith), refl),
  );
  served = inr (refl, inr refl, inr (refl, inr refl, tt));
}

second_alone :
    taken_ids (taken_of_aggregate (taken_all consumer.start takes_second).inbox (rows_of two_sent) (codes "a")
    (codes "b"))
    ≡ id_text (id_of 2) ∷ []
unfolding by_index
second_alone = refl

-- what begins with the second row is no beginning of both
pub left_out : IsPrefixOf (id_text (id_of 2) ∷ []) (id_text (id_of 1) ∷ id_text (id_of 2) ∷ []) → ⊥
left_out (rest, is) =
    let same : id_text (id_of 2) ≡ id_text (id_of 1) = ap (λ ids. get_or ids 0 []) is in
    let equal = (bytes_eq-Decides (id_text (id_of 1)) (id_text (id_of 1))).1 refl in
    true≢false (sym (ap (λ x. bytes_eq x (id_text (id_of 1))) same ∙ equal) ∙ first_is_new)

-- what a shared topic asks, but for one sender where the rows go
abbrev IsApartTopic : List Event → List ℕ → List Entry → Type 0
IsApartTopic rows topic journal =
    AllByRecursion (IsOwnOrApart 1 topic (ids_of rows)) journal × IsSoleCommitter 2 (codes "g") topic journal
    × IsNeverDeleted topic journal

needs_one_sender_of_its_topic :
    ((journal : List Entry) (view : View) (moves : List router.Move) (service : router.State)
    (takes : List consumer.Move) (taking : consumer.State)
    → IsHistory opening_view journal view → IsServicePart target 1 journal moves service
    → IsConsumerPart subscription 2 journal takes taking
    → IsApartTopic (rows_of_aggregate (rows_of moves) (codes "a") (codes "b")) here.topic journal
    → ReachesInOrder (rows_of moves) taking.inbox (codes "a") (codes "b"))
    → ⊥
needs_one_sender_of_its_topic law =
    left_out (subst (λ ids. IsPrefixOf ids (id_text (id_of 1) ∷ id_text (id_of 2) ∷ [])) second_alone
    (law in_between with_second two_sent (after_all router.start two_sent) takes_second
    (taken_all consumer.start takes_second) other_repeats two_part second_part (apart, alone, never_deleted)).begins)
  where
    apart : AllByRecursion (IsOwnOrApart 1 (codes "t") (ids_of (row 1 ∷ row 2 ∷ []))) in_between
    apart = (λ p. absurd p, (λ p. inr (refl, tt), (λ p. inl refl, (λ p. inl refl, (λ p. absurd p, (λ p. absurd p, tt))))))

    alone : IsSoleCommitter 2 (codes "g") (codes "t") in_between
    alone = grind (arith, nat_tests)

    never_deleted : IsNeverDeleted (codes "t") in_between
    never_deleted = grind (arith, nat_tests)
