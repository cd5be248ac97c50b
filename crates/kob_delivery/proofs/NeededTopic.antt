-- Each premise is needed, further: where a topic may be deleted between two rows, and where others may send a row's record
-- again.
use Rattle.kob_delivery.proofs.ExampleWords.{Bool, DeleteTopics, Done, Entry, Event, Fetch, InitProducerId, IsConsumerPart, IsDelivered, IsHistory, IsNeverDeleted, IsPrefixOf, IsServicePart, IsSoleCommitter, IsSoleProducer, List, None, OffsetFetch, Place, Produce, ReachesInOrder, Record, Some, Target, View, [], ap, arith, bytes_eq, codes, copies_of, dispatch_of, false, filter, filter_map, firsts, goes_to, id_text, ids_of, inr, nat_tests, opening_view, records_of, refl, restarts_of, routed_to, rows_of, subst, taken_ids, taken_of_aggregate, carried_id, true, with_batch, with_producer, without_topic, ℕ, ◌+◌, ◌||◌, ◌∷◌, ◌≡◌, ◌≤◌}
use Rattle.uuid.specs.Text.{by_index}
use Rattle.kob_rights.specs.declared.reply.Body.TheVariants as bodies
use Rattle.kob_router.specs.Run as router
use Rattle.kob_inbox.specs.Run as consumer
use Rattle.kob_delivery.proofs.Example.{after_all, call, entry, first_id, given_by, gives, is_sent, placed, position, same, second_id, sends, subscription, taken_all}
use Rattle.kob_delivery.proofs.Needed.{fetch_from, left_out, sent, view_with}
use Rattle.kob_delivery.proofs.Samples.{batch, change, event, goes_here, held, here, id_of, message, producer, row, second_is_new, target}

-- Worker 3 deletes the topic after the first row was sent. The router begins anew and sends the second: the topic, and
-- what the consumer takes in, begin with the second row.

abbrev journal : List Entry
journal =
    entry 1 InitProducerId (gives (producer 0))
    ∷ entry 1 (Produce (sends (producer 0) 0 1)) (Done (bodies.Offset 0))
    ∷ entry 3 (DeleteTopics (record { name = here.topic })) (Done bodies.Deleted)
    ∷ entry 1 InitProducerId (gives (producer 1))
    ∷ entry 1 (Produce (sends (producer 1) 0 2)) (Done (bodies.Offset 0))
    ∷ entry 2 (OffsetFetch position) (Done (bodies.Commit None))
    ∷ entry 2 (Fetch (fetch_from 0)) (Done (bodies.Records ((0, message 2) ∷ [])))
    ∷ []

abbrev view_0 : View
view_0 = with_producer opening_view 0

abbrev view_1 : View
view_1 = with_batch view_0 here (batch (producer 0) 0 1)

abbrev view_2 : View
view_2 = without_topic view_1 here.topic

abbrev view_3 : View
view_3 = with_producer view_2 1

abbrev at_end : View
at_end = with_batch view_3 here (batch (producer 1) 0 2)

history : IsHistory opening_view journal at_end
history = (
  view_0,
  given_by opening_view (producer 0) (first_id 0),
  (
    view_1,
    ((0, omega arith, refl), same view_1),
    (
      view_2,
      same view_2,
      (
        view_3,
        given_by view_2 (producer 1) (second_id 0 1 (λ e. omega (arith, e))),
        (
          at_end,
          ((1, omega arith, refl), same at_end),
          (
            at_end,
            (refl, same at_end),
            (at_end, (record { count = 1; body_is = refl }, same at_end), same at_end),
          ),
        ),
      ),
    ),
  ),
)

abbrev moves : List router.Move
moves =
    router.Move.Recorded change (event 1)
    ∷ router.Move.Recorded change (event 2)
    ∷ router.Move.Called (call InitProducerId (Some (gives (producer 0)))) false
    ∷ router.Move.Took (held 1)
    ∷ router.Move.Called (call (Produce (sends (producer 0) 0 1)) (Some (Done (bodies.Offset 0)))) true
    ∷ router.Move.Restarted
    ∷ router.Move.Called (call InitProducerId (Some (gives (producer 1)))) false
    ∷ router.Move.Took (held 2)
    ∷ router.Move.Called (call (Produce (sends (producer 1) 0 2)) (Some (Done (bodies.Offset 0)))) true
    ∷ []

run : router.IsRouterRun (dispatch_of target) router.start moves (after_all router.start moves)
run = (
  record { fits = refl; fresh = refl; room = omega arith },
  (
    record { fits = refl; fresh = ap (λ (b : Bool). b || false) second_is_new; room = omega arith },
    (
      (refl, refl),
      (
        (refl, refl, placed 1),
        (
          (is_sent _ (producer 0) 0 1 refl refl refl, λ _. tt),
          (
            tt,
            ((refl, refl), ((refl, refl, placed 2), ((is_sent _ (producer 1) 0 2 refl refl refl, λ _. tt), refl))),
          ),
        ),
      ),
    ),
  ),
)

part : IsServicePart target 1 journal moves (after_all router.start moves)
part = record {
  run = run;
  served = inr (refl, inr refl, inr (refl, inr refl, inr (refl, inr refl, inr (refl, inr refl, tt))));
}

sole_producer : IsSoleProducer 1 (codes "t") journal
sole_producer = grind (arith, nat_tests)

-- of the topic

second_told_alone : firsts bytes_eq (filter_map carried_id (records_of (at_end.log here))) ≡ id_text (id_of 2) ∷ []
unfolding by_index
second_told_alone = refl

both_pass : {A : Type 0} (test : A → Bool) (x y : A) → test x ≡ true → test y ≡ true
    → filter test (x ∷ y ∷ []) ≡ x ∷ y ∷ []
both_pass test x y first second = rw (first, second) refl

both_routed : ids_of (routed_to (dispatch_of target) here (row 1 ∷ row 2 ∷ [])) ≡ ids_of (row 1 ∷ row 2 ∷ [])
both_routed =
    ap ids_of
    (both_pass (λ (r : Event). goes_to here (dispatch_of target r)) (row 1) (row 2) (ap (goes_to here) (goes_here 1))
    (ap (goes_to here) (goes_here 2)))

needs_a_kept_topic :
    ((t : Target) (worker : ℕ) (journal : List Entry) (view : View) (moves : List router.Move) (now : router.State)
    (place : Place)
    → IsHistory opening_view journal view → IsServicePart t worker journal moves now
    → IsSoleProducer worker place.topic journal
    → IsDelivered (dispatch_of t) place (rows_of moves) (records_of (view.log place)))
    → ⊥
needs_a_kept_topic law =
    let begins = (law target 1 journal at_end moves (after_all router.start moves) here history part sole_producer).ids in
    left_out (subst (λ ids. IsPrefixOf ids (ids_of (row 1 ∷ row 2 ∷ []))) second_told_alone
    (subst (IsPrefixOf (firsts bytes_eq (filter_map carried_id (records_of (at_end.log here))))) both_routed begins))

-- of an inbox

abbrev takes : List consumer.Move
takes =
    consumer.Move.Called (call (OffsetFetch position) (Some (Done (bodies.Commit None)))) 0
    ∷ consumer.Move.Called (call (Fetch (fetch_from 0)) (Some (Done (bodies.Records ((0, message 2) ∷ []))))) 1
    ∷ []

consumer_part : IsConsumerPart subscription 2 journal takes (taken_all consumer.start takes)
consumer_part = record {
  run = (
    (record { place = here; its_turn = refl; is_due = refl }, omega arith),
    ((record { place = here; its_turn = refl; is_due = refl }, omega arith), refl),
  );
  served = inr (refl, inr refl, inr (refl, inr refl, tt));
}

second_taken_alone :
    taken_ids (taken_of_aggregate (taken_all consumer.start takes).inbox (rows_of moves) (codes "a") (codes "b"))
    ≡ id_text (id_of 2) ∷ []
unfolding by_index
second_taken_alone = refl

sole_committer : IsSoleCommitter 2 (codes "g") (codes "t") journal
sole_committer = grind (arith, nat_tests)

inbox_needs_a_kept_topic :
    ((journal : List Entry) (view : View) (moves : List router.Move) (service : router.State)
    (takes : List consumer.Move) (taking : consumer.State)
    → IsHistory opening_view journal view → IsServicePart target 1 journal moves service
    → IsConsumerPart subscription 2 journal takes taking
    → IsSoleProducer 1 here.topic journal → IsSoleCommitter 2 subscription.group here.topic journal
    → ReachesInOrder (rows_of moves) taking.inbox (codes "a") (codes "b"))
    → ⊥
inbox_needs_a_kept_topic law =
    left_out (subst (λ ids. IsPrefixOf ids (id_text (id_of 1) ∷ id_text (id_of 2) ∷ [])) second_taken_alone
    (law journal at_end moves (after_all router.start moves) takes (taken_all consumer.start takes) history part
    consumer_part sole_producer sole_committer).begins)

-- Where others may send, a row may stand there twice though the router was never started again.

abbrev twice : List Record
twice = message 1 ∷ message 1 ∷ []

other_sends_twice : IsHistory opening_view (sent twice ∷ []) (view_with twice)
other_sends_twice = (view_with twice, (tt, same (view_with twice)), same (view_with twice))

no_part : IsServicePart target 1 (sent twice ∷ []) [] router.start
no_part = record { run = refl; served = tt }

two_copies : copies_of (id_text (id_of 1)) (records_of ((view_with twice).log here)) ≡ 2
unfolding by_index
two_copies = refl

repeats_need_a_sole_producer :
    ((t : Target) (worker : ℕ) (journal : List Entry) (view : View) (moves : List router.Move) (now : router.State)
    (place : Place) (id : List ℕ)
    → IsHistory opening_view journal view → IsServicePart t worker journal moves now
    → IsNeverDeleted place.topic journal
    → copies_of id (records_of (view.log place)) ≤ 1 + restarts_of moves)
    → ⊥
repeats_need_a_sole_producer law =
    let few : 2 ≤ 1 =
    subst (λ n. n ≤ 1) two_copies
    (law target 1 (sent twice ∷ []) (view_with twice) [] router.start here (id_text (id_of 1)) other_sends_twice no_part
    (λ p. p, tt)) in
    absurd (omega (arith, few))
