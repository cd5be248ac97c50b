-- Each premise of the laws of inboxes is needed, further: where others may commit, a row may be left out, and where others
-- may send a row's event id to another topic, the inbox may hold another record in its place.
use Rattle.kob_delivery.proofs.ExampleWords.{AllByRecursion, AreRoutedTo, Done, Entry, Fetch, InitProducerId, Intake, IsConsumerPart, IsCopy, IsHistory, IsNeverDeleted, IsPrefixOf, IsServicePart, IsSoleCommitter, IsSoleProducer, List, None, OffsetCommit, OffsetFetch, Produce, ReachesInOrder, Record, Some, Subscription, View, [], arith, codes, dispatch_of, id_text, inr, nat_tests, opening_view, refl, rows_of, rows_of_aggregate, subst, taken_ids, taken_of_aggregate, with_batch, with_commit, ◌∷◌, ◌≡◌}
use Rattle.uuid.specs.Text.{by_index}
use Rattle.kob_rights.specs.declared.on_groups.OffsetFetch.{OffsetFetch as PositionRequest}
use Rattle.kob_rights.specs.declared.on_partitions.Fetch.{Fetch as FetchRequest}
use Rattle.kob_rights.specs.declared.reply.Body.TheVariants as bodies
use Rattle.kob_router.specs.Run as router
use Rattle.kob_inbox.specs.Run as consumer
use Rattle.kob_delivery.proofs.Example.{after_all, call, entry, first_id, given_by, gives, position, same, sends, subscription, taken_all}
use Rattle.kob_delivery.proofs.Needed.{fetch_from, introduced, left_out, loose, takes_one, two_run, two_sent}
use Rattle.kob_delivery.proofs.Samples.{batch, change, event, here, id_of, message, producer, row, target}
use Rattle.kob_delivery.proofs.SharedTopics.{none_goes_there, there}

-- worker 3 commits the offset 1 for the consumer, which then begins with the second row

abbrev journal : List Entry
journal =
    entry 1 InitProducerId (gives (producer 0))
    ∷ entry 1 (Produce (sends (producer 0) 0 1)) (Done (bodies.Offset 0))
    ∷ entry 1 (Produce (sends (producer 0) 1 2)) (Done (bodies.Offset 1))
    ∷ entry 3 (OffsetCommit (record { group = codes "g"; topic = here.topic; partition = here.partition; offset = 1 }))
    (Done bodies.Committed)
    ∷ entry 2 (OffsetFetch position) (Done (bodies.Commit (Some 1)))
    ∷ entry 2 (Fetch (fetch_from 1)) (Done (bodies.Records ((1, message 2) ∷ [])))
    ∷ []

abbrev with_first : View
with_first = with_batch introduced here (batch (producer 0) 0 1)

abbrev with_both : View
with_both = with_batch with_first here (batch (producer 0) 1 2)

abbrev committed : View
committed = with_commit with_both (codes "g") here 1

history : IsHistory opening_view journal committed
history = (
  introduced,
  given_by opening_view (producer 0) (first_id 0),
  (
    with_first,
    ((0, omega arith, refl), same with_first),
    (
      with_both,
      ((0, omega arith, refl), same with_both),
      (
        committed,
        same committed,
        (
          committed,
          (refl, same committed),
          (committed, (record { count = 1; body_is = refl }, same committed), same committed),
        ),
      ),
    ),
  ),
)

service_part : IsServicePart target 1 journal two_sent (after_all router.start two_sent)
service_part =
    record { run = two_run; served = inr (refl, inr refl, inr (refl, inr refl, inr (refl, inr refl, tt))) }

consumer_part : IsConsumerPart subscription 2 journal takes_one (taken_all consumer.start takes_one)
consumer_part = record {
  run = (
    (record { place = here; its_turn = refl; is_due = refl }, omega arith),
    ((record { place = here; its_turn = refl; is_due = refl }, omega arith), refl),
  );
  served = inr (refl, inr refl, inr (refl, inr refl, tt));
}

second_alone :
    taken_ids (taken_of_aggregate (taken_all consumer.start takes_one).inbox (rows_of two_sent) (codes "a")
    (codes "b"))
    ≡ id_text (id_of 2) ∷ []
unfolding by_index
second_alone = refl

sole_producer : IsSoleProducer 1 (codes "t") journal
sole_producer = grind (arith, nat_tests)

never_deleted : IsNeverDeleted (codes "t") journal
never_deleted = grind (arith, nat_tests)

inbox_needs_a_sole_committer :
    ((journal : List Entry) (view : View) (moves : List router.Move) (service : router.State)
    (takes : List consumer.Move) (taking : consumer.State)
    → IsHistory opening_view journal view → IsServicePart target 1 journal moves service
    → IsConsumerPart subscription 2 journal takes taking
    → IsSoleProducer 1 here.topic journal → IsNeverDeleted here.topic journal
    → ReachesInOrder (rows_of moves) taking.inbox (codes "a") (codes "b"))
    → ⊥
inbox_needs_a_sole_committer law =
    left_out (subst (λ ids. IsPrefixOf ids (id_text (id_of 1) ∷ id_text (id_of 2) ∷ [])) second_alone
    (law journal committed two_sent (after_all router.start two_sent) takes_one (taken_all consumer.start takes_one)
    history service_part consumer_part sole_producer never_deleted).begins)

-- worker 3 sends a record with the row's event id, and without its key, to a topic where no row goes

abbrev stray : Record
stray =
    record { key = None; value = codes "p"; headers = record { name = codes "id"; value = id_text (id_of 1) } ∷ [] }

abbrev its_position : PositionRequest
its_position = record { group = codes "g"; topic = there.topic; partition = there.partition }

abbrev its_fetch : FetchRequest
its_fetch = record { topic = there.topic; partition = there.partition; offset = 0; max = 10 }

abbrev strayed : List Entry
strayed =
    entry 3
    (Produce (record { topic = there.topic; partition = there.partition; batch = loose (stray ∷ []) }))
    (Done (bodies.Offset 0))
    ∷ entry 2 (OffsetFetch its_position) (Done (bodies.Commit None))
    ∷ entry 2 (Fetch its_fetch) (Done (bodies.Records ((0, stray) ∷ [])))
    ∷ []

abbrev with_stray : View
with_stray = with_batch opening_view there (loose (stray ∷ []))

stray_history : IsHistory opening_view strayed with_stray
stray_history = (
  with_stray,
  (tt, same with_stray),
  (
    with_stray,
    (refl, same with_stray),
    (with_stray, (record { count = 1; body_is = refl }, same with_stray), same with_stray),
  ),
)

abbrev recorded : List router.Move
recorded = router.Move.Recorded change (event 1) ∷ []

recorded_part : IsServicePart target 1 strayed recorded (after_all router.start recorded)
recorded_part = record { run = (record { fits = refl; fresh = refl; room = omega arith }, refl); served = tt }

abbrev its_subscription : Subscription
its_subscription = record { group = codes "g"; assignment = there ∷ []; max = 10 }

abbrev takes_stray : List consumer.Move
takes_stray =
    consumer.Move.Called (call (OffsetFetch its_position) (Some (Done (bodies.Commit None)))) 0
    ∷ consumer.Move.Called (call (Fetch its_fetch) (Some (Done (bodies.Records ((0, stray) ∷ []))))) 1
    ∷ []

abbrev taken_there : consumer.State → List consumer.Move → consumer.State
taken_there s [] = s
taken_there s (m ∷ ms) = taken_there (consumer.after its_subscription s m) ms

stray_part : IsConsumerPart its_subscription 2 strayed takes_stray (taken_there consumer.start takes_stray)
stray_part = record {
  run = (
    (record { place = there; its_turn = refl; is_due = refl }, omega arith),
    ((record { place = there; its_turn = refl; is_due = refl }, omega arith), refl),
  );
  served = inr (refl, inr refl, inr (refl, inr refl, tt));
}

abbrev stray_intake : Intake
stray_intake = record {
  id = id_text (id_of 1);
  topic = there.topic;
  partition = there.partition;
  offset = 0;
  key = None;
  value = codes "p";
}

stray_alone :
    taken_of_aggregate (taken_there consumer.start takes_stray).inbox (rows_of recorded) (codes "a") (codes "b")
    ≡ stray_intake ∷ []
unfolding by_index
stray_alone = refl

-- what a shared topic asks, but for the event ids of what others send where no row goes
abbrev IsSharedByAny : List Entry → Type 0
IsSharedByAny journal =
    (AreRoutedTo (dispatch_of target) (row 1 ∷ []) there.topic → IsSoleProducer 1 there.topic journal)
    × IsSoleCommitter 2 (codes "g") there.topic journal × IsNeverDeleted there.topic journal

inbox_needs_others_apart :
    ((journal : List Entry) (view : View) (service : router.State) (takes : List consumer.Move)
    (taking : consumer.State)
    → IsHistory opening_view journal view → IsServicePart target 1 journal recorded service
    → IsConsumerPart its_subscription 2 journal takes taking → IsSharedByAny journal
    → ReachesInOrder (rows_of recorded) taking.inbox (codes "a") (codes "b"))
    → ⊥
inbox_needs_others_apart law =
    let copies =
    subst (AllByRecursion (IsCopy (rows_of_aggregate (rows_of recorded) (codes "a") (codes "b")))) stray_alone
    (law strayed with_stray (after_all router.start recorded) takes_stray (taken_there consumer.start takes_stray)
    stray_history recorded_part stray_part (none_here, its_committer, stays)).copies in
    let key : None ≡ Some copies.0.row.aggregate_id = copies.0.key in
    cc
  where
    none_here : AreRoutedTo (dispatch_of target) (row 1 ∷ []) there.topic → IsSoleProducer 1 there.topic strayed
    none_here some = absurd (none_goes_there some some.there)

    its_committer : IsSoleCommitter 2 (codes "g") there.topic strayed
    its_committer = grind (arith, nat_tests)

    stays : IsNeverDeleted there.topic strayed
    stays = grind (arith, nat_tests)
