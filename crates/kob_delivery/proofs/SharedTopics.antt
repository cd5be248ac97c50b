-- A history of a consumer with a topic of its service and one of another service, which sends an event of its own: all
-- that the law of topics of several services asks holds of it, and the one for private topics does not apply.
use Rattle.kob_delivery.proofs.ExampleWords.{ArePrivate, AreRoutedTo, AreSharedTopics, Batch, Bool, Contains, Done, Entry, Event, Fetch, InitProducerId, IsConsumerPart, IsHistory, IsSharedTopic, IsServicePart, List, None, OffsetCommit, OffsetFetch, Place, Produce, Producer, ReachesInOrder, Some, Subscription, View, [], ap, arith, codes, dispatch_of, false, get_or, holds_a_prefix_among, id_text, ids_of, inl, inr, is_one_of, nat_tests, opening_view, place_of, refl, rows_of, rows_of_aggregate, subst, suc, sym, taken_ids, carried_id, true, with_batch, with_commit, with_producer, zero, ◌||◌, ◌∙◌, ◌∷◌, ◌≡◌}
use Rattle.uuid.specs.Text.{by_index}
use Rattle.kob_rights.specs.declared.on_groups.OffsetCommit.{OffsetCommit as CommitRequest}
use Rattle.kob_rights.specs.declared.on_groups.OffsetFetch.{OffsetFetch as PositionRequest}
use Rattle.kob_rights.specs.declared.on_partitions.Fetch.{Fetch as FetchRequest}
use Rattle.kob_rights.specs.declared.on_partitions.Produce.{Produce as ProduceRequest}
use Rattle.kob_rights.specs.declared.reply.Body.TheVariants as bodies
use Rattle.kob_router.specs.Run as router
use Rattle.kob_inbox.specs.Run as consumer
use Rattle.kob_delivery.proofs.Example.{after_all, call, entry, first_id, given_by, gives, is_sent, placed, same, sends}
use Rattle.kob_delivery.proofs.Samples.{batch, change, event, first_is_new, held, here, id_of, message, producer, second_told, target}

-- the topic of the other service
abbrev pub there : Place
there = record { topic = codes "u"; partition = 0 }

abbrev one : Producer
one = producer 0

abbrev position : Place → PositionRequest
position p = record { group = codes "g"; topic = p.topic; partition = p.partition }

abbrev fetch : Place → FetchRequest
fetch p = record { topic = p.topic; partition = p.partition; offset = 0; max = 10 }

abbrev commit : CommitRequest
commit = record { group = codes "g"; topic = here.topic; partition = here.partition; offset = 1 }

-- what worker 3 sends
abbrev its_batch : Batch
its_batch = record { idem = None; records = message 2 ∷ [] }

abbrev its_request : ProduceRequest
its_request = record { topic = there.topic; partition = there.partition; batch = its_batch }

abbrev journal : List Entry
journal =
    entry 1 InitProducerId (gives one)
    ∷ entry 1 (Produce (sends one 0 1)) (Done (bodies.Offset 0))
    ∷ entry 3 (Produce its_request) (Done (bodies.Offset 0))
    ∷ entry 2 (OffsetFetch (position here)) (Done (bodies.Commit None))
    ∷ entry 2 (Fetch (fetch here)) (Done (bodies.Records ((0, message 1) ∷ [])))
    ∷ entry 2 (OffsetCommit commit) (Done bodies.Committed)
    ∷ entry 2 (OffsetFetch (position there)) (Done (bodies.Commit None))
    ∷ entry 2 (Fetch (fetch there)) (Done (bodies.Records ((0, message 2) ∷ [])))
    ∷ []

-- what the laws see of the broker

abbrev view_0 : View
view_0 = with_producer opening_view 0

abbrev view_1 : View
view_1 = with_batch view_0 here (batch one 0 1)

abbrev view_2 : View
view_2 = with_batch view_1 there its_batch

abbrev at_end : View
at_end = with_commit view_2 (codes "g") here 1

history : IsHistory opening_view journal at_end
history = (
  view_0,
  given_by opening_view one (first_id 0),
  (
    view_1,
    ((0, omega arith, refl), same view_1),
    (
      view_2,
      (tt, same view_2),
      (
        view_2,
        (refl, same view_2),
        (
          view_2,
          (record { count = 1; body_is = refl }, same view_2),
          (
            at_end,
            same at_end,
            (
              at_end,
              (refl, same at_end),
              (at_end, (record { count = 1; body_is = refl }, same at_end), same at_end),
            ),
          ),
        ),
      ),
    ),
  ),
)

-- what the service does

abbrev moves : List router.Move
moves =
    router.Move.Recorded change (event 1)
    ∷ router.Move.Called (call InitProducerId (Some (gives one))) false
    ∷ router.Move.Took (held 1)
    ∷ router.Move.Called (call (Produce (sends one 0 1)) (Some (Done (bodies.Offset 0)))) true
    ∷ []

runs : router.IsRouterRun (dispatch_of target) router.start moves (after_all router.start moves)
runs = (
  record { fits = refl; fresh = refl; room = omega arith },
  ((refl, refl), ((refl, refl, placed 1), ((is_sent _ one 0 1 refl refl refl, λ _. tt), refl))),
)

service_part : IsServicePart target 1 journal moves (after_all router.start moves)
service_part = record { run = runs; served = inr (refl, inr refl, inr (refl, inr refl, tt)) }

-- what the consumer does

abbrev both : Subscription
both = record { group = codes "g"; assignment = here ∷ there ∷ []; max = 10 }

abbrev takes : List consumer.Move
takes =
    consumer.Move.Called (call (OffsetFetch (position here)) (Some (Done (bodies.Commit None)))) 0
    ∷ consumer.Move.Called (call (Fetch (fetch here)) (Some (Done (bodies.Records ((0, message 1) ∷ []))))) 1
    ∷ consumer.Move.Called (call (OffsetCommit commit) (Some (Done bodies.Committed))) 0
    ∷ consumer.Move.Called (call (OffsetFetch (position there)) (Some (Done (bodies.Commit None)))) 0
    ∷ consumer.Move.Called (call (Fetch (fetch there)) (Some (Done (bodies.Records ((0, message 2) ∷ []))))) 1
    ∷ []

abbrev taken_all : consumer.State → List consumer.Move → consumer.State
taken_all s [] = s
taken_all s (m ∷ ms) = taken_all (consumer.after both s m) ms

consumer_part : IsConsumerPart both 2 journal takes (taken_all consumer.start takes)
consumer_part = record {
  run = (
    (record { place = here; its_turn = refl; is_due = refl }, omega arith),
    (
      (record { place = here; its_turn = refl; is_due = refl }, omega arith),
      (
        (record { place = here; its_turn = refl; is_due = refl }, omega arith),
        (
          (record { place = there; its_turn = refl; is_due = refl }, omega arith),
          ((record { place = there; its_turn = refl; is_due = refl }, omega arith), refl),
        ),
      ),
    ),
  );
  served = inr (
    refl,
    inr refl,
    inr (refl, inr refl, inr (refl, inr refl, inr (refl, inr refl, inr (refl, inr refl, tt)))),
  );
}

-- the topics are shared so

abbrev rows : List Event
rows = rows_of_aggregate (rows_of moves) (codes "a") (codes "b")

differ : {A : Type 0} → codes "u" ≡ codes "t" → A
differ same = let first : 117 ≡ 116 = ap (λ ns. get_or ns 0 0) same in absurd (omega (arith, first))

pub none_goes_there : (r : AreRoutedTo (dispatch_of target) rows (codes "u")) → Contains rows r.row → ⊥
none_goes_there r (zero, within, at) =
    let goes : Some here ≡ Some r.place =
    sym (placed 1) ∙ ap (λ (x : Event). place_of (dispatch_of target x)) at ∙ r.goes in
    let same : here ≡ r.place = cc in
    differ (sym (ap (λ (p : Place). p.topic) same ∙ r.topic_is))
none_goes_there r (suc k, within, at) = absurd (omega (arith, within))

none_carried : is_one_of (ids_of rows) (carried_id (message 2)) ≡ false
none_carried = rw second_told (ap (λ (b : Bool). b || false) first_is_new)

shared_here : IsSharedTopic (dispatch_of target) rows 1 2 (codes "g") (codes "t") journal
shared_here = record {
  producer = λ some.
      (λ p. absurd p, (λ p. refl, (λ p. differ p, (λ p. absurd p, (λ p. absurd p, (λ p. absurd p, (λ p. absurd p, (λ p. absurd p, tt))))))));
  others =
      (λ p. absurd p, (λ p. inl refl, (λ p. differ p, (λ p. absurd p, (λ p. absurd p, (λ p. absurd p, (λ p. absurd p, (λ p. absurd p, tt))))))));
  committer = grind (arith, nat_tests);
  kept = grind (arith, nat_tests);
}

shared_there : IsSharedTopic (dispatch_of target) rows 1 2 (codes "g") (codes "u") journal
shared_there = record {
  producer = λ some. absurd (none_goes_there some some.there);
  others =
      (λ p. absurd p, (λ p. inl refl, (λ p. inr (none_carried, tt), (λ p. absurd p, (λ p. absurd p, (λ p. absurd p, (λ p. absurd p, (λ p. absurd p, tt))))))));
  committer = grind (arith, nat_tests);
  kept = grind (arith, nat_tests);
}

all_shared : AreSharedTopics (dispatch_of target) rows 1 2 (codes "g") (here ∷ there ∷ []) journal
all_shared place (zero, within, at) =
    subst (λ (p : Place). IsSharedTopic (dispatch_of target) rows 1 2 (codes "g") p.topic journal) at shared_here
all_shared place (suc zero, within, at) =
    subst (λ (p : Place). IsSharedTopic (dispatch_of target) rows 1 2 (codes "g") p.topic journal) at shared_there
all_shared place (suc (suc k), within, at) = absurd (omega (arith, within))

-- they are not private to service and consumer

not_private : ArePrivate 1 2 (codes "g") (here ∷ there ∷ []) journal → ⊥
not_private private =
    let own : 3 ≡ 1 = (private there (1, omega arith, refl)).producer.1.1.0 refl in absurd (omega (arith, own))

-- so the law says of this history, and both events have arrived

reached : ReachesInOrder (rows_of moves) (taken_all consumer.start takes).inbox (codes "a") (codes "b")
reached =
    holds_a_prefix_among target both 1 2 journal at_end moves (after_all router.start moves) takes
    (taken_all consumer.start takes) (codes "a") (codes "b") history service_part consumer_part all_shared

inbox_at_end : taken_ids (taken_all consumer.start takes).inbox ≡ id_text (id_of 1) ∷ id_text (id_of 2) ∷ []
unfolding by_index
inbox_at_end = refl
