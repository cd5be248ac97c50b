-- A history in which a reply is lost, the router begins anew, and a stranger is denied: two rows, three records,
-- two events in the inbox. All that the laws ask holds of it.
use Rattle.kob_delivery.proofs.ExampleWords.{ArePrivate, Bool, Call, Contains, Denied, Done, Entry, Fetch, Gives, InitProducerId, IsConsumerPart, IsHistory, IsPrivate, IsSameView, IsServicePart, List, None, OffsetCommit, OffsetFetch, Option, Place, Produce, Producer, ReachesInOrder, Record, Reply, Request, Some, Subscription, TopicAuthorizationFailed, View, [], ap, arith, codes, copies_of, dispatch_of, false, holds_a_prefix, id_text, inr, nat_tests, opening_view, place_of, records_of, refl, restarts_of, rows_of, rows_of_aggregate, subst, suc, sym, taken_ids, true, true≢false, with_batch, with_commit, with_producer, zero, ℕ, ◌+◌, ◌||◌, ◌∷◌, ◌≡◌}
use Rattle.uuid.specs.Text.{by_index}
use Rattle.kob_rights.specs.declared.on_groups.OffsetCommit.{OffsetCommit as CommitRequest}
use Rattle.kob_rights.specs.declared.on_groups.OffsetFetch.{OffsetFetch as PositionRequest}
use Rattle.kob_rights.specs.declared.on_partitions.Fetch.{Fetch as FetchRequest}
use Rattle.kob_rights.specs.declared.on_partitions.Produce.{Produce as ProduceRequest}
use Rattle.kob_rights.specs.declared.reply.Body.TheVariants as bodies
use Rattle.kob_router.specs.Run as router
use Rattle.kob_inbox.specs.Run as consumer
use Rattle.kob_delivery.proofs.Samples.{batch, change, event, goes_here, held, here, id_of, message, producer, row, second_is_new, target}

-- what is asked

abbrev pub sends : Producer → ℕ → ℕ → ProduceRequest
sends p base n = record { topic = here.topic; partition = here.partition; batch = batch p base n }

abbrev pub gives : Producer → Reply
gives p = Done (bodies.Producer p.id p.epoch)

abbrev one : Producer
one = producer 0

abbrev other : Producer
other = producer 1

abbrev pub position : PositionRequest
position = record { group = codes "g"; topic = here.topic; partition = here.partition }

abbrev fetch : FetchRequest
fetch = record { topic = here.topic; partition = here.partition; offset = 0; max = 10 }

abbrev commit : CommitRequest
commit = record { group = codes "g"; topic = here.topic; partition = here.partition; offset = 3 }

abbrev found : List (ℕ × Record)
found = (0, message 1) ∷ (1, message 2) ∷ (2, message 2) ∷ []

-- the journal: the service is worker 1, the consumer worker 2, and a stranger worker 3

abbrev pub entry : ℕ → Request → Reply → Entry
entry worker request reply = record {
  worker = worker;
  event = record { principal = codes "User:a"; host = codes "h"; request = request };
  reply = reply;
}

abbrev journal : List Entry
journal =
    entry 1 InitProducerId (gives one)
    ∷ entry 1 (Produce (sends one 0 1)) (Done (bodies.Offset 0))
    ∷ entry 2 (OffsetFetch position) (Done (bodies.Commit None))
    ∷ entry 1 (Produce (sends one 1 2)) (Done (bodies.Offset 1))
    ∷ entry 1 InitProducerId (gives other)
    ∷ entry 3 (Produce (sends one 1 2)) (Denied TopicAuthorizationFailed [])
    ∷ entry 1 (Produce (sends other 0 2)) (Done (bodies.Offset 2))
    ∷ entry 2 (Fetch fetch) (Done (bodies.Records found))
    ∷ entry 2 (OffsetCommit commit) (Done bodies.Committed)
    ∷ []

-- what the service does, with a first producer and then another: the second reply is lost, and the router begins anew

abbrev pub call : Request → Option Reply → Call
call request heard = record { request = request; heard = heard }

abbrev pub moves_of : Producer → Producer → List router.Move
moves_of p q =
    router.Move.Recorded change (event 1)
    ∷ router.Move.Recorded change (event 2)
    ∷ router.Move.Called (call InitProducerId (Some (gives p))) false
    ∷ router.Move.Took (held 1)
    ∷ router.Move.Called (call (Produce (sends p 0 1)) (Some (Done (bodies.Offset 0)))) true
    ∷ router.Move.Took (held 2)
    ∷ router.Move.Called (call (Produce (sends p 1 2)) None) false
    ∷ router.Move.Restarted
    ∷ router.Move.Called (call InitProducerId (Some (gives q))) false
    ∷ router.Move.Took (held 2)
    ∷ router.Move.Called (call (Produce (sends q 0 2)) (Some (Done (bodies.Offset 2)))) true
    ∷ []

abbrev moves : List router.Move
moves = moves_of one other

abbrev pub after_all : router.State → List router.Move → router.State
after_all s [] = s
after_all s (m ∷ ms) = after_all (router.after s m) ms

pub placed : (n : ℕ) → place_of (dispatch_of target (row n)) ≡ Some here
placed n = ap place_of (goes_here n)

-- what is in hand is sent
pub is_sent : (s : router.State) (p : Producer) (base n : ℕ) → s.producer ≡ Some p → s.hand ≡ Some (held n)
    → Rattle.kob_router.specs.Run.sequence_of s.sequences here ≡ base
    → router.IsSending (dispatch_of target) s (sends p base n)
is_sent s p base n has_producer has_hand next = record {
  producer = p;
  hand = held n;
  message = message n;
  has_producer = has_producer;
  has_hand = has_hand;
  routed = goes_here n;
  same_topic = refl;
  same_partition = refl;
  same_batch = ap (λ (k : ℕ). batch p k n) (sym next);
}

pub never : {A : Type 0} → false ≡ true → A
never e = absurd (true≢false (sym e))

pub runs : (p q : Producer)
    → router.IsRouterRun (dispatch_of target) router.start (moves_of p q) (after_all router.start (moves_of p q))
runs p q = (
  record { fits = refl; fresh = refl; room = omega arith },
  (
    record { fits = refl; fresh = ap (λ (b : Bool). b || false) second_is_new; room = omega arith },
    (
      (refl, refl),
      (
        (refl, refl, placed 1),
        (
          (is_sent _ p 0 1 refl refl refl, λ _. tt),
          (
            (refl, refl, placed 2),
            (
              (is_sent _ p 1 2 refl refl refl, never),
              (tt, ((refl, refl), ((refl, refl, placed 2), ((is_sent _ q 0 2 refl refl refl, λ _. tt), refl)))),
            ),
          ),
        ),
      ),
    ),
  ),
)

service_part : IsServicePart target 1 journal moves (after_all router.start moves)
service_part = record {
  run = runs one other;
  served = grind (arith, nat_tests);
}

-- what the consumer does

abbrev pub subscription : Subscription
subscription = record { group = codes "g"; assignment = here ∷ []; max = 10 }

abbrev takes : List consumer.Move
takes =
    consumer.Move.Called (call (OffsetFetch position) (Some (Done (bodies.Commit None)))) 0
    ∷ consumer.Move.Called (call (Fetch fetch) (Some (Done (bodies.Records found)))) 3
    ∷ consumer.Move.Called (call (OffsetCommit commit) (Some (Done bodies.Committed))) 0
    ∷ []

abbrev pub taken_all : consumer.State → List consumer.Move → consumer.State
taken_all s [] = s
taken_all s (m ∷ ms) = taken_all (consumer.after subscription s m) ms

consumer_part : IsConsumerPart subscription 2 journal takes (taken_all consumer.start takes)
consumer_part = record {
  run = (
    (record { place = here; its_turn = refl; is_due = refl }, omega arith),
    (
      (record { place = here; its_turn = refl; is_due = refl }, omega arith),
      ((record { place = here; its_turn = refl; is_due = refl }, omega arith), refl),
    ),
  );
  served = inr (refl, inr refl, inr (refl, inr refl, inr (refl, inr refl, tt)));
}

-- what the laws see of the broker

pub same : (v : View) → IsSameView v v
same v = record { log = λ place. refl; committed = λ group place. refl; given = refl }

abbrev view_0 : View
view_0 = with_producer opening_view 0

abbrev view_1 : View
view_1 = with_batch view_0 here (batch one 0 1)

abbrev view_2 : View
view_2 = with_batch view_1 here (batch one 1 2)

abbrev view_3 : View
view_3 = with_producer view_2 1

abbrev view_4 : View
view_4 = with_batch view_3 here (batch other 0 2)

abbrev at_end : View
at_end = with_commit view_4 (codes "g") here 3

-- an id that was not given before is given
pub given_by : (v : View) (p : Producer) → (Contains v.given p.id → ⊥)
    → Gives v (bodies.Producer p.id p.epoch) (with_producer v p.id)
given_by v p first = record {
  id = p.id;
  epoch = p.epoch;
  body_is = refl;
  first = first;
  then_given = same (with_producer v p.id);
}

pub first_id : (id : ℕ) → Contains [] id → ⊥
first_id id (k, within, at) = absurd (omega arith)

pub second_id : (a b : ℕ) → (a ≡ b → ⊥) → Contains (a ∷ []) b → ⊥
second_id a b apart (zero, within, at) = apart at
second_id a b apart (suc k, within, at) = absurd (omega arith)

history : IsHistory opening_view journal at_end
history = (
  view_0,
  given_by opening_view one (first_id 0),
  (
    view_1,
    ((0, omega arith, refl), same view_1),
    (
      view_1,
      (refl, same view_1),
      (
        view_2,
        ((0, omega arith, refl), same view_2),
        (
          view_3,
          given_by view_2 other (second_id 0 1 (λ e. omega (arith, e))),
          (
            view_3,
            same view_3,
            (
              view_4,
              ((1, omega arith, refl), same view_4),
              (view_4, (record { count = 3; body_is = refl }, same view_4), (at_end, same at_end, same at_end)),
            ),
          ),
        ),
      ),
    ),
  ),
)

-- nobody else sends, commits or deletes

private_topic : IsPrivate 1 2 (codes "g") (codes "t") journal
private_topic = record {
  producer = grind (arith, nat_tests);
  committer = grind (arith, nat_tests);
  kept = grind (arith, nat_tests);
}

all_private : ArePrivate 1 2 (codes "g") (here ∷ []) journal
all_private place (zero, within, at) =
    subst (λ (p : Place). IsPrivate 1 2 (codes "g") p.topic journal) at private_topic
all_private place (suc k, within, at) = absurd (omega arith)

-- so the law says of this history

reached : ReachesInOrder (rows_of moves) (taken_all consumer.start takes).inbox (codes "a") (codes "b")
reached =
    holds_a_prefix target subscription 1 2 journal at_end moves (after_all router.start moves) takes
    (taken_all consumer.start takes) (codes "a") (codes "b") history service_part consumer_part all_private

-- and this is what there is at the end: three records, two events, and the mark at the second row

records_at_end : records_of (at_end.log here) ≡ message 1 ∷ message 2 ∷ message 2 ∷ []
records_at_end = refl

-- the second row stands there twice: as often as the router was started
copies_at_end : copies_of (id_text (id_of 2)) (records_of (at_end.log here)) ≡ 1 + restarts_of moves
unfolding by_index
copies_at_end = refl

mark_at_end : (after_all router.start moves).outbox.mark ≡ 2
mark_at_end = refl

rows_at_end : rows_of_aggregate (rows_of moves) (codes "a") (codes "b") ≡ row 1 ∷ row 2 ∷ []
rows_at_end = refl

inbox_at_end : taken_ids (taken_all consumer.start takes).inbox ≡ id_text (id_of 1) ∷ id_text (id_of 2) ∷ []
unfolding by_index
inbox_at_end = refl
