-- A history of a broker that is not this project's: it gives the producer ids 4000 and 4711 with epoch 3, and a FETCH
-- brings one record of three. All that the laws ask holds of it too.
use Rattle.kob_delivery.proofs.ExampleWords.{ArePrivate, Done, Entry, Fetch, InitProducerId, IsConsumerPart, IsHistory, IsPrivate, IsServicePart, List, None, OffsetFetch, Place, Produce, Producer, ReachesInOrder, Some, View, [], arith, codes, holds_a_prefix, id_text, inr, nat_tests, opening_view, refl, rows_of, subst, suc, taken_ids, with_batch, with_producer, zero, ◌∷◌, ◌≡◌}
use Rattle.uuid.specs.Text.{by_index}
use Rattle.kob_rights.specs.declared.on_partitions.Fetch.{Fetch as FetchRequest}
use Rattle.kob_rights.specs.declared.reply.Body.TheVariants as bodies
use Rattle.kob_router.specs.Run as router
use Rattle.kob_inbox.specs.Run as consumer
use Rattle.kob_delivery.proofs.Example.{after_all, call, entry, first_id, given_by, gives, moves_of, position, runs, same, second_id, sends, subscription, taken_all}
use Rattle.kob_delivery.proofs.Samples.{batch, here, id_of, message, target}

abbrev one : Producer
one = record { id = 4000; epoch = 3 }

abbrev other : Producer
other = record { id = 4711; epoch = 3 }

abbrev fetch : FetchRequest
fetch = record { topic = here.topic; partition = here.partition; offset = 0; max = 10 }

-- the service is worker 1, and the consumer worker 2
abbrev journal : List Entry
journal =
    entry 1 InitProducerId (gives one)
    ∷ entry 1 (Produce (sends one 0 1)) (Done (bodies.Offset 0))
    ∷ entry 1 (Produce (sends one 1 2)) (Done (bodies.Offset 1))
    ∷ entry 1 InitProducerId (gives other)
    ∷ entry 1 (Produce (sends other 0 2)) (Done (bodies.Offset 2))
    ∷ entry 2 (OffsetFetch position) (Done (bodies.Commit None))
    ∷ entry 2 (Fetch fetch) (Done (bodies.Records ((0, message 1) ∷ [])))
    ∷ []

-- what the laws see of the broker

abbrev view_0 : View
view_0 = with_producer opening_view 4000

abbrev view_1 : View
view_1 = with_batch view_0 here (batch one 0 1)

abbrev view_2 : View
view_2 = with_batch view_1 here (batch one 1 2)

abbrev view_3 : View
view_3 = with_producer view_2 4711

abbrev at_end : View
at_end = with_batch view_3 here (batch other 0 2)

history : IsHistory opening_view journal at_end
history = (
  view_0,
  given_by opening_view one (first_id 4000),
  (
    view_1,
    ((0, omega arith, refl), same view_1),
    (
      view_2,
      ((0, omega arith, refl), same view_2),
      (
        view_3,
        given_by view_2 other (second_id 4000 4711 (λ e. omega (arith, e))),
        (
          at_end,
          ((1, omega arith, refl), same at_end),
          (
            at_end,
            (refl, same at_end),
            (at_end, (record { count = 1; body_is = refl }, same at_end), same at_end),
          ),
        ),
      ),
    ),
  ),
)

-- what the service and the consumer do

abbrev moves : List router.Move
moves = moves_of one other

service_part : IsServicePart target 1 journal moves (after_all router.start moves)
service_part = record { run = runs one other; served = grind (arith, nat_tests) }

abbrev takes : List consumer.Move
takes =
    consumer.Move.Called (call (OffsetFetch position) (Some (Done (bodies.Commit None)))) 0
    ∷ consumer.Move.Called (call (Fetch fetch) (Some (Done (bodies.Records ((0, message 1) ∷ []))))) 1
    ∷ []

consumer_part : IsConsumerPart subscription 2 journal takes (taken_all consumer.start takes)
consumer_part = record {
  run = (
    (record { place = here; its_turn = refl; is_due = refl }, omega arith),
    ((record { place = here; its_turn = refl; is_due = refl }, omega arith), refl),
  );
  served = inr (refl, inr refl, inr (refl, inr refl, tt));
}

-- nobody else sends, commits or deletes

private_topic : IsPrivate 1 2 (codes "g") (codes "t") journal
private_topic = record {
  producer = grind (arith, nat_tests);
  committer = grind (arith, nat_tests);
  kept = grind (arith, nat_tests);
}

all_private : ArePrivate 1 2 (codes "g") (here ∷ []) journal
all_private place (zero, within, at) =
    subst (λ (p : Place). IsPrivate 1 2 (codes "g") p.topic journal) at private_topic
all_private place (suc k, within, at) = absurd (omega arith)

-- so the law says of this history, and one event has arrived

reached : ReachesInOrder (rows_of moves) (taken_all consumer.start takes).inbox (codes "a") (codes "b")
reached =
    holds_a_prefix target subscription 1 2 journal at_end moves (after_all router.start moves) takes
    (taken_all consumer.start takes) (codes "a") (codes "b") history service_part consumer_part all_private

inbox_at_end : taken_ids (taken_all consumer.start takes).inbox ≡ id_text (id_of 1) ∷ []
unfolding by_index
inbox_at_end = refl
