-- Which topics rows are routed to, and which event ids records carry.
use Rattle.kob_delivery.proofs.Words.{Bool, Dispatching, Event, List, None, Option, Place, Produce, Record, Request, Some, [], ap, bytes_eq, event_id, false, id_text, list_any, map, place_of, refl, slice_get, suc, sym, carried_id, true, true≢false, zero, ℕ, ◌||◌, ◌∙◌, ◌∷◌, ◌≡◌}
use Rattle.std.proofs.Common.{IsTrue, not, ◌↔◌}
use Rattle.kob_delivery.proofs.Lists.{all_in, bytes_are, contains_at, same_bytes}
use Rattle.kob_delivery.proofs.Opening.{none_opens, none_passes}
use Rattle.kob_delivery.specs.Delivered.{ids_of}
use Rattle.kob_delivery.specs.Several.{AreRoutedTo, SendsNone, goes_to_topic, is_on_topic, is_one_of}
use Rattle.kob_outbox.specs.Contents.{stored_row}
use Rattle.kob_outbox.specs.declared.event.Row.{Row}
use Rattle.kob_rights.specs.declared.on_partitions.Produce.{Produce as ProduceRequest}

-- ---- event ids

of_rows : (id : List ℕ) (rows : List Row)
    → list_any (λ (row : Row). bytes_eq (id_text id) (id_text row.event.id)) rows
    ≡ list_any (bytes_eq (id_text id)) (ids_of (map stored_row rows))
of_rows id [] = refl
of_rows id (row ∷ rows) = ap (λ b. bytes_eq (id_text id) (id_text row.event.id) || b) (of_rows id rows)

pub carried : (message : Record) (id : List ℕ) (rows : List Row) (found : Option (List ℕ)) (carries : Bool)
    → found ≡ event_id message → found ≡ Some id
    → carries ≡ list_any (λ (row : Row). bytes_eq (id_text id) (id_text row.event.id)) rows
    → carries ≡ is_one_of (ids_of (map stored_row rows)) (carried_id message)
carried message id rows found carries told is any =
    let same : event_id message ≡ Some id = sym told ∙ is in rw same (any ∙ of_rows id rows)

-- a PRODUCE sends none if no record carries one
pub sent_none : (ids : List (List ℕ)) (request : Request) (asked : ProduceRequest) (carried : Bool)
    → request ≡ Produce asked → carried ≡ list_any (λ message. is_one_of ids (carried_id message)) asked.batch.records
    → IsTrue (not carried) ↔ SendsNone ids request
sent_none ids request asked carried is any =
    rw is (none_opens (λ message. is_one_of ids (carried_id message)) asked.batch.records carried (not carried) any refl)

-- ---- routed rows

on_topic : (topic : List ℕ) (found : Option Place) → is_on_topic topic found ≡ true
    → (place : Place) × (found ≡ Some place) × (place.topic ≡ topic)
on_topic topic None is = absurd (true≢false (sym is))
on_topic topic (Some place) is = (place, refl, bytes_are place.topic topic is)

map_at : {A B : Type 0} (f : A → B) (xs : List A) (k : ℕ) (x : A) → slice_get xs k ≡ Some x
    → slice_get (map f xs) k ≡ Some (f x)
map_at f [] k x there = absurd (cc)
map_at f (y ∷ xs) zero x there = let same : y ≡ x = cc in ap (λ z. Some (f z)) same
map_at f (y ∷ xs) (suc k) x there = map_at f xs k x there

pub one_routed : (route : Dispatching) (topic : List ℕ) (rows : List Row) (k : ℕ) (row : Row)
    → slice_get rows k ≡ Some row → goes_to_topic route topic (stored_row row) ≡ true
    → AreRoutedTo route (map stored_row rows) topic
one_routed route topic rows k row there goes =
    let found = on_topic topic (place_of (route (stored_row row))) goes in
    record {
      row = stored_row row;
      there = contains_at (map stored_row rows) k (stored_row row) (map_at stored_row rows k row there);
      place = found.0;
      goes = found.1;
      topic_is = found.2;
    }

pub none_routed : (route : Dispatching) (topic : List ℕ) (rows : List Event)
    → list_any (goes_to_topic route topic) rows ≡ false → AreRoutedTo route rows topic → ⊥
none_routed route topic rows none some =
    let off : goes_to_topic route topic some.row ≡ false =
    all_in (λ (r : Event). goes_to_topic route topic r ≡ false) rows some.row some.there
    (none_passes (goes_to_topic route topic) rows none) in
    let on : goes_to_topic route topic some.row ≡ true =
    ap (is_on_topic topic) some.goes ∙ ap (λ t. bytes_eq t topic) some.topic_is ∙ same_bytes topic in
    true≢false (sym on ∙ off)
