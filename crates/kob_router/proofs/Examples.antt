-- What routes make of rows, on examples.
use Rattle.kob_router.proofs.Words.{AggregateId, AggregateType, EventType, None, Some, [], codes, entries_of, false, is_template, message_of, refl, topic_named, true, with_routed_value, ◌∷◌, ◌≡◌}
use Rattle.bstr.proofs.Computing.{computing}
use Rattle.kob_router.specs.declared.settings.RouteBy.TheVariants as by

of_the_default : is_template (codes "outbox.event.${routedByValue}") ≡ true
of_the_default = refl

of_a_plain_name : is_template (codes "events") ≡ true
of_a_plain_name = refl

of_nothing : is_template [] ≡ false
of_nothing = refl

of_another_word : is_template (codes "outbox.$x") ≡ false
of_another_word = refl

of_two_dollars : is_template (codes "$${routedByValue}") ≡ false
of_two_dollars = refl

default_filled : with_routed_value (codes "outbox.event.${routedByValue}") (codes "customers")
    ≡ codes "outbox.event.customers"
unfolding computing
default_filled = refl

filled_twice : with_routed_value (codes "${routedByValue}.${routedByValue}") (codes "a") ≡ codes "a.a"
unfolding computing
filled_twice = refl

plain_filled : with_routed_value (codes "events") (codes "customers") ≡ codes "events"
unfolding computing
plain_filled = refl

value_like_a_template : with_routed_value (codes "${routedByValue}") (codes "${routedByValue}")
    ≡ codes "${routedByValue}"
unfolding computing
value_like_a_template = refl

of_two_entries :
    entries_of (codes "type:header:eventType,aggregateid:header")
    ≡ Some (record { column = EventType; header = codes "eventType" } ∷ record
    { column = AggregateId; header = codes "aggregateid" } ∷ [])
of_two_entries = refl

of_no_entry : entries_of [] ≡ Some []
of_no_entry = refl

of_an_empty_alias : entries_of (codes "type:header:") ≡ None
of_an_empty_alias = refl

of_no_column : entries_of (codes "payload:header") ≡ None
of_no_column = refl

of_another_place : entries_of (codes "type:envelope") ≡ None
of_another_place = refl

of_a_last_comma : entries_of (codes "type:header,") ≡ None
of_a_last_comma = refl

of_a_fourth_part : entries_of (codes "type:header:a:b") ≡ None
of_a_fourth_part = refl

of_a_space : topic_named (codes "outbox.event.customer orders") ≡ None
of_a_space = refl

of_a_row :
    message_of (record {
      by = by.AggregateType;
      template = codes "events";
      placement = record
          { column = AggregateType; header = codes "kind" } ∷ [];
    })
    (record {
      seq = 1;
      id = codes "00000000-0000-0000-0000-00000000000a";
      aggregate_type = codes "customers";
      aggregate_id = codes "42";
      event_type = codes "Paid";
      payload = codes "{}";
    })
    ≡ record {
      key = Some (codes "42");
      value = codes "{}";
      headers = record { name = codes "id"; value = codes "00000000-0000-0000-0000-00000000000a" } ∷ record
          { name = codes "kind"; value = codes "customers" } ∷ [];
    }
of_a_row = refl
