use Rattle.kob_router.specs.Route.{topic_of}
use Rattle.kob_router.proofs.Words.{Event, List, None, Option, Some, Target, ap, arith, common_steps, dispatch_of, inl, inr, is_some, nat_tests, option_map, partition_of, place_of, refl, stored_row, sym, topic_named, true, true≢false, ℕ, ◌∙◌, ◌≡◌}
use Rattle.kob_router.proofs.sender.Sender.take_in_hand.Goals as goal

some_there : {A : Type 0} (o : Option A) → is_some o ≡ true → (x : A) × (o ≡ Some x)
some_there None there = absurd (true≢false (sym there))
some_there (Some x) there = (x, refl)

-- a row goes to the topic that its route names, and to the partition of its key
goes_to : (target : Target) (event : Event) (topic : List ℕ) → topic_named (topic_of target.route event) ≡ Some topic
    → place_of (dispatch_of target event)
    ≡ Some (record { topic = topic; partition = partition_of event.aggregate_id target.partitions })
goes_to target event topic named = grind (arith, nat_tests)

pub returns-then-is_some-clause-done : goal.returns-then-is_some-clause-done
returns-then-is_some-clause-done c =
    let there = some_there c.args.self.now.hand (sym c.is_some.ensures ∙ c.if-is_some.true) in inl
    (there.0, there.1, refl)

pub returns-clause-done : goal.returns-clause-done
returns-clause-done c =
    inr
    (record {
      held = record {
        row = c.in-Ok-Some.row;
        place = record { topic = c.into_text-topic.result; partition = c.partition_of-partition.result };
      };
      nothing_before = grind (arith, common_steps);
      first_waits = sym c.in-Ok-Some.ensures.row ∙ ap (option_map stored_row) c.in-Ok-Some.field-0-is;
      goes =
          rw (c.partition_of-partition.ensures.value, c.as_bytes.ensures.value, c.into_text-topic.ensures)
          (goes_to c.args.self.now.target (stored_row c.in-Ok-Some.row) c.in-Ok.topic
          (rw c.as_routing.ensures at c.in-Ok.ensures));
      taken = rw c.in_default.ensures.ok refl;
    })
