use Rattle.std.proofs.Common.{List, ap, get_or, length, map, rules, sym, ℕ, ◌<◌, ◌∙◌, ◌≡◌}
use Rattle.std.proofs.lemmas.List.{get_or-map, length-map}
use Rattle.kob_delivery_check.specs.PrintedRecords.{doubled_item}
use Rattle.kob_delivery_check.proofs.Listed.{item_more}
use Rattle.kob_delivery_check.proofs.printed_records.push_doubles.Goals as goal

mapped_at : {A B : Type 0} (f : A → B) (xs : List A) (k : ℕ) (x : A) → k < length xs → x ≡ get_or xs k x
    → f x ≡ get_or (map f xs) k (f x)
mapped_at f xs k x below is = ap f is ∙ sym (get_or-map f xs k x (f x) below)

mapped_below : {A B : Type 0} (f : A → B) (xs : List A) (k : ℕ) → k < length xs → k < length (map f xs)
mapped_below f xs k below = rw (length-map xs f) below

pub loop-place-preserved : goal.loop-place-preserved
loop-place-preserved c =
    let event = c.index-events-place.result in
    item_more (doubled_item c.args.journal.now c.args.assignment.now c.args.repeats.now) (map (λ event. event.now) c.args.events.now)
    c.loop-place.place event.now c.args.out.now.items c.loop-place.out.items c.push_doubles_of.new.out.items
    (mapped_below (λ event. event.now) c.args.events.now c.loop-place.place c.loop-place-test.true)
    (mapped_at (λ event. event.now) c.args.events.now c.loop-place.place event c.loop-place-test.true c.index-events-place.is)
    c.loop-place.invariant (search rules)
