-- What an event more adds to the events that were recorded before others.
use Rattle.std.proofs.Common.{Bor, List, None, Option, Some, [], ap, arith, cond, get_or, length, map, reverse, string_bytes, sym, take, unwrap_or, ℕ, ◌++◌, ◌+◌, ◌<◌, ◌==◌, ◌∙◌, ◌∷◌, ◌≡◌}
use Rattle.std.proofs.lemmas.Grind.{common_steps}
use Rattle.std.proofs.lemmas.List.{map-append, reverse-append, take_more}
use Rattle.std.specs.Option.{option_copied}
use Rattle.kob_delivery_check.specs.Altered.{event_with}
use Rattle.kob_delivery_check.specs.Logs.{number_of}
use Rattle.kob_delivery_check.specs.Order.{id_before, is_of_aggregate, last_of}
use Rattle.kob_outbox.specs.declared.event.OutboxEvent.{OutboxEvent}

-- of the events so far, the last one first
pub history_more : {A B : Type 0} (f : A → B) (xs : List A) (k : ℕ) (x : A) → k < length xs → x ≡ get_or xs k x
    → reverse (map f (take (k + 1) xs)) ≡ f x ∷ reverse (map f (take k xs))
history_more f xs k x below is =
    ap (λ ys. reverse (map f ys)) (take_more xs k x below ∙ ap (λ y. take k xs ++ y ∷ []) (sym is))
    ∙ ap reverse (map-append f (take k xs) (x ∷ [])) ∙ reverse-append (map f (take k xs)) (f x ∷ [])

pub last_more : (kind id : List ℕ) (event : OutboxEvent) (history : List OutboxEvent) (was is : Option ℕ)
    → is ≡ cond (is_of_aggregate kind id event) (Some (number_of event.id)) was → was ≡ last_of kind id history
    → is ≡ last_of kind id (event ∷ history)
last_more kind id event history was is now so_far = grind (arith, common_steps)

pub before_more : (id : ℕ) (event : OutboxEvent) (history : List OutboxEvent) (was is : Option (Option ℕ))
    (before : Option ℕ) → is ≡ cond (number_of event.id == id) (Some before) was
    → before ≡ last_of (string_bytes event.aggregate_type) (string_bytes event.aggregate_id) history
    → unwrap_or was None ≡ id_before id history → unwrap_or is None ≡ id_before id (event ∷ history)
before_more id event history was is before now last so_far = grind (arith, common_steps)

-- of the event with an id
pub event_more : (id : ℕ) (event : Bor OutboxEvent) (history : List OutboxEvent) (was is : Option (Bor OutboxEvent))
    → is ≡ cond (number_of event.now.id == id) (Some event) was → option_copied was ≡ event_with id history
    → option_copied is ≡ event_with id (event.now ∷ history)
event_more id event history was is now so_far = grind (arith, common_steps)
