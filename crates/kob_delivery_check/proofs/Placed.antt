-- The place of an event by its id, among events that are lent.
use Rattle.std.specs.Borrow.{Bor}
use Rattle.std.specs.List.{position, position_or_len, prefix_len}
use Rattle.std.specs.Prelude.{not}
use Rattle.std.proofs.Common.{Bool, List, None, Option, Some, [], ap, cond, length, map, nat_lt, refl, sym, ℕ, ◌+◌, ◌==◌, ◌∙◌, ◌∷◌, ◌≡◌}
use Rattle.std.proofs.lemmas.List.{length-map}
use Rattle.kob_delivery_check.specs.Logs.{number_of}
use Rattle.kob_outbox.specs.declared.event.OutboxEvent.{OutboxEvent}

prefix_map : {A B : Type 0} (p : B → Bool) (f : A → B) (xs : List A)
    → prefix_len p (map f xs) ≡ prefix_len (λ x. p (f x)) xs
prefix_map p f [] = refl
prefix_map p f (x ∷ xs) = ap (λ n. cond (p (f x)) (1 + n) 0) (prefix_map p f xs)

-- the first of the values of items that passes is that of the first item whose value passes
position_map : {A B : Type 0} (p : B → Bool) (f : A → B) (xs : List A)
    → position p (map f xs) ≡ position (λ x. p (f x)) xs
position_map p f xs =
    let found = position_or_len (λ x. p (f x)) xs in
    ap (λ n. cond (nat_lt n (length (map f xs))) (Some n) None) (prefix_map (λ y. not (p y)) f xs)
    ∙ ap (λ n. cond (nat_lt found n) (Some found) None) (length-map xs f)

-- the event with this id among events
pub placed : (place : Option ℕ) (id : ℕ) (events : List (Bor OutboxEvent))
    → place ≡ position (λ (event : Bor OutboxEvent). number_of event.now.id == id) events
    → place ≡ position (λ (event : OutboxEvent). number_of event.id == id)
    (map (λ (event : Bor OutboxEvent). event.now) events)
placed place id events is =
    is ∙ sym (position_map (λ (event : OutboxEvent). number_of event.id == id) (λ (event : Bor OutboxEvent). event.now) events)
