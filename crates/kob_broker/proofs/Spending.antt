-- A limit of 63 or 64 bits is spent only where as many offsets, producer ids or serials were asked for.
use Rattle.kob_broker.proofs.Words.{Added, All, All-nil, Binding, Bool, Draft, Event, IfSome, List, Option, Reason, Request, Retained, SaysNothingSpent, Settings, Some, State, Write, [], add_one, after_write, and_right, arith, asked_in, asked_of, draft_reasons, false, first_reason, flat_map, fold, is_spent, le-ltb, length, list_any, list_any-append, named, nat_tests, offset_limit, open_state, or_from, or_parts, plain_meaning, reasons_against, refl, replies_of, retained_meaning, step, true, write_of, ℕ, ◌&&◌, ◌+◌, ◌∷◌, ◌≡◌, ◌≤◌}
use Rattle.kob_broker.proofs.EachPartition.{EachOf, each_after, of_request, unless_alike, written}
use Rattle.kob_broker.proofs.Lifting.{runs_alike}
use Rattle.kob_broker.proofs.Steps.{replies_keep, step_fits}

-- one of the reasons that hold is that a limit is spent
abbrev is_spending : Bool × Reason → Bool
is_spending against = is_spent against.1 && against.0

abbrev spends : List (Bool × Reason) → Bool
spends xs = list_any is_spending xs

-- then the first reason that holds is another
first_unspent : (xs : List (Bool × Reason)) (reason : Reason) → spends xs ≡ false → first_reason xs ≡ Some reason
    → is_spent reason ≡ false
first_unspent [] reason none is = cc
first_unspent ((true, x) ∷ xs) reason none is = grind (arith, nat_tests)
first_unspent ((false, x) ∷ xs) reason none is =
    first_unspent xs reason (or_parts (is_spent x && false) (spends xs) none).1 is

-- a partition has offsets for as many records more, and so have producer ids and serials
abbrev HasFor : ℕ → Retained → Type 0
HasFor more kept = kept.end + more ≤ offset_limit

pub record StateHasFor (more : ℕ) (s : State Retained) : Type 0 where
  pub topics : All (EachOf (HasFor more)) s.topics
  pub producers : s.next_producer + more ≤ offset_limit
  pub serials : s.access.next + more ≤ offset_limit + 1

fewer : (n more : ℕ) (s : State Retained) → StateHasFor (n + more) s → StateHasFor more s
fewer n more s has = grind (arith, nat_tests)

added_next : (bindings : List Binding) (so_far : Added)
    → (fold add_one so_far bindings).next ≤ so_far.next + length bindings
added_next [] so_far = omega arith
added_next (binding ∷ bindings) so_far = grind (arith, nat_tests, added_next bindings (add_one so_far binding))

-- no reason that holds is that a limit is spent, while less was asked for
drafts_spend : (drafts : List Draft) → spends (flat_map draft_reasons drafts) ≡ false
drafts_spend [] = refl
drafts_spend (draft ∷ drafts) = drafts_spend drafts

request_spends : (more : ℕ) (s : State Retained) (found : Option Retained) (request : Request)
    → StateHasFor (asked_of (write_of request) + more) s → IfSome found (HasFor (asked_of (write_of request) + more))
    → spends (reasons_against retained_meaning s found request) ≡ false
request_spends more s found request has =
    grind (arith, nat_tests, le-ltb, or_from, and_right, added_next, list_any-append, drafts_spend)

written_has : (more : ℕ) (found : Option Retained) (write : Option Write) → IfSome found (HasFor (asked_of write + more))
    → IfSome (written retained_meaning found write) (HasFor more)
written_has more found write = grind (arith, nat_tests, unless_alike)

producers_has : (more : ℕ) (s : State Retained) (found : Option Retained) (write : Option Write)
    → s.next_producer + (asked_of write + more) ≤ offset_limit
    → (after_write retained_meaning s found write).next_producer + more ≤ offset_limit
producers_has more s found write has = grind (arith, nat_tests)

serials_has : (more : ℕ) (s : State Retained) (found : Option Retained) (write : Option Write)
    → s.access.next + (asked_of write + more) ≤ offset_limit + 1
    → (after_write retained_meaning s found write).access.next + more ≤ offset_limit + 1
serials_has more s found write has = grind (arith, nat_tests, added_next)

step_has : (event : Event) (events : List Event) (s : State Retained) → StateHasFor (asked_in (event ∷ events)) s
    → SaysNothingSpent (step retained_meaning s event).reply × StateHasFor (asked_in events) (step retained_meaning s event).state
step_has event events s has =
    let more = asked_in events in
    let request = event.request in
    let found = named s request in
    let less = fewer (asked_of (write_of request)) more s has in
    let at = of_request (HasFor (asked_of (write_of request) + more)) s request has.topics in
    step_fits retained_meaning s event (λ o. SaysNothingSpent o.reply × StateHasFor more o.state)
    (λ blamed is. (tt, less))
    (λ reason granted is. (
      first_unspent (reasons_against retained_meaning s found request) reason
          (request_spends more s found request has at) is,
      less,
    ))
    (λ granted none. (
      tt,
      record {
        topics =
            each_after retained_meaning (HasFor more) s found (write_of request) (omega (arith, has.producers))
            (written_has more found (write_of request) at) less.topics;
        producers = producers_has more s found (write_of request) has.producers;
        serials = serials_has more s found (write_of request) has.serials;
      },
    ))

pub nothing_kept_spent : (settings : Settings) (events : List Event)
    → length settings.opening + asked_in events ≤ offset_limit
    → All SaysNothingSpent (replies_of retained_meaning events (open_state settings))
nothing_kept_spent settings events few =
    let added = added_next settings.opening (record { entries = []; next = 1; serials = [] }) in
    replies_keep retained_meaning (λ later s. StateHasFor (asked_in later) s) SaysNothingSpent step_has events
    (open_state settings)
    (record { topics = All-nil _; producers = omega arith; serials = omega (arith, added) })

-- and no reply of a broker over all accepted batches
pub nothing_spent : (settings : Settings) (events : List Event)
    → length settings.opening + asked_in events ≤ offset_limit
    → All SaysNothingSpent (replies_of plain_meaning events (open_state settings))
nothing_spent settings events few =
    grind (arith, nat_tests, runs_alike (open_state settings) events, nothing_kept_spent settings events few)
