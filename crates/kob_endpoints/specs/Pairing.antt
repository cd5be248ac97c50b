-- Which entries served which calls of a worker. Cited by private functions alone.
use Rattle.std.specs.Borrow.{Bor}
use Rattle.std.specs.Prelude.{ℕ, List, ◌≡◌, ◌∷◌, ◌⊎◌, ◌↔◌, drop, map, None, Some, Option, Contains, MatchOption}
use Rattle.kob_shared.specs.declared.journal.Entry.{Entry}
use Rattle.kob_router.specs.declared.line.Call.{Call}
use Rattle.kob_router.specs.Line.{AreServed, Served}
use Rattle.kob_connections.specs.Calls.{served_in}

-- what the entries say that was served
abbrev pub told_by : List (Bor Entry) → List Served
told_by own = map (λ entry. served_in entry.now) own

-- what they say from a place on
abbrev pub left : List (Bor Entry) → ℕ → List Served
left own place = drop place (told_by own)

-- the entry is of the call's request, and has the reply that was received, if one was
abbrev pub IsReplyTo : Entry → Call → Type 0
IsReplyTo e call =
    (e.event.request ≡ call.request) × ((call.heard ≡ None) ⊎ (call.heard ≡ Some e.reply))

-- what is left from one of these places on was served to these calls
abbrev pub Reaches : (ℕ → List Served) → List ℕ → List Call → Type 0
Reaches at places calls = (from : ℕ) × Contains places from × AreServed calls (at from)

-- What is left from a place on was served to a call and those after it, exactly if it was served to
-- those after it and the call was lost, or what is left from the other place on, if there is one, was.
abbrev pub GoesOn : (ℕ → List Served) → ℕ → Call → Option ℕ → Type 0
GoesOn at from call next = (calls : List Call)
    → AreServed (call ∷ calls) (at from)
    ↔ (((call.heard ≡ None) × AreServed calls (at from))
    ⊎ MatchOption next ⊥ (λ p. AreServed calls (at p)))
