-- What calls make of a line.
use Rattle.std.specs.Prelude.{◌≡◌, ◌⊎◌, ◌≤◌, ℕ, List, [], ◌∷◌, ◌++◌, map, None, ◌+◌, Option, Some}
use Rattle.std.specs.Prelude.{Err, IfErr, IfSome, Ok, Result}
use Rattle.std.specs.List.{All}
use Rattle.kob_router.specs.Line.{Adds, AreServed, Served, one_more}
use Rattle.kob_router.specs.declared.line.Call.{Call}
use Rattle.kob_shared.specs.Journals.{Record, Seat, IsServed, event_by}
use Rattle.std.specs.Prelude.{alloc_error}
use Rattle.kob_shared.specs.declared.faults.CallFault.{CallFault}
use Rattle.kob_shared.specs.declared.faults.CallFault.TheVariants.{Memory}
use Rattle.kob_shared.specs.declared.journal.Entry.{Entry}
use Rattle.kob_rights.specs.Requests.{Fits, OffsetsWithin}
use Rattle.kob_rights.specs.declared.reply.Reply.{Reply}
use Rattle.kob_rights.specs.declared.request.Request.{Request}
use Rattle.kob_router.specs.declared.line.Delivery.{Delivery}
use Rattle.kob_router.specs.declared.line.Delivery.TheVariants.{Delivered, Lost}
use Rattle.kob_shared.specs.declared.journal.Receipt.{Receipt}
use Rattle.kob_router.specs.declared.line.Loss.{Loss}
use Rattle.kob_router.specs.declared.line.Loss.TheVariants as losses

-- ---- a connection

-- the reply that a server returns, if it returns one
abbrev pub reply_in : Result (Option Reply) CallFault → Option Reply
reply_in (Ok there) = there
reply_in (Err fault) = None

-- a reply may be one to the request: it fits, and its offsets are within bounds
abbrev pub MayAnswer : Request → Reply → Type 0
MayAnswer request reply = Fits request reply × OffsetsWithin reply

-- a server served a request, and this is heard of it: nothing, or the reply that was there
abbrev pub ServesAs : {S : Type 0} → (S → S → Request → Option Reply → Type 0) → S → S → Request
    → Option Reply → Type 0
ServesAs serves old new request heard =
    (there : Option Reply) × serves old new request there
    × IfSome heard (λ reply. there ≡ Some reply)

-- it served these calls, one after another
abbrev pub ServesEach : {S : Type 0} → (S → S → Request → Option Reply → Type 0) → S → S
    → List Call → Type 0
ServesEach serves old new [] = new ≡ old
ServesEach {S} serves old new (c ∷ cs) =
    (mid : S) × ServesAs serves old mid c.request c.heard × ServesEach serves mid new cs

-- calls were added, and the server became what these calls make of it
pub record MakesCalls {S : Type 0} (serves : S → S → Request → Option Reply → Type 0)
    (old new : S) (calls then_calls : List Call) : Type 0 where
  pub made : List Call
  pub added : then_calls ≡ calls ++ made
  pub served : ServesEach serves old new made

-- what one call made of the server: a reply that is delivered is the server's. A call that was lost
-- was made, or it was not, which is counted
abbrev pub IsSent : {S : Type 0} → (S → S → Request → Option Reply → Type 0) → S → S → ℕ → ℕ
    → Request → Delivery → Type 0
IsSent serves old new unmade then_unmade request (Delivered reply) =
    serves old new request (Some reply)
IsSent serves old new unmade then_unmade request Lost =
    ((then_unmade ≡ one_more unmade) × (new ≡ old))
    ⊎ ((there : Option Reply) × serves old new request there)

-- what a line makes of the server's answer: the delivery, and the fault that it keeps. That is the
-- server's, or out of memory if a reply to the request could not be kept. Another reply counts as none
abbrev pub IsHeardAs : Request → Result (Option Reply) CallFault → Delivery → Option CallFault
    → Type 0
IsHeardAs request (Err refused) delivery fault = (delivery ≡ Lost) × (fault ≡ Some refused)
IsHeardAs request (Ok None) delivery fault = (delivery ≡ Lost) × (fault ≡ None)
IsHeardAs request (Ok (Some reply)) (Delivered heard) fault = (heard ≡ reply) × (fault ≡ None)
IsHeardAs request (Ok (Some reply)) Lost fault =
    (MayAnswer request reply × (fault ≡ Some (Memory alloc_error)))
    ⊎ ((MayAnswer request reply → ⊥) × (fault ≡ None))

-- a call has this delivery and this fault: a line makes them of the server's answer, or there was no
-- memory to note the call, and the server was not asked
abbrev pub IsAnswered : {S : Type 0} → (S → S → Request → Option Reply → Type 0)
    → (S → Request → CallFault → Type 0) → S → S → Request → Delivery → Option CallFault → Type 0
IsAnswered serves refuses old new request delivery fault =
    ((new ≡ old) × (delivery ≡ Lost) × (fault ≡ Some (Memory alloc_error)))
    ⊎ ((answer : Result (Option Reply) CallFault)
    × serves old new request (reply_in answer)
    × IfErr answer (λ refused. refuses old request refused)
    × IsHeardAs request answer delivery fault)

-- ---- a journal

abbrev pub served_in : Entry → Served
served_in e = record { request = e.event.request; reply = e.reply }

-- the entry is of this worker, its principal and its host
abbrev pub IsEntryOf : ℕ → List ℕ → List ℕ → Entry → Type 0
IsEntryOf worker principal host e =
    (e.worker ≡ worker) × (e.event.principal ≡ principal) × (e.event.host ≡ host)

-- the journal goes on with entries of this worker, its principal and its host
pub record GoesOnBy (worker : ℕ) (principal host : List ℕ) (old new : Record) : Type 0 where
  pub opening : new.opening ≡ old.opening
  pub limit : new.limit ≡ old.limit
  pub entries : List Entry
  pub journal : new.journal ≡ old.journal ++ entries
  pub own : All (IsEntryOf worker principal host) entries

-- it goes on with an entry for each of the worker's calls that was served
pub record IsJournaled (worker : ℕ) (principal host : List ℕ) (made : List Call)
    (old new : Record) : Type 0 where
  pub by : GoesOnBy worker principal host old new
  pub served : AreServed made (map served_in by.entries)

-- a worker made calls, which are in the journal so
pub record Journals (worker : ℕ) (principal host : List ℕ) (calls then_calls : List Call)
    (old new : Record) : Type 0 where
  pub made : List Call
  pub added : then_calls ≡ calls ++ made
  pub journaled : IsJournaled worker principal host made old new

-- which calls of a line were made of the line below it: each that was heard was, with that reply;
-- one that was lost was, or was not
abbrev pub ArePassedOn : List Call → List Call → Type 0
ArePassedOn [] [] = Unit {0}
ArePassedOn [] (b ∷ bs) = ⊥
ArePassedOn (c ∷ cs) [] = (c.heard ≡ None) × ArePassedOn cs []
ArePassedOn (c ∷ cs) (b ∷ bs) =
    ((c.heard ≡ None) × ArePassedOn cs (b ∷ bs))
    ⊎ ((b.request ≡ c.request)
    × ((c.heard ≡ None) ⊎ (c.heard ≡ b.heard))
    × ArePassedOn cs bs)

-- a line made calls, of which these were made of the line below it
pub record PassesCallsOn (calls then_calls below then_below : List Call) : Type 0 where
  pub made : List Call
  pub passed : List Call
  pub above : then_calls ≡ calls ++ made
  pub beneath : then_below ≡ below ++ passed
  pub are_passed : ArePassedOn made passed

-- the same session, which knows as many entries of the journal, or more
pub record KeepsSeat (old new : Seat) : Type 0 where
  pub worker : new.worker ≡ old.worker
  pub principal : new.principal ≡ old.principal
  pub host : new.host ≡ old.host
  pub seen : old.seen ≤ new.seen
  pub places : new.places ≡ old.places

-- a reply that is delivered was there
abbrev pub IsHeardOf : Option Reply → Delivery → Type 0
IsHeardOf there (Delivered reply) = there ≡ Some reply
IsHeardOf there Lost = Unit {0}

-- a reply that is there is the broker's, which served the call; without one it did not
abbrev pub IsServedIfHeard : {S : Type 0} → S → S → S → Reply → Option Reply → Type 0
IsServedIfHeard before served now reply (Some heard) = (now ≡ served) × (heard ≡ reply)
IsServedIfHeard before served now reply None = now ≡ before

-- what a session hears of a call: a reply that a broker gives to its event, after a legal journal
-- of which it knew no more; or nothing, where it may have come to know more entries
abbrev pub IsServedInSession : Seat → Seat → Request → Option Reply → Type 0
IsServedInSession before now request (Some reply) =
    (receipt : Receipt)
    × IsServed (event_by before.principal before.host request) receipt
    × (receipt.reply ≡ reply)
    × (before.seen ≤ receipt.place)
    × (now ≡ record before { seen = receipt.place + 1 })
IsServedInSession before now request None =
    (seen : ℕ) × (before.seen ≤ seen) × (now ≡ record before { seen = seen })

-- the calls gained this one, or none
abbrev pub GainsAtMost : List Call → List Call → Request → Type 0
GainsAtMost before now request =
    (now ≡ before)
    ⊎ ((heard : Option Reply) × (now ≡ before ++ record { request = request; heard = heard } ∷ []))

-- the call was made of the line below, once, or there was no memory to note it there
abbrev pub IsMadeBelow : List Call → List Call → ℕ → ℕ → Request → Type 0
IsMadeBelow below then_below unmade then_unmade request =
    (delivery : Delivery) × Adds below then_below unmade then_unmade request delivery

-- what becomes of a call, and whether the line below made it
abbrev pub PassesOn : Loss → List Call → List Call → Request → Option Reply → Type 0
PassesOn losses.BeforeServe below then_below request heard = (heard ≡ None) × (then_below ≡ below)
PassesOn losses.AfterServe below then_below request heard =
    (heard ≡ None) × GainsAtMost below then_below request
PassesOn losses.None below then_below request (Some reply) =
    then_below ≡ below ++ record { request = request; heard = Some reply } ∷ []
PassesOn losses.None below then_below request None = GainsAtMost below then_below request

-- the reply that is delivered, if one is
abbrev pub reply_of : Delivery → Option Reply
reply_of (Delivered reply) = Some reply
reply_of Lost = None

-- why a call has no reply, after the server's answer: its fault, if it returned one
abbrev pub fault_kept : Option CallFault → Result (Option Reply) CallFault → Option CallFault
fault_kept fault (Ok there) = fault
fault_kept fault (Err refused) = Some refused

-- why a call has no reply, after it was noted: a reply that was there could not be kept
abbrev pub fault_after : Option CallFault → Option Reply → Delivery → Option CallFault
fault_after fault None delivery = fault
fault_after fault (Some reply) (Delivered heard) = fault
fault_after fault (Some reply) Lost = Some (Memory alloc_error)
