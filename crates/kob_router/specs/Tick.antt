-- What one tick of a router does, and each of its parts.
use Rattle.std.specs.Prelude.{◌≡◌, ◌⊎◌, ℕ, ◌<◌, List, [], ◌∷◌, ◌++◌, true, false, Option, None, Some, IsSome, option_map, Bool, Result, Ok, Err}
use Rattle.std.specs.List.{AllByRecursion}
use Rattle.kob_rights.specs.declared.reply.Body.{Body}
use Rattle.kob_outbox.specs.Contents.{Contents, Event, stored_row}
use Rattle.kob_router.specs.declared.sender.HeldRow.{HeldRow}
use Rattle.kob_router.specs.declared.sender.Sender.{Sender}
use Rattle.kob_router.specs.declared.tick.Tick.{Tick}
use Rattle.kob_router.specs.declared.tick.Tick.TheVariants.{Moved, Idle, Repeat, Stopped}
use Rattle.kob_router.specs.declared.tick.StopReason.{StopReason}
use Rattle.kob_router.specs.Run.{Dispatching, dispatch_of, place_of, has_place, with_sequence_for, Call, Denied, Done, InitProducerId, Produce, ProduceRequest, Producer, Refused, Reply, Request, Sequence, Hand, State, Move, IsRouterRun, IsDone, calls_of, next_row, IsSending, after_acknowledgement}
use Rattle.kob_router.specs.Line.{one_more}
use Rattle.kob_router.specs.Run.Move.{Called, Took}
use Rattle.kob_router.specs.declared.tick.StopReason.TheVariants as stop
use Rattle.kob_rights.specs.declared.reply.Body.TheVariants as bodies

-- a row that was read, with its place
abbrev pub hand_of : HeldRow → Hand
hand_of held = record { event = stored_row held.row; place = held.place }

-- a router with its outbox
abbrev pub state_of : Sender → Contents → State
state_of sender outbox = record {
  outbox = outbox;
  producer = sender.producer;
  sequences = sender.sequences;
  hand = option_map hand_of sender.hand;
}

-- a router with its outbox, and what its line reports
pub record Point : Type 0 where
  pub state : State
  pub calls : List Call
  pub unmade : ℕ

-- a router, its outbox, and the calls of its line
abbrev pub point_of : Sender → Contents → List Call → ℕ → Point
point_of sender outbox calls unmade =
    record { state = state_of sender outbox; calls = calls; unmade = unmade }

-- what is in hand goes where its row is routed, and its place has a sequence
abbrev pub IsPlaced : Dispatching → Option Hand → List Sequence → Type 0
IsPlaced route None sequences = Unit {0}
IsPlaced route (Some hand) sequences =
    (place_of (route hand.event) ≡ Some hand.place) × (has_place sequences hand.place ≡ true)

-- there are partitions, and what is in hand is in order
pub record IsInOrder (s : Sender) : Type 0 where
  pub some : 0 < s.target.partitions
  pub placed : IsPlaced (dispatch_of s.target) (option_map hand_of s.hand) s.sequences

-- what is in hand is the first row after the mark
abbrev pub IsFirst : Option Hand → Contents → Type 0
IsFirst None outbox = Unit {0}
IsFirst (Some hand) outbox = next_row outbox ≡ Some hand.event

-- both
abbrev pub IsHeld : Dispatching → State → Type 0
IsHeld route s = IsFirst s.hand s.outbox × IsPlaced route s.hand s.sequences

-- a tick takes a row in hand and makes calls, and does nothing else
abbrev pub IsOfTick : Move → Type 0
IsOfTick (Took hand) = Unit {0}
IsOfTick (Called call marks) = Unit {0}
IsOfTick _ = ⊥

-- no call but for a producer id
abbrev pub SendsNothing : List Move → Type 0
SendsNothing moves =
    AllByRecursion (λ (call : Call). call.request ≡ InitProducerId) (calls_of moves)

-- a producer id is known, and no call was made but for it
abbrev pub IsIntroduced : List Move → State → Type 0
IsIntroduced moves new = SendsNothing moves × IsSome new.producer

-- the last move is a call that was heard so, and after which the mark did not move
abbrev pub EndsHeard : List Move → Reply → Type 0
EndsHeard moves reply =
    (front : List Move) × (request : Request)
    × (moves ≡ front ++ Called (record { request = request; heard = Some reply }) false ∷ [])

-- the last move is a PRODUCE that was done, and after which the mark did not move
abbrev pub EndsUnmarked : List Move → Type 0
EndsUnmarked moves =
    (front : List Move) × (produce : ProduceRequest) × (body : Body)
    × (moves
    ≡ front ++ Called (record { request = Produce produce; heard = Some (Done body) }) false ∷ [])

-- the last call was lost, or it could not be made for lack of memory
abbrev pub EndsLost : List Move → ℕ → ℕ → Type 0
EndsLost moves unmade then_unmade =
    ((front : List Move) × (request : Request)
    × (moves ≡ front ++ Called (record { request = request; heard = None }) false ∷ [])
    × (then_unmade ≡ unmade))
    ⊎ (SendsNothing moves × (then_unmade ≡ one_more unmade))

-- a reply to a request that was denied or refused
abbrev pub IsRejection : Reply → Type 0
IsRejection (Done body) = ⊥
IsRejection (Denied code verdicts) = Unit {0}
IsRejection (Refused code reason) = Unit {0}

-- why a tick stopped
abbrev pub IsReason : Dispatching → StopReason → List Move → State → Type 0
IsReason route (stop.Rejected reply) moves new = IsRejection reply × EndsHeard moves reply
IsReason route stop.BadTopic moves new =
    IsIntroduced moves new
    × ((event : Event) × (next_row new.outbox ≡ Some event) × (route event ≡ None))
IsReason route (stop.Memory refused) moves new = IsIntroduced moves new ⊎ EndsUnmarked moves
IsReason route stop.Store moves new = EndsUnmarked moves

-- what a tick answers
abbrev pub IsReport : Dispatching → Tick → List Move → State → ℕ → ℕ → Type 0
IsReport route (Moved seq) moves new unmade then_unmade =
    ((front : List Move) × (call : Call) × (moves ≡ front ++ Called call true ∷ []))
    × (new.outbox.mark ≡ seq)
    × (then_unmade ≡ unmade)
IsReport route Idle moves new unmade then_unmade =
    IsIntroduced moves new
    × (next_row new.outbox ≡ None)
    × (then_unmade ≡ unmade)
IsReport route Repeat moves new unmade then_unmade = EndsLost moves unmade then_unmade
IsReport route (Stopped reason) moves new unmade then_unmade =
    IsReason route reason moves new × (then_unmade ≡ unmade)

-- at most one call, or one for a producer id that was answered and one more
abbrev pub IsOneTick : List Call → Type 0
IsOneTick [] = Unit {0}
IsOneTick (c ∷ []) = Unit {0}
IsOneTick (c ∷ d ∷ []) = (c.request ≡ InitProducerId) × IsDone c.heard
IsOneTick (c ∷ d ∷ e ∷ cs) = ⊥

-- at most one call
abbrev pub IsAtMostOne : List Call → Type 0
IsAtMostOne [] = Unit {0}
IsAtMostOne (c ∷ []) = Unit {0}
IsAtMostOne (c ∷ d ∷ cs) = ⊥

-- the moves of a tick or of a part of it: a run, whose calls the line notes and the answer reports
pub record Ticks (shape : List Call → Type 0) (route : Dispatching) (old new : Point) (tick : Tick)
    : Type 0 where
  pub moves : List Move
  pub own : AllByRecursion IsOfTick moves
  pub run : IsRouterRun route old.state moves new.state
  pub calls : new.calls ≡ old.calls ++ calls_of moves
  pub few : shape (calls_of moves)
  pub answer : IsReport route tick moves new.state old.unmade new.unmade
  pub held : IsHeld route new.state

-- ---- the parts of a tick

-- the one call for a producer id, as it was heard
abbrev pub IsAsked
    : Option Producer → Option Producer → List Call → List Call → ℕ → ℕ → Call → Type 0
IsAsked old new before now unmade then_unmade call =
    (old ≡ None) × (new ≡ None) × (now ≡ before ++ call ∷ []) × (then_unmade ≡ unmade)

-- the call by which a producer id was given
abbrev pub given_call : Producer → Call
given_call p =
    record { request = InitProducerId; heard = Some (Done (bodies.Producer p.id p.epoch)) }

-- how a producer id came to be known, or why it is not
abbrev pub Introduces
    : Option Producer → Option Producer → List Call → List Call → ℕ → ℕ → Result Producer Tick
    → Type 0
Introduces old new before now unmade then_unmade (Ok p) =
    (new ≡ Some p)
    × (((old ≡ Some p) × (now ≡ before) × (then_unmade ≡ unmade))
    ⊎ ((old ≡ None) × (now ≡ before ++ given_call p ∷ []) × (then_unmade ≡ unmade)))
Introduces old new before now unmade then_unmade (Err Repeat) =
    (old ≡ None) × (new ≡ None)
    × (((now ≡ before ++ record { request = InitProducerId; heard = None } ∷ [])
    × (then_unmade ≡ unmade))
    ⊎ ((now ≡ before) × (then_unmade ≡ one_more unmade)))
Introduces old new before now unmade then_unmade (Err (Stopped (stop.Rejected reply))) =
    IsRejection reply
    × IsAsked old new before now unmade then_unmade
    (record { request = InitProducerId; heard = Some reply })
Introduces old new before now unmade then_unmade _ = ⊥

-- the first row after the mark is in hand, where nothing was
pub record IsTaken (route : Dispatching) (outbox : Contents) (old new : Sender) : Type 0 where
  pub held : HeldRow
  pub nothing_before : old.hand ≡ None
  pub first_waits : next_row outbox ≡ Some (stored_row held.row)
  pub goes : place_of (route (stored_row held.row)) ≡ Some held.place
  pub taken : new ≡ record old {
    sequences = with_sequence_for old.sequences held.place;
    hand = Some held;
  }

-- whether a row is in hand, or why none could be taken
abbrev pub Takes : Dispatching → Contents → Sender → Sender → Result Bool StopReason → Type 0
Takes route outbox old new (Ok true) =
    ((held : HeldRow) × (old.hand ≡ Some held) × (new ≡ old)) ⊎ IsTaken route outbox old new
Takes route outbox old new (Ok false) = (old.hand ≡ None) × (next_row outbox ≡ None) × (new ≡ old)
Takes route outbox old new (Err stop.BadTopic) =
    (old.hand ≡ None) × (new ≡ old)
    × ((event : Event) × (next_row outbox ≡ Some event) × (route event ≡ None))
Takes route outbox old new (Err (stop.Memory refused)) = new ≡ old
Takes route outbox old new (Err _) = ⊥

-- a row is in hand
abbrev pub HasHand : Sender → Type 0
HasHand sender = (held : HeldRow) × (sender.hand ≡ Some held)

-- the request that sends what is in hand
abbrev pub Requests : Dispatching → Sender → Request → Type 0
Requests route sender (Produce produce) =
    (outbox : Contents) → IsSending route (state_of sender outbox) produce
Requests route sender _ = ⊥

-- the mark moves to the row in hand, or all stays
abbrev pub Acknowledges : State → State → Result ℕ StopReason → Type 0
Acknowledges old new (Ok seq) = (new ≡ after_acknowledgement old old.hand) × (new.outbox.mark ≡ seq)
Acknowledges old new (Err (stop.Memory refused)) = new ≡ old
Acknowledges old new (Err stop.Store) = new ≡ old
Acknowledges old new (Err _) = ⊥
