-- A tick is put together from its parts.
use Rattle.kob_router.proofs.Words.{AllByRecursion, Bool, Call, Called, Dispatching, EndsHeard, EndsUnmarked, Idle, InitProducerId, IsReport, IsAtMostOne, IsDone, IsHeld, IsOfTick, IsOneTick, IsRouterRun, List, MayCall, Move, Moved, Repeat, Reply, Point, State, Stopped, Tick, Ticks, Took, [], after, ap, append_assoc, arith, calls_of, inl, inr, nat_tests, refl, subst, sym, ℕ, ◌++◌, ◌∙◌, ◌∷◌, ◌≡◌, Acknowledges, Adds, Body, Contents, Done, Err, HasHand, Lost, None, Ok, Option, Request, Requests, Sender, Some, StopReason, after_acknowledgement, append-nil, false, state_of, true, true≢false, Denied, Hand, HeldRow, Introduces, Place, Producer, Refused, Sequence, Takes, bytes_eq-Decides, cases_Bool, cond-false, cond-true, dispatch_of, eq-eqb, hand_of, has_place, option_map, or_left, or_right, producer_after, with_sequence_for}
use Rattle.kob_rights.specs.declared.request.Request.TheVariants.{Produce}
use Rattle.kob_router.specs.declared.line.Delivery.TheVariants.{Delivered}
use Rattle.kob_router.specs.Tick.{IsRejection, given_call}
use Rattle.kob_router.specs.declared.tick.StopReason.TheVariants as stop

-- a router with its outbox, and what its line tells
abbrev pub point : State → List Call → ℕ → Point
point state calls unmade = record { state = state; calls = calls; unmade = unmade }

pub run_append : (route : Dispatching) (ms ns : List Move) (a b c : State) → IsRouterRun route a ms b
    → IsRouterRun route b ns c → IsRouterRun route a (ms ++ ns) c
run_append route [] ns a b c one two = subst (λ (s : State). IsRouterRun route s ns c) one two
run_append route (m ∷ ms) ns a b c one two = (one.0, run_append route ms ns (after a m) b c one.1 two)

pub own_append : (ms ns : List Move) → AllByRecursion IsOfTick ms → AllByRecursion IsOfTick ns
    → AllByRecursion IsOfTick (ms ++ ns)
own_append [] ns one two = two
own_append (m ∷ ms) ns one two = (one.0, own_append ms ns one.1 two)

pub calls_append : (ms ns : List Move) → calls_of (ms ++ ns) ≡ calls_of ms ++ calls_of ns
calls_append [] ns = refl
calls_append (m ∷ ms) ns = grind (arith, nat_tests, calls_append ms ns)

-- the beginning of a tick: no call, or one for a producer id that was answered
abbrev pub IsBeginning : List Call → Type 0
IsBeginning [] = Unit {0}
IsBeginning (c ∷ []) = (c.request ≡ InitProducerId) × IsDone c.heard
IsBeginning (c ∷ d ∷ cs) = ⊥

few_more : (cs ds : List Call) → IsBeginning cs → IsAtMostOne ds → IsOneTick (cs ++ ds)
few_more cs ds begins few = grind (arith, nat_tests)

heard_behind : (ms ns : List Move) (reply : Reply) → EndsHeard ns reply → EndsHeard (ms ++ ns) reply
heard_behind ms ns reply (front, request, is) =
    (ms ++ front, request, ap (λ (moves : List Move). ms ++ moves) is ∙ sym (append_assoc ms front _))

unmarked_behind : (ms ns : List Move) → EndsUnmarked ns → EndsUnmarked (ms ++ ns)
unmarked_behind ms ns (front, produce, body, is) =
    (ms ++ front, produce, body, ap (λ (moves : List Move). ms ++ moves) is ∙ sym (append_assoc ms front _))

answer_behind : (route : Dispatching) (tick : Tick) (ms ns : List Move) (new : State) (u t : ℕ)
    → IsBeginning (calls_of ms) → IsReport route tick ns new u t → IsReport route tick (ms ++ ns) new u t
answer_behind route (Moved seq) ms ns new u t begins ((front, call, is), at, same) =
    ((ms ++ front, call, ap (λ (moves : List Move). ms ++ moves) is ∙ sym (append_assoc ms front _)), at, same)
answer_behind route Idle ms ns new u t begins (known, none, same) = grind (arith, nat_tests, calls_append)
answer_behind route Repeat ms ns new u t begins (inl (front, request, is, same)) =
    inl (ms ++ front, request, ap (λ (moves : List Move). ms ++ moves) is ∙ sym (append_assoc ms front _), same)
answer_behind route Repeat ms ns new u t begins (inr (nothing, more)) = grind (arith, nat_tests, calls_append)
answer_behind route (Stopped reason) ms ns new u t begins (is, same) =
    grind (arith, nat_tests, heard_behind, unmarked_behind, calls_append)

-- the moves up to a point of a tick
pub record Begins (route : Dispatching) (old new : State) (before now : List Call) : Type 0 where
  pub moves : List Move
  pub own : AllByRecursion IsOfTick moves
  pub run : IsRouterRun route old moves new
  pub calls : now ≡ before ++ calls_of moves
  pub begins : IsBeginning (calls_of moves)
  pub held : IsHeld route new

-- a tick is its beginning and its last part
pub ticks_behind : {route : Dispatching} {a b c : State} {before middle now : List Call} {u v t : ℕ} {tick : Tick}
    → Begins route a b before middle → v ≡ u → Ticks IsAtMostOne route (point b middle v) (point c now t) tick
    → Ticks IsOneTick route (point a before u) (point c now t) tick
ticks_behind {route = route} {a = a} {b = b} {c = c} {before = before} {u = u} {t = t} {tick = tick} k same last =
    grind (
      arith,
      nat_tests,
      own_append k.moves last.moves k.own last.own,
      run_append route k.moves last.moves a b c k.run last.run,
      append_assoc before (calls_of k.moves) (calls_of last.moves),
      calls_append k.moves last.moves,
      few_more (calls_of k.moves) (calls_of last.moves) k.begins last.few,
      answer_behind route tick k.moves last.moves c u t k.begins (rw same at last.answer),
    )

-- a tick, or a part of one, of one call
pub ticks_once : {shape : List Call → Type 0} {route : Dispatching} {s new : State} {before now : List Call} {u t : ℕ}
    {tick : Tick} (call : Call) (marks : Bool)
    → MayCall route s call.request call.heard marks → new ≡ after s (Called call marks) → now ≡ before ++ call ∷ []
    → shape (call ∷ []) → IsReport route tick (Called call marks ∷ []) new u t → IsHeld route new
    → Ticks shape route (point s before u) (point new now t) tick
ticks_once call marks may is made few answer held = record {
  moves = Called call marks ∷ [];
  own = (tt, tt);
  run = (may, is);
  calls = made;
  few = few;
  answer = answer;
  held = held;
}

-- ---- the last part of a tick: nothing, or one call

-- nothing was called
pub ticks_none : {route : Dispatching} {s : State} {before now : List Call} {u t : ℕ} {tick : Tick} → now ≡ before
    → IsReport route tick [] s u t → IsHeld route s → Ticks IsAtMostOne route (point s before u) (point s now t) tick
ticks_none same answer held = grind (arith, nat_tests, append-nil)

-- a call after which all stands as it did
pub ticks_call : {route : Dispatching} (s : Sender) (outbox : Contents) (asked : Request) (heard : Option Reply)
    {before now : List Call} {u t : ℕ} {tick : Tick} → Requests route s asked → IsHeld route (state_of s outbox)
    → now ≡ before ++ record { request = asked; heard = heard } ∷ []
    → IsReport route tick (Called (record { request = asked; heard = heard }) false ∷ []) (state_of s outbox) u t
    → Ticks IsAtMostOne route (point (state_of s outbox) before u) (point (state_of s outbox) now t) tick
ticks_call s outbox (Produce produce) heard may held made answer =
    ticks_once (record { request = Produce produce; heard = heard }) false
    (may outbox, λ (e : false ≡ true). absurd (true≢false (sym e))) refl made tt answer held
ticks_call s outbox _ heard may held made answer = absurd may

-- a call that was lost
pub ticks_lost : {route : Dispatching} (s : Sender) (outbox : Contents) (asked : Request) {before now : List Call}
    {u t : ℕ} → Requests route s asked → IsHeld route (state_of s outbox) → Adds before now u t asked Lost
    → Ticks IsAtMostOne route (point (state_of s outbox) before u) (point (state_of s outbox) now t) Repeat
ticks_lost s outbox asked may held (inl made) =
    ticks_call s outbox asked None may held made.0 (inl ([], asked, refl, made.1))
ticks_lost s outbox asked may held (inr unmade) = ticks_none unmade.0 (inr (tt, unmade.1)) held

-- a reply that is not done
pub is_rejection : (reply : Reply) → ((body : Body) → reply ≡ Done body → ⊥) → IsRejection reply
is_rejection (Denied code verdicts) other = tt
is_rejection (Refused code reason) other = tt
is_rejection (Done body) other = other body refl

-- a call that was rejected
pub ticks_rejected : {route : Dispatching} (s : Sender) (outbox : Contents) (asked : Request) {reply : Reply}
    {before now : List Call} {u t : ℕ} → Requests route s asked → IsHeld route (state_of s outbox)
    → ((body : Body) → reply ≡ Done body → ⊥) → Adds before now u t asked (Delivered reply)
    → Ticks IsAtMostOne route (point (state_of s outbox) before u) (point (state_of s outbox) now t)
    (Stopped (stop.Rejected reply))
ticks_rejected s outbox asked {reply} may held other (made, same) =
    ticks_call s outbox asked (Some reply) may held made ((is_rejection reply other, ([], asked, refl)), same)

held_after : (route : Dispatching) (s : Sender) (outbox : Contents) → HasHand s
    → IsHeld route (after_acknowledgement (state_of s outbox) (state_of s outbox).hand)
held_after route s outbox (held, is) = grind (arith, nat_tests)

-- a call that was heard, and moved the mark
pub ticks_moved : {route : Dispatching} (s : Sender) (outbox : Contents) (asked : Request) (body : Body) {new : State}
    {before now : List Call} {u t seq : ℕ} → Requests route s asked → HasHand s
    → Adds before now u t asked (Delivered (Done body)) → Acknowledges (state_of s outbox) new (Ok seq)
    → Ticks IsAtMostOne route (point (state_of s outbox) before u) (point new now t) (Moved seq)
ticks_moved {route} s outbox (Produce produce) body may has (made, same) done =
    ticks_once (record { request = Produce produce; heard = Some (Done body) }) true
    (may outbox, λ (e : true ≡ true). tt) done.0 made tt
    (([], record { request = Produce produce; heard = Some (Done body) }, refl), done.1, same)
    (rw done.0 (held_after route s outbox has))
ticks_moved s outbox _ body may has added done = absurd may

-- a call that was heard, but the mark stayed
pub ticks_unmarked : {route : Dispatching} (s : Sender) (outbox : Contents) (asked : Request) (body : Body)
    {new : State} {before now : List Call} {u t : ℕ} (reason : StopReason) → Requests route s asked
    → IsHeld route (state_of s outbox) → Adds before now u t asked (Delivered (Done body))
    → Acknowledges (state_of s outbox) new (Err reason)
    → Ticks IsAtMostOne route (point (state_of s outbox) before u) (point new now t) (Stopped reason)
ticks_unmarked s outbox (Produce produce) body (stop.Memory refused) may held (made, same) done =
    rw done (ticks_call s outbox (Produce produce) (Some (Done body)) may held made (inr ([], produce, body, refl), same))
ticks_unmarked s outbox (Produce produce) body stop.Store may held (made, same) done =
    rw done (ticks_call s outbox (Produce produce) (Some (Done body)) may held made (([], produce, body, refl), same))
ticks_unmarked s outbox (Produce produce) body _ may held added done = absurd done
ticks_unmarked s outbox _ body reason may held added done = absurd may

-- ---- how a tick begins: a producer id is asked for, and a row is taken in hand

has_prepared : (ss : List Sequence) (p : Place) → has_place (with_sequence_for ss p) p ≡ true
has_prepared [] p = grind (arith, nat_tests, or_left, bytes_eq-Decides, eq-eqb)
has_prepared (s ∷ ss) p =
    grind (arith, nat_tests, cases_Bool, cond-true, or_left, cond-false, or_right, has_prepared ss p)

-- what is in hand once a row was taken is the first that waits
pub holds : (outbox : Contents) {after : Contents} (old one two : Sender) (taken : Bool)
    → one ≡ record old { producer = one.producer } → after ≡ outbox
    → IsHeld (dispatch_of old.target) (state_of old outbox) → Takes (dispatch_of one.target) outbox one two (Ok taken)
    → taken ≡ true → IsHeld (dispatch_of two.target) (state_of two after)
holds outbox old one two taken rest same held takes on = grind (arith, nat_tests, has_prepared)

pub has_hand : (route : Dispatching) (outbox : Contents) (old new : Sender) (taken : Bool)
    → Takes route outbox old new (Ok taken) → taken ≡ true → HasHand new
has_hand route outbox old new true (inl (held, has, same)) on = (held, rw same has)
has_hand route outbox old new true (inr w) on = (w.held, rw w.taken refl)
has_hand route outbox old new false takes on = absurd (true≢false (sym on))

-- the one call for a producer id was not answered by one
asked_only : {route : Dispatching} (outbox : Contents) (old new : Sender) (heard : Option Reply)
    {before now : List Call} {u t : ℕ} {tick : Tick} → new ≡ record old { producer = new.producer }
    → old.producer ≡ None → new.producer ≡ None → producer_after None InitProducerId heard ≡ None
    → now ≡ before ++ record { request = InitProducerId; heard = heard } ∷ []
    → IsReport route tick (Called (record { request = InitProducerId; heard = heard }) false ∷ [])
    (state_of new outbox) u t → IsHeld route (state_of old outbox)
    → Ticks IsOneTick route (point (state_of old outbox) before u) (point (state_of new outbox) now t) tick
asked_only outbox old new heard rest none still same made answer held =
    ticks_once (record { request = InitProducerId; heard = heard }) false (none, refl) (grind (arith, nat_tests)) made tt
    answer (grind (arith, nat_tests))

none_given : (reply : Reply) → IsRejection reply → producer_after None InitProducerId (Some reply) ≡ None
none_given (Denied code verdicts) rejected = refl
none_given (Refused code reason) rejected = refl
none_given (Done body) rejected = absurd rejected

pub ticks_unknown : {route : Dispatching} (outbox : Contents) (old new : Sender) {before now : List Call} {u t : ℕ}
    (tick : Tick) → new ≡ record old { producer = new.producer }
    → Introduces old.producer new.producer before now u t (Err tick) → IsHeld route (state_of old outbox)
    → Ticks IsOneTick route (point (state_of old outbox) before u) (point (state_of new outbox) now t) tick
ticks_unknown outbox old new Repeat rest (none, still, inl made) held =
    asked_only outbox old new None rest none still refl made.0 (inl ([], InitProducerId, refl, made.1)) held
ticks_unknown outbox old new Repeat rest (none, still, inr unmade) held = grind (arith, nat_tests, append-nil)
ticks_unknown outbox old new (Stopped (stop.Rejected reply)) rest (rejected, (none, still, made, same)) held =
    asked_only outbox old new (Some reply) rest none still (none_given reply rejected) made
    ((rejected, ([], InitProducerId, refl)), same) held
ticks_unknown outbox old new _ rest is held = absurd is

-- a producer id is there, or was given
begins_known : {route : Dispatching} (outbox : Contents) (old new : Sender) (before now : List Call) (u t : ℕ)
    (p : Producer)
    → new ≡ record old { producer = new.producer } → Introduces old.producer new.producer before now u t (Ok p)
    → IsHeld route (state_of old outbox) → Begins route (state_of old outbox) (state_of new outbox) before now
begins_known outbox old new before now u t p rest (is, inl there) held = grind (arith, nat_tests, append-nil)
begins_known outbox old new before now u t p rest (is, inr asked) held = record {
  moves = Called (given_call p) false ∷ [];
  own = (tt, tt);
  run = ((asked.0, refl), grind (arith, nat_tests));
  calls = asked.1;
  begins = (refl, tt);
  held = grind (arith, nat_tests);
}

-- a row was in hand, or is taken
begins_taken : {route : Dispatching} {a : State} (outbox : Contents) (old new : Sender) {before now : List Call}
    → Takes route outbox old new (Ok true) → Begins route a (state_of old outbox) before now
    → Begins route a (state_of new outbox) before now
begins_taken outbox old new (inl (held, has, same)) k = grind (arith, nat_tests)
begins_taken {route = route} {a = a} outbox old new (inr w) k =
    let hand : Hand = hand_of w.held in
    let b : Sender = record old { sequences = with_sequence_for old.sequences w.held.place; hand = Some w.held } in
    let step : IsRouterRun route (state_of old outbox) (Took hand ∷ []) (state_of b outbox) =
    ((ap (λ (h : Option HeldRow). option_map hand_of h) w.nothing_before, w.first_waits, w.goes), refl) in
    rw w.taken
    (record {
      moves = k.moves ++ Took hand ∷ [];
      own = own_append k.moves (Took hand ∷ []) k.own (tt, tt);
      run = run_append route k.moves (Took hand ∷ []) a (state_of old outbox) (state_of b outbox) k.run step;
      calls = grind (arith, nat_tests, append-nil, calls_append);
      begins = grind (arith, nat_tests, append-nil, calls_append);
      held = (w.first_waits, (w.goes, has_prepared old.sequences w.held.place));
    })

-- a tick once a producer id is known: a row is in hand, or none waits, or none could be taken
module _ (outbox after : Contents) (old one two : Sender) (before middle : List Call) (u v : ℕ) (p : Producer)
    (rest : one ≡ record old { producer = one.producer })
    (made : Introduces old.producer one.producer before middle u v (Ok p))
    (held : IsHeld (dispatch_of old.target) (state_of old outbox)) (same : after ≡ outbox) where
  same_unmade : v ≡ u
  same_unmade = grind (arith, nat_tests)

  known : Begins (dispatch_of old.target) (state_of old outbox) (state_of one outbox) before middle
  known = begins_known outbox old one before middle u v p rest made held

  pub ready_then : {now : List Call} {t : ℕ} {c : State} {tick : Tick} (taken : Bool)
      → Takes (dispatch_of one.target) outbox one two (Ok taken) → taken ≡ true
      → Ticks IsAtMostOne (dispatch_of two.target) (point (state_of two after) middle v) (point c now t) tick
      → Ticks IsOneTick (dispatch_of old.target) (point (state_of old outbox) before u) (point c now t) tick
  ready_then taken takes on last =
      let took : Takes (dispatch_of old.target) outbox one two (Ok true) = grind (arith, nat_tests) in
      let target : two.target ≡ old.target = grind (arith, nat_tests) in
      ticks_behind (begins_taken outbox one two took known) same_unmade (rw (target, same) at last)

  pub idle_then : (taken : Bool) → Takes (dispatch_of one.target) outbox one two (Ok taken) → taken ≡ false
      → Ticks IsOneTick (dispatch_of old.target) (point (state_of old outbox) before u)
      (point (state_of two after) middle v) Idle
  idle_then taken takes off =
      let took : Takes (dispatch_of one.target) outbox one two (Ok false) = grind (arith, nat_tests) in
      let first = known.held in
      let last : Ticks IsAtMostOne (dispatch_of old.target) (point (state_of one outbox) middle v)
      (point (state_of two after) middle v) Idle = grind (arith, nat_tests, ticks_none) in
      ticks_behind known same_unmade last

  pub stopped_then : (reason : StopReason) → Takes (dispatch_of one.target) outbox one two (Err reason)
      → Ticks IsOneTick (dispatch_of old.target) (point (state_of old outbox) before u)
      (point (state_of two after) middle v) (Stopped reason)
  stopped_then reason takes =
      let first = known.held in
      let last : Ticks IsAtMostOne (dispatch_of old.target) (point (state_of one outbox) middle v)
      (point (state_of two after) middle v) (Stopped reason) = grind (arith, nat_tests, ticks_none) in
      ticks_behind known same_unmade last
