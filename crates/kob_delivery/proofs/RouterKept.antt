-- What a run of a router keeps, beside the log of one partition.
use Rattle.kob_delivery.proofs.Words.{All-contains, All-from_recursion, AllByRecursion, Batch, Called, Contains, Contains-append_right, Contains-push, Contents, Dispatch, Dispatching, Event, Hand, List, May, Move, Next, None, Option, OutboxEvent, Place, Producer, Record, Recorded, Repeat, Restarted, Sent, Sequence, Some, State, Swept, Took, [], after, after_use, ap, append-nil, append_assoc, arith, batch_of, both_ways, false, goes_to, history, inl, inr, judge, length, length_push, nat_tests, next_seq, place_of, refl, same_place, sent_batch, sequence_of, slice_get, start, stored_event, subst, sym, carried_id, with_sequence_for, ℕ, ◌++◌, ◌+◌, ◌∙◌, ◌∷◌, ◌≡◌, ◌⊎◌}
use Rattle.kob_delivery.proofs.Logged.{IsKept, kept_at_start, kept_recorded, kept_swept, kept_marked, IsLogged, logged_later, logged_more_rows, IsBatchOf, logged_again, logged_elsewhere, logged_first, AreCounted, counted_none, no_history, sequence_prepared, wrapped, IsNumber, apart_wrapped, counted_last, history_last, idem_of, next_base, next_wrapped, repeat_base, sequence_used_elsewhere, sequence_used_here}
use Rattle.kob_delivery.proofs.Lists.{AreAmong, all_append, among_more, bytes_turned, get_front, first_is, same_here, same_some}
use Rattle.kob_delivery.proofs.Rows.{recorded}

abbrev pub here : Option Event → List Event
here None = []
here (Some row) = row ∷ []

-- what the route makes of a row tells the row's id
abbrev pub TellsItsId : Dispatching → Event → Type 0
TellsItsId route row = (d : Dispatch) → route row ≡ Some d → carried_id d.message ≡ Some row.id

-- the same of every event that can be recorded
abbrev pub TellsIds : Dispatching → Type 0
TellsIds route = (seq : ℕ) (event : OutboxEvent) → TellsItsId route (stored_event seq event)

-- what is in hand is the first row that waits
abbrev pub InHand : Dispatching → Option Hand → List Event → Type 0
InHand route None wait = Unit {0}
InHand route (Some h) wait = (slice_get wait 0 ≡ Some h.event) × (place_of (route h.event) ≡ Some h.place)

pub in_hand_more : (route : Dispatching) (o : Option Hand) (wait : List Event) (row : Event) → InHand route o wait
    → InHand route o (wait ++ row ∷ [])
in_hand_more route None wait row h = tt
in_hand_more route (Some x) wait row h = (get_front wait (row ∷ []) 0 x.event h.0, h.1)

-- of the rows these were sent and these wait, and what is in hand is the first that waits
pub record IsHeld (route : Dispatching) (rows : List Event) (c : Contents) (hand : Option Hand)
    (sent wait : List Event) : Type 0 where
  pub kept : IsKept rows c sent wait
  pub holds : InHand route hand wait

-- the move leaves the mark
abbrev pub IsUnmarked : Move → Type 0
IsUnmarked (Called call marks) = marks ≡ false
IsUnmarked _ = Unit {0}

pub held_by_move : {route : Dispatching} {rows : List Event} {sent wait : List Event} (s : State) (m : Move)
    → May route s m → IsUnmarked m → IsHeld route rows s.outbox s.hand sent wait
    → IsHeld route (rows ++ recorded s m) (after s m).outbox (after s m).hand sent (wait ++ recorded s m)
held_by_move {route = route} {wait = wait} s (Recorded change event) may u h = record {
  kept = kept_recorded change event may h.kept;
  holds = in_hand_more route s.hand wait (stored_event (next_seq s.outbox) event) h.holds;
}
held_by_move s Swept may u h = rw (append-nil, append-nil) (record { kept = kept_swept h.kept; holds = h.holds })
held_by_move s Restarted may u h = rw (append-nil, append-nil) (record { kept = h.kept; holds = tt })
held_by_move s (Took hand) may u h =
    rw (append-nil, append-nil) (record { kept = h.kept; holds = (rw h.kept.waits at may.1, may.2) })
held_by_move s (Called call marks) may u h = rw (u, append-nil, append-nil) h

-- what is in hand counts as sent
pub held_marked : {route : Dispatching} {rows : List Event} {c : Contents} {sent wait : List Event} (hand : Hand)
    → IsHeld route rows c (Some hand) sent wait
    → (rest : List Event)
    × IsHeld route rows (record c { mark = hand.event.seq }) None (sent ++ hand.event ∷ []) rest
held_marked {rows = rows} {c = c} {sent = sent} {wait = wait} hand h = grind (arith, nat_tests, first_is wait hand.event h.holds.0, kept_marked (subst (IsKept rows c sent) (first_is wait hand.event h.holds.0).1 h.kept))

-- what is recorded tells its id
tells_recorded : (route : Dispatching) (s : State) (m : Move) → TellsIds route
    → AllByRecursion (TellsItsId route) (recorded s m)
tells_recorded route s (Recorded change event) tells = (tells (next_seq s.outbox) event, tt)
tells_recorded route s _ tells = tt

-- the batch in hand is in the log, and was not acknowledged yet
pub record IsPending (ss : List Sequence) (hand : Option Hand) (q : Place) (count : ℕ) (ahead : Option Event) : Type 0
  where
    pub before : ℕ
    pub one_more : count ≡ before + 1
    pub base : sequence_of ss q ≡ wrapped before
    pub held : Hand
    pub in_hand : hand ≡ Some held
    pub here_it_goes : held.place ≡ q
    pub is_ahead : ahead ≡ Some held.event

-- the next sequence is the number of batches, or one is pending
abbrev pub InStep : List Sequence → Option Hand → Place → ℕ → Option Event → Type 0
InStep ss hand q count ahead = (sequence_of ss q ≡ wrapped count) ⊎ IsPending ss hand q count ahead

pub record IsKnown (p : Producer) (ss : List Sequence) (hand : Option Hand) (q : Place) (log : List Batch) (issued : List ℕ)
    (ahead : Option Event) : Type 0 where
  pub is_issued : Contains issued p.id
  pub counted : AreCounted p (history p.id log)
  pub in_step : InStep ss hand q (length (history p.id log)) ahead

abbrev pub Known : Option Producer → List Sequence → Option Hand → Place → List Batch → List ℕ → Option Event → Type 0
Known None ss hand q log issued ahead = sequence_of ss q ≡ 0
Known (Some p) ss hand q log issued ahead = IsKnown p ss hand q log issued ahead

known_later : (o : Option Producer) (ss : List Sequence) (hand : Option Hand) (q : Place) (log : List Batch)
    (issued later : List ℕ) (ahead : Option Event) → AreAmong issued later → Known o ss hand q log issued ahead
    → Known o ss hand q log later ahead
known_later None ss hand q log issued later ahead l k = k
known_later (Some p) ss hand q log issued later ahead l k =
    record { is_issued = l.each p.id k.is_issued; counted = k.counted; in_step = k.in_step }

pub known_taken : (o : Option Producer) (ss : List Sequence) (old : Option Hand) (hand : Hand) (q : Place)
    (log : List Batch) (issued : List ℕ) (ahead : Option Event) → old ≡ None → Known o ss old q log issued ahead
    → Known o (with_sequence_for ss hand.place) (Some hand) q log issued ahead
known_taken o ss old hand q log issued ahead none k = grind (arith, nat_tests, sequence_prepared)

module _ (route : Dispatching) (q : Place) where
  -- the rows up to the mark, and at most the one after it, are in the log
  pub record Kept (rows : List Event) (s : State) (log : List Batch) (issued : List ℕ) : Type 0 where
    pub sent : List Event
    pub ahead : Option Event
    pub rest : List Event
    pub held : IsHeld route rows s.outbox s.hand sent (here ahead ++ rest)
    pub tells : AllByRecursion (TellsItsId route) rows
    pub logged : IsLogged route q rows log issued (sent ++ here ahead)
    pub known : Known s.producer s.sequences s.hand q log issued ahead

  pub kept_first : Kept [] start [] []
  kept_first = grind (arith, nat_tests, kept_at_start)

  -- somebody was given a producer id
  pub kept_later : {rows : List Event} {s : State} {log : List Batch} {issued later : List ℕ}
      → AreAmong issued later → Kept rows s log issued → Kept rows s log later
  kept_later {s = s} {log = log} {issued = issued} {later = later} l k = record {
    sent = k.sent;
    ahead = k.ahead;
    rest = k.rest;
    held = k.held;
    tells = k.tells;
    logged = logged_later route q l k.logged;
    known = known_later s.producer s.sequences s.hand q log issued later k.ahead l k.known;
  }

  -- a move that leaves the mark
  pub kept_by_move : {rows : List Event} {s : State} {log : List Batch} {issued : List ℕ} (m : Move) → TellsIds route
      → May route s m → IsUnmarked m → (k : Kept rows s log issued)
      → Known (after s m).producer (after s m).sequences (after s m).hand q log issued k.ahead
      → Kept (rows ++ recorded s m) (after s m) log issued
  kept_by_move {rows} {s} m tells may u k known =
      record {
        sent = k.sent;
        ahead = k.ahead;
        rest = k.rest ++ recorded s m;
        held = rw (← append_assoc (here k.ahead) k.rest (recorded s m)) (held_by_move s m may u k.held);
        tells = all_append (TellsItsId route) rows (recorded s m) k.tells (tells_recorded route s m tells);
        logged = logged_more_rows route q (recorded s m) k.logged;
        known = known;
      }

  -- the producer is given an id
  pub kept_after_id : {rows : List Event} {c : Contents} {ss : List Sequence} {hand : Option Hand} {log : List Batch}
      {issued : List ℕ} (p : Producer) → (Contains issued p.id → ⊥)
      → Kept rows (record { outbox = c; producer = None; sequences = ss; hand = hand }) log issued
      → Kept rows (record { outbox = c; producer = Some p; sequences = ss; hand = hand }) log (issued ++ p.id ∷ [])
  kept_after_id {log = log} {issued = issued} p new k =
      let none : history p.id log ≡ [] = no_history p.id issued new log k.logged.given in
      record {
        sent = k.sent;
        ahead = k.ahead;
        rest = k.rest;
        held = k.held;
        tells = k.tells;
        logged = logged_later route q (among_more issued p.id) k.logged;
        known = record {
          is_issued = Contains-push issued p.id;
          counted = rw none (counted_none p);
          in_step = inl (k.known ∙ ap (λ (sents : List Sent). wrapped (length sents)) (sym none));
        };
      }

-- ---- what a served call of a router keeps

-- a router with a row in hand
abbrev pub holding : Contents → Producer → List Sequence → Hand → State
holding c p ss h = record { outbox = c; producer = Some p; sequences = ss; hand = Some h }

-- its mark may move
abbrev pub IsReady : List Sequence → Hand → Place → ℕ → Option Event → Type 0
IsReady ss h q count ahead = (same_place h.place q ≡ false) ⊎ IsPending ss (Some h) q count ahead

apart_back : (p q : Place) → same_place p q ≡ false → same_place q p ≡ false
apart_back p q h = grind (arith, nat_tests, bytes_turned p.topic q.topic, h)

step_on : (ss : List Sequence) (h : Hand) (q : Place) (n : ℕ) (ahead : Option Event) → InStep ss (Some h) q n ahead
    → IsReady ss h q n ahead → sequence_of (after_use ss h.place) q ≡ wrapped n
step_on ss h q n ahead s ready = grind (arith, nat_tests, sequence_used_elsewhere, same_some, both_ways, same_here, sequence_used_here, next_wrapped)

sent_why : (route : Dispatching) (ss : List Sequence) (h : Hand) (q : Place) (n : ℕ) (ahead : Option Event)
    → place_of (route h.event) ≡ Some h.place → IsReady ss h q n ahead
    → (goes_to q (route h.event) ≡ false) ⊎ (ahead ≡ Some h.event)
sent_why route ss h q n ahead at ready = grind (arith, nat_tests, apart_back, same_some)

module _ (route : Dispatching) (q : Place) where
  -- the row in hand counts as sent
  sent_one : {rows : List Event} {c : Contents} {log : List Batch} {issued : List ℕ} {sent : List Event} (r : Event)
      (ahead : Option Event) (rest : List Event)
      → slice_get (here ahead ++ rest) 0 ≡ Some r → (goes_to q (route r) ≡ false) ⊎ (ahead ≡ Some r)
      → IsKept rows c sent (here ahead ++ rest) → IsLogged route q rows log issued (sent ++ here ahead)
      → (tail : List Event) × IsKept rows (record c { mark = r.seq }) (sent ++ r ∷ []) tail
      × IsLogged route q rows log issued (sent ++ r ∷ [])
  sent_one {rows} {c} {log} {issued} {sent} r None rest f w k l = let at = first_is rest r f in (at.0, kept_marked (rw at.1 at k), elim w [ inl e ↦ logged_elsewhere route q r e (rw (append-nil sent) at l) | inr e ↦ absurd cc ])
  sent_one {rows} {c} {log} {issued} {sent} r (Some x) rest f w k l = grind (arith, nat_tests, same_some x r f, kept_marked k)

  -- the mark moves to the row in hand
  pub kept_after_mark : {rows : List Event} {c : Contents} {p : Producer} {ss : List Sequence} {h : Hand}
      {log : List Batch} {issued : List ℕ} (k : Kept route q rows (holding c p ss h) log issued)
      → IsReady ss h q (length (history p.id log)) k.ahead
      → Kept route q rows (record {
        outbox = record c { mark = h.event.seq };
        producer = Some p;
        sequences = after_use ss h.place;
        hand = None;
      }) log issued
  kept_after_mark {rows} {c} {p} {ss} {h} {log} {issued} k ready =
      let n : ℕ = length (history p.id log) in
      let why = sent_why route ss h q n k.ahead k.held.holds.1 ready in
      let one = sent_one h.event k.ahead k.rest k.held.holds.0 why k.held.kept k.logged in
      let on = step_on ss h q n k.ahead k.known.in_step ready in
      record {
        sent = k.sent ++ h.event ∷ [];
        ahead = None;
        rest = one.0;
        held = record { kept = one.1; holds = tt };
        tells = k.tells;
        logged = rw (append-nil (k.sent ++ h.event ∷ [])) one.2;
        known = record { is_issued = k.known.is_issued; counted = k.known.counted; in_step = inl on };
      }

  log_more : {rows : List Event} {c : Contents} {log : List Batch} {issued : List ℕ} {sent : List Event} {r : Event}
      {x : Record} {b : Batch} (ahead : Option Event) (rest tail : List Event) → here ahead ++ rest ≡ r ∷ tail
      → Contains rows r → IsBatchOf route q r x issued b → IsKept rows c sent (here ahead ++ rest)
      → IsLogged route q rows log issued (sent ++ here ahead)
      → IsLogged route q rows (log ++ b ∷ []) issued (sent ++ r ∷ [])
  log_more {rows} {c} {log} {issued} {sent} None rest tail w at is k l = logged_first route q at is (rw w at k).order.1 (rw (append-nil sent) at l)
  log_more {rows} {c} {log} {issued} {sent} (Some y) rest tail w at is k l = grind (arith, nat_tests, logged_again route q sent at is (subst (λ (z : Event). IsLogged route q rows log issued (sent ++ z ∷ [])) (cc) l))

  -- a router whose row was put on the log, or goes elsewhere
  abbrev pub IsServed : List Event → Contents → Producer → List Sequence → Hand → List Batch → List ℕ → Type 0
  IsServed rows c p ss h log issued =
      (k : Kept route q rows (holding c p ss h) log issued) × IsReady ss h q (length (history p.id log)) k.ahead

-- a new batch of the row in hand
pub kept_after_batch : (route : Dispatching) (rows : List Event) (c : Contents) (p : Producer) (ss : List Sequence)
    (h : Hand)
    (log : List Batch) (issued : List ℕ) (x : Record)
    → Kept route h.place rows (holding c p ss h) log issued
    → route h.event ≡ Some (record { place = h.place; message = x })
    → judge (history p.id log) (idem_of p (sequence_of ss h.place)) 1 ≡ Next
    → IsServed route h.place rows c p ss h (log ++ batch_of p (sequence_of ss h.place) x ∷ []) issued
kept_after_batch route rows c p ss h log issued x k to comes =
    let q : Place = h.place in
    let n : ℕ = length (history p.id log) in
    let base : sequence_of ss q ≡ wrapped n =
    next_base p (history p.id log) (sequence_of ss q) k.known.counted comes in
    let more = history_last p log (sequence_of ss q) x in
    let s : Sent = sent_batch (idem_of p (sequence_of ss q)) 1 more.0 in
    let number : IsNumber p n s = record { epoch = refl; base = base; single = refl } in
    let longer : List Batch = log ++ batch_of p (sequence_of ss q) x ∷ [] in
    let count : length (history p.id longer) ≡ n + 1 = ap length more.1 ∙ length_push (history p.id log) s in
    let at = first_is (here k.ahead ++ k.rest) h.event k.held.holds.0 in
    let kept : IsKept rows c k.sent (h.event ∷ at.0) = rw at.1 at k.held.kept in
    let last = Contains-append_right k.sent (h.event ∷ at.0) h.event (0, omega arith, refl) in
    let has : Contains rows h.event = rw kept.rows_are last in
    let tells = All-contains (TellsItsId route) rows h.event (All-from_recursion (TellsItsId route) rows k.tells) has in
    let is : IsBatchOf route q h.event x issued (batch_of p (sequence_of ss q) x) =
    record { tells = tells (record { place = q; message = x }) to; routed = to; single = refl; given = k.known.is_issued } in
    let pending : IsPending ss (Some h) q (length (history p.id longer)) (Some h.event) =
    record {
      before = n;
      one_more = count;
      base = base;
      held = h;
      in_hand = refl;
      here_it_goes = refl;
      is_ahead = refl;
    } in
    let logged = log_more route q k.ahead k.rest at.0 at.1 has is k.held.kept k.logged in (
      record {
        sent = k.sent;
        ahead = Some h.event;
        rest = at.0;
        held = record { kept = kept; holds = (refl, k.held.holds.1) };
        tells = k.tells;
        logged = logged;
        known = record {
          is_issued = k.known.is_issued;
          counted = rw more.1 (counted_last p (history p.id log) s k.known.counted number);
          in_step = inr pending;
        };
      },
      inr pending,
    )

-- a repeat stands in the log
pub repeat_is_pending : (route : Dispatching) (rows : List Event) (c : Contents) (p : Producer) (ss : List Sequence)
    (h : Hand)
    (log : List Batch) (issued : List ℕ) (offset : ℕ) (k : Kept route h.place rows (holding c p ss h) log issued)
    → judge (history p.id log) (idem_of p (sequence_of ss h.place)) 1 ≡ Repeat offset
    → IsReady ss h h.place (length (history p.id log)) k.ahead
repeat_is_pending route rows c p ss h log issued offset k again = grind (arith, nat_tests, repeat_base, apart_wrapped)
