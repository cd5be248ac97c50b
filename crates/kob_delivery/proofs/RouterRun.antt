-- What each call of a router keeps, served or not, and what its run leaves on a partition.
use Rattle.kob_delivery.proofs.Words.{Accepts, AllByRecursion, AreServed, Batch, Body, Bool, Call, Called, Contains, Contents, Denied, Dispatching, Does, Done, Entry, Event, Gives, Hand, InitProducerId, IsDelivered, IsDone, IsHistory, IsNeverDeleted, IsNoDeletion, IsOwnProduce, IsRouterRun, IsSameView, IsSending, IsSent, IsSoleProducer, IsWaitingOrSent, Judgement, List, May, MayCall, Move, Next, None, Option, Place, Produce, Producer, Record, Recorded, Refused, Repeat, Reply, Request, Restarted, Sequence, Some, State, Step, Swept, Took, View, [], after, after_acknowledgement, ap, append-nil, append_assoc, arith, batch_of, calls_of, events_of, false, filter-append, goes_to, history, inl, inr, judge, ltb-true, map, map-append, nat_lt, nat_tests, of_each, opening_view, producer_after, records_of, refl, routed_to, sequence_of, served_to, start, subst, sym, true, true≢false, was_kept, with_batch, with_producer, ℕ, ◌++◌, ◌∙◌, ◌∷◌, ◌≡◌}
use Rattle.kob_rights.specs.declared.on_partitions.Produce.{Produce as ProduceRequest}
use Rattle.kob_delivery.proofs.Lists.{all_both, among_more, place_cases, same_here, all_append, all_last, all_weaker}
use Rattle.kob_delivery.proofs.RouterKept.{IsServed, Kept, TellsIds, here, holding, kept_after_batch, kept_after_id, kept_after_mark, kept_by_move, kept_first, kept_later, known_taken, repeat_is_pending, IsHeld, IsUnmarked, held_by_move, held_marked}
use Rattle.kob_delivery.proofs.Logged.{idem_of, kept_at_start}
use Rattle.kob_delivery.proofs.ServedRuns.{Hears, IsServedBy, IsUnheard, StepsAs, history_passes, IsOf, all_pass}
use Rattle.kob_delivery.proofs.OtherSteps.{leaves}
use Rattle.kob_delivery.proofs.Rows.{call_of, kept_by_router, recorded}

-- no Done was heard
abbrev pub NotDone : Option Reply → Type 0
NotDone None = Unit {0}
NotDone (Some (Denied code verdicts)) = Unit {0}
NotDone (Some (Refused code reason)) = Unit {0}
NotDone (Some (Done body)) = ⊥

-- the reply is no Done
abbrev pub IsNoDone : Reply → Type 0
IsNoDone reply = NotDone (Some reply)

pub heard_none : (heard : Option Reply) → heard ≡ None → NotDone heard
heard_none heard e = subst NotDone (sym e) tt

pub heard_no_done : (heard : Option Reply) (reply : Reply) → IsNoDone reply → Hears heard reply → NotDone heard
heard_no_done heard reply no_done (inl e) = heard_none heard e
heard_no_done heard reply no_done (inr e) = subst NotDone (sym e) no_done

-- a call that was not answered with Done gives no id, and moves no mark
pub unanswered : (old : Option Producer) (request : Request) (heard : Option Reply) → NotDone heard
    → producer_after old request heard ≡ old
unanswered old request heard n = grind (arith, nat_tests)

pub unmarked : (route : Dispatching) (s : State) (request : Request) (heard : Option Reply) (marks : Bool)
    → MayCall route s request heard marks → NotDone heard → marks ≡ false
unmarked route s request heard marks may n = grind (arith, nat_tests)

-- a state with another producer
abbrev holding_id : State → Option Producer → State
holding_id s o = record { outbox = s.outbox; producer = o; sequences = s.sequences; hand = s.hand }

pub is_holding : (s : State) (p : Producer) (h : Hand) → s.producer ≡ Some p → s.hand ≡ Some h
    → s ≡ holding s.outbox p s.sequences h
is_holding s p h e f = grind (arith, nat_tests)

-- the batch of the row in hand that comes next
abbrev pub batch_in_hand : Producer → List Sequence → Hand → Record → Batch
batch_in_hand p ss h x = batch_of p (sequence_of ss h.place) x

module _ (route : Dispatching) where
  -- as a view shows it
  abbrev pub KeptIn : Place → List Event → State → View → Type 0
  KeptIn q rows s v = Kept route q rows s (v.log q) v.given

  abbrev pub ServedIn : Place → List Event → Contents → Producer → List Sequence → Hand → View → Type 0
  ServedIn q rows c p ss h v = IsServed route q rows c p ss h (v.log q) v.given

  accepted : (q : Place) (rows : List Event) (c : Contents) (p : Producer) (ss : List Sequence) (h : Hand) (v w : View)
      (x : Record) (j : Judgement) → KeptIn q rows (holding c p ss h) v
      → route h.event ≡ Some (record { place = h.place; message = x })
      → judge (history p.id (v.log h.place)) (idem_of p (sequence_of ss h.place)) 1 ≡ j
      → Accepts j v h.place (batch_in_hand p ss h x) w
      → ServedIn q rows c p ss h w
  accepted q rows c p ss h v w x Next k to judged a =
      rw (a.log q, a.given)
      (elim (place_cases h.place q) [
        | inl e ↦
            let b : Batch = batch_in_hand p ss h x in
            let longer : (with_batch v h.place b).log h.place ≡ v.log h.place ++ b ∷ [] = rw (same_here h.place) refl in
            rw (← e, longer)
            (kept_after_batch route rows c p ss h (v.log h.place) v.given x (rw (← e) at k) to judged)
        | inr apart ↦
            let same : (with_batch v h.place (batch_in_hand p ss h x)).log q ≡ v.log q = rw apart refl in
            rw same (k, inl apart)
      ])
  accepted q rows c p ss h v w x (Repeat offset) k to judged a =
      rw (a.log q, a.given)
      (elim (place_cases h.place q) [
        | inl e ↦
            let k' : KeptIn h.place rows (holding c p ss h) v = rw (← e) at k in
            rw (← e) (k', repeat_is_pending route rows c p ss h (v.log h.place) v.given offset k' judged)
        | inr apart ↦ (k, inl apart)
      ])
  accepted q rows c p ss h v w x _ k to judged a = absurd a

module _ (route : Dispatching) (q : Place) where
  -- what is in hand was sent, and that this is done was heard, or was not
  produced : (rows : List Event) (s : State) (v w : View) (asked : ProduceRequest) (body : Body) (heard : Option Reply)
      (marks : Bool)
      → KeptIn route q rows s v → IsSending route s asked → Does v (Produce asked) body w
      → KeptIn route q rows (after s (Called (record { request = Produce asked; heard = heard }) marks)) w
  produced rows s v w asked body heard marks k i d =
      subst (λ (y : State). KeptIn route q rows (after y
      (Called (record { request = Produce asked; heard = heard }) marks)) w) (sym same)
      (marked_or_not marks done)
    where
      same : s ≡ holding s.outbox i.producer s.sequences i.hand
      same = is_holding s i.producer i.hand i.has_producer i.has_hand

      done : ServedIn route q rows s.outbox i.producer s.sequences i.hand w
      done =
          accepted route q rows s.outbox i.producer s.sequences i.hand v w i.message _
          (subst (λ (y : State). KeptIn route q rows y v) same k) i.routed refl
          (rw (i.same_topic, i.same_partition, i.same_batch) at d.1)

      marked_or_not : (m : Bool) → ServedIn route q rows s.outbox i.producer s.sequences i.hand w
          → KeptIn route q rows (after (holding s.outbox i.producer s.sequences i.hand)
          (Called (record { request = Produce asked; heard = heard }) m)) w
      marked_or_not true x = kept_after_mark route q x.0 x.1
      marked_or_not false x = x.0

  -- a call that was not answered with Done changes nothing
  pub kept_after_no_answer : (rows : List Event) (s : State) (v : View) (request : Request) (heard : Option Reply)
      (marks : Bool)
      → MayCall route s request heard marks → NotDone heard → KeptIn route q rows s v
      → KeptIn route q rows (after s (Called (record { request = request; heard = heard }) marks)) v
  kept_after_no_answer rows s v request heard marks may n k =
      rw (unmarked route s request heard marks may n, unanswered s.producer request heard n) k

  -- an INIT_PRODUCER_ID that was answered
  given_id : (rows : List Event) (s : State) (v w : View) (body : Body) (heard : Option Reply)
      → s.producer ≡ None → (g : Gives v body w) → Hears heard (Done body) → KeptIn route q rows s v
      → KeptIn route q rows (holding_id s (producer_after s.producer InitProducerId heard)) (with_producer v g.id)
  given_id rows s v w body heard none g (inl e) k = rw e (kept_later route q (among_more v.given g.id) k)
  given_id rows s v w body heard none g (inr e) k =
      rw (e, g.body_is)
      (kept_after_id route q (record { id = g.id; epoch = g.epoch }) g.first
      (subst (λ (o : Option Producer). KeptIn route q rows (holding_id s o) v) none k))

  -- a call that was served, whatever was heard
  pub kept_after_served : (rows : List Event) (s : State) (v w : View) (request : Request) (reply : Reply)
      (heard : Option Reply) (marks : Bool)
      → MayCall route s request heard marks → Hears heard reply → Step v request reply w → KeptIn route q rows s v
      → KeptIn route q rows (after s (Called (record { request = request; heard = heard }) marks)) w
  kept_after_served rows s v w request (Denied code verdicts) heard marks may hears step k = grind (arith, nat_tests)
  kept_after_served rows s v w request (Refused code reason) heard marks may hears step k = grind (arith, nat_tests)
  kept_after_served rows s v w InitProducerId (Done body) heard true may hears step k = absurd (true≢false may.1)
  kept_after_served rows s v w InitProducerId (Done body) heard false may hears step k =
      rw (step.then_given.log q, step.then_given.given) (given_id rows s v w body heard may.0 step hears k)
  kept_after_served rows s v w (Produce asked) (Done body) heard marks may hears step k =
      produced rows s v w asked body heard marks k may.0 step
  kept_after_served rows s v w _ (Done body) heard marks may hears step k = absurd may

-- ---- what a router leaves on a partition: by its own moves and the entries of the journal, each at its pace

module _ (route : Dispatching) (q : Place) (tells : TellsIds route) (worker : ℕ) (end : View) where
  -- a PRODUCE to the topic that was done is the worker's, and nobody deletes the topic
  abbrev pub IsAsked : Entry → Type 0
  IsAsked e = IsOwnProduce worker q.topic e × IsNoDeletion q.topic e

  pub kept_move : (m : Move) (rows : List Event) (s : State) (v : View) → May route s m → IsUnheard (call_of m)
      → KeptIn route q rows s v → KeptIn route q (rows ++ recorded s m) (after s m) v
  kept_move (Recorded change event) rows s v may u k =
      kept_by_move route q (Recorded change event) tells may tt k k.known
  kept_move Swept rows s v may u k = kept_by_move route q Swept tells may tt k k.known
  kept_move Restarted rows s v may u k = kept_by_move route q Restarted tells may tt k refl
  kept_move (Took hand) rows s v may u k =
      kept_by_move route q (Took hand) tells may tt k
      (known_taken s.producer s.sequences s.hand hand q (v.log q) v.given k.ahead may.0 k.known)
  kept_move (Called c marks) rows s v may u k = grind (arith, nat_tests, append-nil, kept_after_no_answer, heard_none)

  pub served : (c : Call) (marks : Bool) (rows : List Event) (s : State) (e : Entry) (v w : View)
      → May route s (Called c marks) → IsServedBy e (Some c) → e.worker ≡ worker → StepsAs IsAsked v e w
      → KeptIn route q rows s v → KeptIn route q rows (after s (Called c marks)) w
  served c marks rows s e v w may by own goes k = grind (arith, nat_tests, kept_after_served)

  pub others : (rows : List Event) (s : State) (e : Entry) (v w : View) → (e.worker ≡ worker → ⊥)
      → StepsAs IsAsked v e w → KeptIn route q rows s v → KeptIn route q rows s w
  others rows s e v w other ((sole, never), step) k = grind (arith, nat_tests, leaves [] q v w e.event.request e.reply never step, append-nil (v.log q), kept_later route q (leaves [] q v w e.event.request e.reply never step).later k)

  as_shown : (rows : List Event) (s : State) (v : View) → IsSameView end v → KeptIn route q rows s v
      → KeptIn route q rows s end
  as_shown rows s v same k = rw (same.log q, same.given) k

  -- what is kept says what was delivered
  delivered : (rows : List Event) (s : State) → KeptIn route q rows s end
      → IsDelivered route q rows (records_of (end.log q))
  delivered rows s k =
      let front : List Event = k.sent ++ here k.ahead in
      let all : front ++ k.rest ≡ rows = append_assoc k.sent (here k.ahead) k.rest ∙ sym k.held.kept.rows_are in
      record {
        ids = (
          map (λ r. r.id) (routed_to route q k.rest),
          ap (λ xs. xs ++ map (λ r. r.id) (routed_to route q k.rest)) k.logged.delivered
              ∙ sym (map-append (λ (r : Event). r.id) (routed_to route q front) (routed_to route q k.rest))
              ∙ ap (map (λ (r : Event). r.id)) (sym (filter-append (λ r. goes_to q (route r)) front k.rest))
              ∙ ap (λ rs. map (λ (r : Event). r.id) (routed_to route q rs)) all,
        );
        each = k.logged.each;
      }

  pub is_delivered : (journal : List Entry) (moves : List Move) (final : State)
      → IsHistory opening_view journal end → IsRouterRun route start moves final
      → AreServed (calls_of moves) (served_to worker journal) → IsSoleProducer worker q.topic journal
      → IsNeverDeleted q.topic journal
      → IsDelivered route q (events_of start.outbox moves) (records_of (end.log q))
  is_delivered journal moves final history run a sole never =
      let each = all_both (IsOwnProduce worker q.topic) (IsNoDeletion q.topic) journal sole never in
      let p = history_passes IsAsked opening_view end journal history each in
      let k =
      kept_by_router route worker (StepsAs IsAsked) (KeptIn route q) kept_move served others moves final journal
      opening_view p.0 run a p.1 (kept_first route q) in
      delivered (events_of start.outbox moves) final (as_shown (events_of start.outbox moves) final p.0 p.2 k)

-- No recorded row is lost.

module _ (route : Dispatching) (worker : ℕ) (journal : List Entry) where
  -- what a run keeps: each row up to the mark was sent
  record Sent (rows : List Event) (s : State) : Type 0 where
    sent : List Event
    wait : List Event
    held : IsHeld route rows s.outbox s.hand sent wait
    each : AllByRecursion (IsSent route worker journal) sent

  kept_mark : (rows : List Event) (s : State) (hand : Hand) → s.hand ≡ Some hand
      → IsSent route worker journal hand.event
      → Sent rows s → Sent rows (after_acknowledgement s (Some hand))
  kept_mark rows s hand e entry k = grind (arith, nat_tests, held_marked, all_last)

  kept_unmarked : (m : Move) (rows : List Event) (s : State) → May route s m → IsUnmarked m → Sent rows s
      → Sent (rows ++ recorded s m) (after s m)
  kept_unmarked m rows s may u k =
      record { sent = k.sent; wait = k.wait ++ recorded s m; held = held_by_move s m may u k.held; each = k.each }

  -- the entry that acknowledges what is in hand
  acknowledged : (s : State) (asked : ProduceRequest) (c : Call) (e : Entry) (i : IsSending route s asked)
      → c.request ≡ Produce asked → IsDone c.heard → IsServedBy e (Some c) → e.worker ≡ worker → Contains journal e
      → IsSent route worker journal i.hand.event
  acknowledged s asked c e i is done by own there = grind (arith, nat_tests)

  -- a call that acknowledges nothing, or what the entry says that it is done
  kept_call : (rows : List Event) (s : State) (request : Request) (heard : Option Reply) (marks : Bool)
      → MayCall route s request heard marks
      → (marks ≡ true → (asked : ProduceRequest) (i : IsSending route s asked) → request ≡ Produce asked → IsDone heard
      → IsSent route worker journal i.hand.event)
      → Sent rows s → Sent rows (after s (Called (record { request = request; heard = heard }) marks))
  kept_call rows s request heard marks may sent k = grind (arith, nat_tests, true≢false, kept_mark)

  unmarked_move : (m : Move) (s : State) → May route s m → IsUnheard (call_of m) → IsUnmarked m
  unmarked_move m s may u = grind (arith, nat_tests)

  pub all_wait_or_sent : (moves : List Move) (final : State) → IsRouterRun route start moves final
      → AreServed (calls_of moves) (served_to worker journal)
      → AllByRecursion (IsWaitingOrSent route worker journal final.outbox) (events_of start.outbox moves)
  all_wait_or_sent moves final run served =
      let Waits : Event → Type 0 = IsWaitingOrSent route worker journal final.outbox in
      let first : Sent [] start = record { sent = []; wait = []; held = record { kept = kept_at_start; holds = tt }; each = tt } in
      let k : Sent (events_of start.outbox moves) final =
      kept_by_router route worker (IsOf journal) (λ rows s b. Sent rows s)
      (λ m rows s b may u k. kept_unmarked m rows s may (unmarked_move m s may u) k)
      (λ c marks rows s e b d may by own there k.
      kept_call rows s c.request c.heard marks may (λ on asked i is done. acknowledged s asked c e i is done by own there)
      k) (λ rows s e b d other there k. k) moves final journal tt tt run served (all_pass journal) first in
      let waits : AllByRecursion Waits k.wait =
      of_each Waits k.wait (λ row c.
      let f = was_kept (λ r. nat_lt final.outbox.mark r.seq) final.outbox.events row (rw k.held.kept.waits c) in
      inl (record { past = ltb-true final.outbox.mark row.seq f.1; there = f.0 })) in
      let done = all_weaker (IsSent route worker journal) Waits (λ row e. inr e) k.sent k.each in
      rw k.held.kept.rows_are (all_append Waits k.sent k.wait done waits)
