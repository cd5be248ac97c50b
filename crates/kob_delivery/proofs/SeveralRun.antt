-- What a partition holds to which others send too: records that the route makes of a row, and others, which carry none
-- of some event ids.
use Rattle.kob_delivery.proofs.Words.{Accepts, AllByRecursion, AreServed, Body, Bool, Call, Called, Contains, Contains-append_left, Contains-append_right, Deletes, Denied, Dispatching, Done, Entry, Event, Hand, InitProducerId, IsHistory, IsNeverDeleted, IsNoDeletion, IsRecordOf, IsRouterRun, Judgement, List, May, MayCall, Move, Next, OldEpoch, Option, OutOfOrder, Place, Produce, Produces, Record, Refused, Repeat, Reply, Request, Some, State, Step, View, [], after, ap, append-nil, arith, calls_of, events_of, false, inl, inr, opening_view, place_at, records_of, refl, same_place, served_to, start, subst, sym, true, true≢false, with_batch, ℕ, ◌++◌, ◌∙◌, ◌∷◌, ◌≡◌, ◌⊎◌}
use Rattle.kob_rights.specs.declared.on_partitions.Produce.{Produce as ProduceRequest}
use Rattle.kob_partition.proofs.Keeping.{records_of_push}
use Rattle.kob_router.specs.Run.{IsSending}
use Rattle.kob_delivery.specs.Several.{CarriesNone, IsOwnOrApart}
use Rattle.kob_delivery.proofs.Lists.{all_append, all_both, all_weaker, first_is, place_cases, same_here}
use Rattle.kob_delivery.proofs.Logged.{kept_at_start}
use Rattle.kob_delivery.proofs.OtherSteps.{leaves}
use Rattle.kob_delivery.proofs.RouterKept.{InHand, IsHeld, IsUnmarked, held_by_move, held_marked}
use Rattle.kob_delivery.proofs.RouterRun.{heard_none, unmarked}
use Rattle.kob_delivery.proofs.Rows.{call_of, kept_by_router, recorded}
use Rattle.kob_delivery.proofs.ServedRuns.{IsServedBy, IsUnheard, StepsAs, history_passes}

-- ---- what an entry adds to the log of one partition

produce_or_not : (request : Request) → ((asked : ProduceRequest) × (request ≡ Produce asked))
    ⊎ ((topic : List ℕ) (reply : Reply) → Produces topic request reply → ⊥)
produce_or_not (Produce asked) = inl (asked, refl)
produce_or_not _ = inr (λ topic reply is. is)

module _ (q : Place) where
  -- a batch, which is that of a PRODUCE to the partition that was done
  pub record IsAdded (v w : View) (request : Request) (reply : Reply) : Type 0 where
    pub asked : ProduceRequest
    pub is : request ≡ Produce asked
    pub there : place_at asked.topic asked.partition ≡ q
    pub produces : Produces q.topic request reply
    pub log : w.log q ≡ v.log q ++ asked.batch ∷ []

  abbrev pub AddsTo : View → View → Request → Reply → Type 0
  AddsTo v w request reply = (w.log q ≡ v.log q) ⊎ IsAdded v w request reply

  added_batch : (v w : View) (asked : ProduceRequest) (body : Body) (j : Judgement)
      → Accepts j v (place_at asked.topic asked.partition) asked.batch w → AddsTo v w (Produce asked) (Done body)
  added_batch v w asked body Next a =
      elim (place_cases (place_at asked.topic asked.partition) q) [
        | inl e ↦
            let on : same_place (place_at asked.topic asked.partition) q ≡ true =
            ap (λ (x : Place). same_place (place_at asked.topic asked.partition) x) (sym e)
            ∙ same_here (place_at asked.topic asked.partition) in
            let more : (with_batch v (place_at asked.topic asked.partition) asked.batch).log q
            ≡ v.log q ++ asked.batch ∷ [] =
            rw on refl in
            inr (record {
              asked = asked;
              is = refl;
              there = e;
              produces = ap (λ (x : Place). x.topic) e;
              log = a.log q ∙ more;
            })
        | inr apart ↦
            let same : (with_batch v (place_at asked.topic asked.partition) asked.batch).log q ≡ v.log q =
            rw apart refl in inl (a.log q ∙ same)
      ]
  added_batch v w asked body (Repeat offset) a = inl (a.log q)
  added_batch v w asked body OutOfOrder a = absurd a
  added_batch v w asked body OldEpoch a = absurd a

  added_by_produce : (v w : View) (asked : ProduceRequest) (reply : Reply) → Step v (Produce asked) reply w
      → AddsTo v w (Produce asked) reply
  added_by_produce v w asked (Denied code verdicts) step = inl (step.log q)
  added_by_produce v w asked (Refused code reason) step = inl (step.log q)
  added_by_produce v w asked (Done body) step = added_batch v w asked body _ step.1

  pub added_by : (v w : View) (request : Request) (reply : Reply) → (Deletes q.topic request reply → ⊥)
      → Step v request reply w → AddsTo v w request reply
  added_by v w request reply kept step =
      elim (produce_or_not request) [
        | inl (asked, e) ↦
            subst (λ (r : Request). AddsTo v w r reply) (sym e)
            (added_by_produce v w asked reply (subst (λ (r : Request). Step v r reply w) e step))
        | inr none ↦
            let l = leaves [] q v w request reply kept step in
            inl (l.log ∙ ap (λ bs. v.log q ++ bs) (l.grows (none q.topic reply)) ∙ append-nil (v.log q))
      ]

-- ---- what a run of a router keeps

module _ (route : Dispatching) (q : Place) (ids : List (List ℕ)) where
  -- the record is what the route makes of a row for the partition, or carries none of the ids
  abbrev pub IsOfRowOrOther : List Event → Record → Type 0
  IsOfRowOrOther rows x = IsRecordOf route q rows x ⊎ CarriesNone ids x

  more_rows : (rows more : List Event) (records : List Record) → AllByRecursion (IsOfRowOrOther rows) records
      → AllByRecursion (IsOfRowOrOther (rows ++ more)) records
  more_rows rows more records each =
      all_weaker (IsOfRowOrOther rows) (IsOfRowOrOther (rows ++ more))
      (λ x is. elim is [
        | inl (row, at, to) ↦ inl (row, Contains-append_left rows more row at, to)
        | inr other ↦ inr other
      ]) records each

  grown : (rows : List Event) (v w : View) (request : Request) (reply : Reply)
      → AllByRecursion (IsOfRowOrOther rows) (records_of (v.log q)) → AddsTo q v w request reply
      → ((a : IsAdded q v w request reply) → AllByRecursion (IsOfRowOrOther rows) a.asked.batch.records)
      → AllByRecursion (IsOfRowOrOther rows) (records_of (w.log q))
  grown rows v w request reply each (inl same) new = rw same each
  grown rows v w request reply each (inr a) new =
      rw (a.log, records_of_push (v.log q) a.asked.batch)
      (all_append (IsOfRowOrOther rows) (records_of (v.log q)) a.asked.batch.records each (new a))

  -- a router sends what the route makes of the row in hand
  own_records : (rows : List Event) (s : State) (asked : ProduceRequest) (sent wait : List Event)
      → IsSending route s asked → place_at asked.topic asked.partition ≡ q
      → IsHeld route rows s.outbox s.hand sent wait
      → AllByRecursion (IsOfRowOrOther rows) asked.batch.records
  own_records rows s asked sent wait i there held =
      let at : place_at asked.topic asked.partition ≡ i.hand.place =
      ap (λ t. place_at t asked.partition) i.same_topic ∙ ap (λ n. place_at i.hand.place.topic n) i.same_partition in
      let holds : InHand route (Some i.hand) wait = rw i.has_hand at held.holds in
      let front = first_is wait i.hand.event holds.0 in
      let rows_are : rows ≡ sent ++ i.hand.event ∷ front.0 =
      held.kept.rows_are ∙ ap (λ (ys : List Event). sent ++ ys) front.1 in
      let has : Contains rows i.hand.event =
      rw rows_are (Contains-append_right sent (i.hand.event ∷ front.0) i.hand.event (0, omega arith, refl)) in
      let to : route i.hand.event ≡ Some (record { place = q; message = i.message }) =
      i.routed ∙ ap (λ (p : Place). Some (record { place = p; message = i.message })) (sym at ∙ there) in
      rw i.same_batch (inl (i.hand.event, has, to), tt)

  held_called : (rows : List Event) (s : State) (request : Request) (heard : Option Reply) (marks : Bool)
      (sent wait : List Event) → MayCall route s request heard marks → IsHeld route rows s.outbox s.hand sent wait
      → (then_sent : List Event) × (rest : List Event)
      × IsHeld route rows (after s (Called (record { request = request; heard = heard }) marks)).outbox
      (after s (Called (record { request = request; heard = heard }) marks)).hand then_sent rest
  held_called rows s request heard false sent wait may h = (sent, wait, h)
  held_called rows s InitProducerId heard true sent wait may h = absurd (true≢false may.1)
  held_called rows s (Produce asked) heard true sent wait may h =
      let hand : Hand = may.0.hand in
      let has : s.hand ≡ Some hand = may.0.has_hand in
      let marked = held_marked hand (subst (λ o. IsHeld route rows s.outbox o sent wait) has h) in
      rw has (sent ++ hand.event ∷ [], marked.0, marked.1)
  held_called rows s _ heard true sent wait may h = absurd may

  module _ (worker : ℕ) (end : View) where
    pub record Mixed (rows : List Event) (s : State) (v : View) : Type 0 where
      pub sent : List Event
      pub wait : List Event
      pub held : IsHeld route rows s.outbox s.hand sent wait
      pub each : AllByRecursion (IsOfRowOrOther rows) (records_of (v.log q))

    abbrev IsAsked : Entry → Type 0
    IsAsked e = IsOwnOrApart worker q.topic ids e × IsNoDeletion q.topic e

    unmarked_move : (m : Move) (s : State) → May route s m → IsUnheard (call_of m) → IsUnmarked m
    unmarked_move (Called c marks) s may u = unmarked route s c.request c.heard marks may (heard_none c.heard u)
    unmarked_move _ s may u = tt

    moved : (m : Move) (rows : List Event) (s : State) (v : View) → May route s m → IsUnheard (call_of m)
        → Mixed rows s v → Mixed (rows ++ recorded s m) (after s m) v
    moved m rows s v may u k = record {
      sent = k.sent;
      wait = k.wait ++ recorded s m;
      held = held_by_move s m may (unmarked_move m s may u) k.held;
      each = more_rows rows (recorded s m) (records_of (v.log q)) k.each;
    }

    served : (c : Call) (marks : Bool) (rows : List Event) (s : State) (e : Entry) (v w : View)
        → May route s (Called c marks) → IsServedBy e (Some c) → e.worker ≡ worker → StepsAs IsAsked v e w
        → Mixed rows s v → Mixed rows (after s (Called c marks)) w
    served c marks rows s e v w may by own goes k =
        let h = held_called rows s c.request c.heard marks k.sent k.wait may k.held in
        let never : Deletes q.topic c.request e.reply → ⊥ = rw by.0 at goes.0.1 in
        let step : Step v c.request e.reply w = rw by.0 at goes.1 in
        record {
          sent = h.0;
          wait = h.1;
          held = h.2;
          each = grown rows v w c.request e.reply k.each (added_by q v w c.request e.reply never step)
              (λ a.
              let sends : MayCall route s (Produce a.asked) c.heard marks =
              subst (λ (r : Request). MayCall route s r c.heard marks) a.is may in
              own_records rows s a.asked k.sent k.wait sends.0 a.there k.held);
        }

    others : (rows : List Event) (s : State) (e : Entry) (v w : View) → (e.worker ≡ worker → ⊥)
        → StepsAs IsAsked v e w → Mixed rows s v → Mixed rows s w
    others rows s e v w other goes k = record {
      sent = k.sent;
      wait = k.wait;
      held = k.held;
      each = grown rows v w e.event.request e.reply k.each
          (added_by q v w e.event.request e.reply goes.0.1 goes.1)
          (λ a. elim (goes.0.0 a.produces) [
            | inl own ↦ absurd (other own)
            | inr none ↦
                let none_there = rw a.is at none in
                all_weaker (CarriesNone ids) (IsOfRowOrOther rows) (λ x c. inr c) a.asked.batch.records none_there
          ]);
    }

    pub is_mixed : (journal : List Entry) (moves : List Move) (final : State)
        → IsHistory opening_view journal end → IsRouterRun route start moves final
        → AreServed (calls_of moves) (served_to worker journal)
        → AllByRecursion (IsOwnOrApart worker q.topic ids) journal → IsNeverDeleted q.topic journal
        → AllByRecursion (IsOfRowOrOther (events_of start.outbox moves)) (records_of (end.log q))
    is_mixed journal moves final history run a apart never =
        let each = all_both (IsOwnOrApart worker q.topic ids) (IsNoDeletion q.topic) journal apart never in
        let p = history_passes IsAsked opening_view end journal history each in
        let first : Mixed [] start opening_view =
        record { sent = []; wait = []; held = record { kept = kept_at_start; holds = tt }; each = tt } in
        let k : Mixed (events_of start.outbox moves) final p.0 =
        kept_by_router route worker (StepsAs IsAsked) Mixed moved served others moves final journal opening_view p.0 run a
        p.1 first in
        rw (p.2.log q) k.each
