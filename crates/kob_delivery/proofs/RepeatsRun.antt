-- What each call of a router adds of a row, served or not, and how often its run leaves a row on a partition.
use Rattle.kob_delivery.proofs.Words.{Accepts, AreServed, Body, Bool, Call, Called, Contents, Denied, Dispatching, Done, Entry, Event, Hand, InitProducerId, IsHistory, IsNeverDeleted, IsNoDeletion, IsOwnProduce, IsRouterRun, IsServicePart, IsSoleProducer, Judgement, List, May, MayCall, Move, Next, None, Option, Place, Produce, Producer, Record, Recorded, Refused, Repeat, Reply, Request, Restarted, Sequence, Some, State, Step, Swept, Target, Took, View, [], after, ap, append-nil, arith, calls_of, dispatch_of, false, history, inl, inr, judge, next_seq, opening_view, records_of, refl, sequence_of, served_to, start, stored_event, subst, sym, true, true≢false, with_batch, ℕ, ◌++◌, ◌+◌, ◌∙◌, ◌∷◌, ◌≡◌, ◌≤◌}
use Rattle.kob_rights.specs.declared.on_partitions.Produce.{Produce as ProduceRequest}
use Rattle.kob_router.specs.Run.{IsSending}
use Rattle.kob_delivery.specs.Repeats.{copies_of, restarts_of}
use Rattle.kob_delivery.proofs.Lists.{all_both, first_is, place_cases, same_here}
use Rattle.kob_delivery.proofs.Logged.{idem_of, is_fresh, kept_marked}
use Rattle.kob_delivery.proofs.Reaching.{target_tells}
use Rattle.kob_delivery.proofs.Repeats.{Few, copies, copies_none, few_after_batch, few_as, few_marked, few_recorded, few_restarted}
use Rattle.kob_delivery.proofs.RouterKept.{TellsIds, held_by_move, here, holding, kept_first}
use Rattle.kob_delivery.proofs.RouterRun.{IsAsked, KeptIn, NotDone, batch_in_hand, heard_no_done, heard_none, is_holding, kept_move, others, served, unanswered, unmarked}
use Rattle.kob_delivery.proofs.OtherSteps.{leaves}
use Rattle.kob_delivery.proofs.Rows.{call_of, its_calls, recorded}
use Rattle.kob_delivery.proofs.ServedRuns.{Hears, IsRun, IsServedBy, IsUnheard, StepsAs, history_passes, kept_by_run}

abbrev pub one_restart : Move → ℕ
one_restart Restarted = 1
one_restart _ = 0

module _ (route : Dispatching) (q : Place) where
  abbrev FewIn : State → View → ℕ → Type 0
  FewIn s v restarts = Few q s (v.log q) restarts

  -- ---- calls

  -- a call without effect
  few_unanswered : (s : State) (v w : View) (restarts : ℕ) (request : Request) (heard : Option Reply) (marks : Bool)
      → MayCall route s request heard marks → NotDone heard → w.log q ≡ v.log q → FewIn s v restarts
      → FewIn (after s (Called (record { request = request; heard = heard }) marks)) w restarts
  few_unanswered s v w restarts request heard marks may n same f =
      rw (unmarked route s request heard marks may n, unanswered s.producer request heard n, same) f

  -- a producer id is asked for where there is none, so that no batch is of the present one
  few_introduced : (s : State) (v w : View) (restarts : ℕ) (heard : Option Reply) → s.producer ≡ None
      → w.log q ≡ v.log q → FewIn s v restarts
      → FewIn (after s (Called (record { request = InitProducerId; heard = heard }) false)) w restarts
  few_introduced s v w restarts heard none same f =
      rw same (few_as q refl (λ id o. let has = o.has_producer in absurd (let no = none in cc)) f)

  -- a PRODUCE that was accepted, before its acknowledgement
  few_accepted : (rows : List Event) (c : Contents) (p : Producer) (ss : List Sequence) (h : Hand) (v w : View)
      (x : Record) (j : Judgement) (restarts : ℕ) → KeptIn route q rows (holding c p ss h) v
      → route h.event ≡ Some (record { place = h.place; message = x })
      → judge (history p.id (v.log h.place)) (idem_of p (sequence_of ss h.place)) 1 ≡ j
      → Accepts j v h.place (batch_in_hand p ss h x) w → FewIn (holding c p ss h) v restarts
      → FewIn (holding c p ss h) w restarts
  few_accepted rows c p ss h v w x Next restarts k to judged a f =
      rw (a.log q)
      (elim (place_cases h.place q) [
        | inl e ↦
            let longer : (with_batch v h.place (batch_in_hand p ss h x)).log h.place
            ≡ v.log h.place ++ batch_in_hand p ss h x ∷ [] =
            rw (same_here h.place) refl in
            rw (← e, longer)
            (few_after_batch route rows c p ss h (v.log h.place) v.given x restarts (rw (← e) at k) to judged
            (rw (← e) at f))
        | inr apart ↦
            let same : (with_batch v h.place (batch_in_hand p ss h x)).log q ≡ v.log q = rw apart refl in rw same f
      ])
  few_accepted rows c p ss h v w x (Repeat offset) restarts k to judged a f = rw (a.log q) f
  few_accepted rows c p ss h v w x _ restarts k to judged a f = absurd a

  -- the acknowledgement of what is in hand
  few_acknowledged : (rows : List Event) (c : Contents) (p : Producer) (ss : List Sequence) (h : Hand) (v w : View)
      (call : Call) (restarts : ℕ) → KeptIn route q rows (holding c p ss h) v → FewIn (holding c p ss h) w restarts
      → FewIn (after (holding c p ss h) (Called call true)) w restarts
  few_acknowledged rows c p ss h v w call restarts k f =
      let front = first_is (here k.ahead ++ k.rest) h.event k.held.holds.0 in
      let kept = rw front.1 at k.held.kept in
      few_marked q {s = holding c p ss h} {t = after (holding c p ss h) (Called call true)} _ _ h front.0 refl kept.waits
      (kept_marked kept).waits kept.order f

  few_produced : (rows : List Event) (s : State) (v w : View) (restarts : ℕ) (asked : ProduceRequest) (body : Body)
      (heard : Option Reply) (marks : Bool)
      → KeptIn route q rows s v → IsSending route s asked → Step v (Produce asked) (Done body) w
      → FewIn s v restarts
      → FewIn (after s (Called (record { request = Produce asked; heard = heard }) marks)) w restarts
  few_produced rows s v w restarts asked body heard marks k i d f =
      subst (λ (y : State). FewIn (after y (Called (record { request = Produce asked; heard = heard }) marks)) w
      restarts) (sym same) (marked_or_not marks)
    where
      same : s ≡ holding s.outbox i.producer s.sequences i.hand
      same = is_holding s i.producer i.hand i.has_producer i.has_hand

      kept : KeptIn route q rows (holding s.outbox i.producer s.sequences i.hand) v
      kept = subst (λ (y : State). KeptIn route q rows y v) same k

      done : FewIn (holding s.outbox i.producer s.sequences i.hand) w restarts
      done =
          few_accepted rows s.outbox i.producer s.sequences i.hand v w i.message _ restarts kept i.routed refl
          (rw (i.same_topic, i.same_partition, i.same_batch) at d.1)
          (subst (λ (y : State). FewIn y v restarts) same f)

      marked_or_not : (m : Bool) → FewIn (after (holding s.outbox i.producer s.sequences i.hand)
          (Called (record { request = Produce asked; heard = heard }) m)) w restarts
      marked_or_not true =
          few_acknowledged rows s.outbox i.producer s.sequences i.hand v w
          (record { request = Produce asked; heard = heard }) restarts kept done
      marked_or_not false = done

  few_after_served : (rows : List Event) (s : State) (v w : View) (restarts : ℕ) (request : Request) (reply : Reply)
      (heard : Option Reply) (marks : Bool)
      → MayCall route s request heard marks → Hears heard reply → Step v request reply w → KeptIn route q rows s v
      → FewIn s v restarts
      → FewIn (after s (Called (record { request = request; heard = heard }) marks)) w restarts
  few_after_served rows s v w restarts request (Denied code verdicts) heard marks may hears step k f =
      few_unanswered s v w restarts request heard marks may (heard_no_done heard (Denied code verdicts) tt hears)
      (step.log q) f
  few_after_served rows s v w restarts request (Refused code reason) heard marks may hears step k f =
      few_unanswered s v w restarts request heard marks may (heard_no_done heard (Refused code reason) tt hears)
      (step.log q) f
  few_after_served rows s v w restarts InitProducerId (Done body) heard true may hears step k f =
      absurd (true≢false may.1)
  few_after_served rows s v w restarts InitProducerId (Done body) heard false may hears step k f =
      few_introduced s v w restarts heard may.0 (step.then_given.log q) f
  few_after_served rows s v w restarts (Produce asked) (Done body) heard marks may hears step k f =
      few_produced rows s v w restarts asked body heard marks k may.0 step f
  few_after_served rows s v w restarts _ (Done body) heard marks may hears step k f = absurd may

  -- ---- moves that no entry served

  few_after_move : (m : Move) (rows : List Event) (s : State) (v : View) (restarts : ℕ) → May route s m
      → IsUnheard (call_of m) → KeptIn route q rows s v → FewIn s v restarts
      → FewIn (after s m) v (restarts + one_restart m)
  few_after_move (Recorded change event) rows s v restarts may u k f =
      let none : restarts + 0 ≡ restarts = omega arith in
      let row : Event = stored_event (next_seq s.outbox) event in
      let more = (held_by_move s (Recorded change event) may tt k.held).kept.waits in
      let fresh = is_fresh s.outbox change event may in
      let unseen = rw k.held.kept.ids at fresh in
      rw none
      (few_recorded q {s = s} {t = after s (Recorded change event)} row
      (more ∙ ap (λ (ys : List Event). ys ++ row ∷ []) (sym k.held.kept.waits))
      (copies_none route q rows row.id (records_of (v.log q)) k.tells unseen k.logged.each) (λ id o. o) f)
  few_after_move Swept rows s v restarts may u k f =
      let none : restarts + 0 ≡ restarts = omega arith in
      let more = (held_by_move s Swept may tt k.held).kept.waits in
      rw none
      (few_as q {s = s} {t = after s Swept}
      (more ∙ append-nil (here k.ahead ++ k.rest) ∙ sym k.held.kept.waits) (λ id o. o) f)
  few_after_move Restarted rows s v restarts may u k f = few_restarted q {s = s} {t = after s Restarted} f
  few_after_move (Took hand) rows s v restarts may u k f =
      let none : restarts + 0 ≡ restarts = omega arith in
      rw none
      (few_as q {s = s} {t = after s (Took hand)} refl
      (λ id o. let has = o.has_hand in let no = may.0 in absurd (cc)) f)
  few_after_move (Called c marks) rows s v restarts may u k f =
      let none : restarts + 0 ≡ restarts = omega arith in
      rw none (few_unanswered s v v restarts c.request c.heard marks may (heard_none c.heard u) refl f)

-- ---- along the journal

-- a state, and how often the router was started again before
pub record Counted : Type 0 where
  pub state : State
  pub restarts : ℕ

abbrev counted : State → ℕ → Counted
counted s n = record { state = s; restarts = n }

abbrev after_counted : Counted → Move → Counted
after_counted c m = counted (after c.state m) (c.restarts + one_restart m)

restarts_more : (m : Move) (moves : List Move) → restarts_of (m ∷ moves) ≡ one_restart m + restarts_of moves
restarts_more Restarted moves = omega arith
restarts_more (_) moves = omega arith

run_counted : (route : Dispatching) (moves : List Move) (s t : State) (n : ℕ) → IsRouterRun route s moves t
    → IsRun (λ (c : Counted) (m : Move). May route c.state m) after_counted (counted s n) moves
    (counted t (n + restarts_of moves))
run_counted route [] s t n run =
    let none : n + 0 ≡ n = omega arith in ap (λ (x : State). counted x (n + 0)) run ∙ ap (counted s) none
run_counted route (m ∷ moves) s t n run =
    let more = restarts_more m moves in
    let same : n + one_restart m + restarts_of moves ≡ n + restarts_of (m ∷ moves) = omega (arith, more) in (
      run.0,
      subst (λ (k : ℕ). IsRun (λ (c : Counted) (x : Move). May route c.state x) after_counted
          (counted (after s m) (n + one_restart m)) moves (counted t k)) same
          (run_counted route moves (after s m) t (n + one_restart m) run.1),
    )

module _ (route : Dispatching) (q : Place) (tells : TellsIds route) (worker : ℕ) (end : View) where
  abbrev Asked : Entry → Type 0
  Asked e = IsAsked route q tells worker end e

  abbrev KeptFew : List Event → Counted → View → Type 0
  KeptFew rows c v = KeptIn route q rows c.state v × Few q c.state (v.log q) c.restarts

  abbrev adds : Counted → Move → List Event
  adds c m = recorded c.state m

  few_moved : (m : Move) (rows : List Event) (c : Counted) (v : View) → May route c.state m → IsUnheard (call_of m)
      → KeptFew rows c v → KeptFew (rows ++ adds c m) (after_counted c m) v
  few_moved m rows c v may u (k, f) = (
    kept_move route q tells worker end m rows c.state v may u k,
    few_after_move route q m rows c.state v c.restarts may u k f,
  )

  few_served : (m : Move) (rows : List Event) (c : Counted) (e : Entry) (v w : View) → May route c.state m
      → IsServedBy e (call_of m) → e.worker ≡ worker → StepsAs Asked v e w → KeptFew rows c v
      → KeptFew (rows ++ adds c m) (after_counted c m) w
  few_served (Called call marks) rows c e v w may by own goes (k, f) =
      let none : c.restarts + 0 ≡ c.restarts = omega arith in
      let step = rw by.0 at goes.1 in
      let few = few_after_served route q rows c.state v w c.restarts call.request e.reply call.heard marks may by.1 step k
      f in
      rw (append-nil rows, none) (served route q tells worker end call marks rows c.state e v w may by own goes k, few)
  few_served _ rows c e v w may by own goes k = absurd by

  few_others : (rows : List Event) (c : Counted) (e : Entry) (v w : View) → (e.worker ≡ worker → ⊥)
      → StepsAs Asked v e w → KeptFew rows c v → KeptFew rows c w
  few_others rows c e v w other goes (k, f) =
      let l = leaves [] q v w e.event.request e.reply goes.0.1 goes.1 in
      let same : w.log q ≡ v.log q =
      l.log ∙ ap (λ bs. v.log q ++ bs) (l.grows (λ is. other (goes.0.0 is))) ∙ append-nil (v.log q) in
      (others route q tells worker end rows c.state e v w other goes k, rw same f)

  few_first : KeptFew [] (counted start 0) opening_view
  few_first = (
    kept_first route q,
    record { few = λ id. omega arith; again = λ id there. absurd (true≢false (sym there)) },
  )

  pub is_appended_once_a_start : (journal : List Entry) (moves : List Move) (final : State) (id : List ℕ)
      → IsHistory opening_view journal end → IsRouterRun route start moves final
      → AreServed (calls_of moves) (served_to worker journal) → IsSoleProducer worker q.topic journal
      → IsNeverDeleted q.topic journal
      → copies_of id (records_of (end.log q)) ≤ 1 + restarts_of moves
  is_appended_once_a_start journal moves final id history run a sole never =
      let each = all_both (IsOwnProduce worker q.topic) (IsNoDeletion q.topic) journal sole never in
      let p = history_passes Asked opening_view end journal history each in
      let kept =
      kept_by_run (λ (c : Counted) (m : Move). May route c.state m) after_counted call_of adds worker (StepsAs Asked)
      KeptFew few_moved few_served few_others (counted final (0 + restarts_of moves)) p.0 moves (counted start 0)
      journal opening_view (run_counted route moves start final 0 run) (rw (← (its_calls moves)) a) p.1 few_first in
      let l : copies id (p.0.log q) ≤ 0 + restarts_of moves + 1 = kept.1.few id in
      rw (p.2.log q) (omega (arith, l))

pub appended_once_a_start : (target : Target) (worker : ℕ) (journal : List Entry) (view : View) (moves : List Move)
    (now : State) (place : Place) (id : List ℕ)
    → IsHistory opening_view journal view → IsServicePart target worker journal moves now
    → IsSoleProducer worker place.topic journal → IsNeverDeleted place.topic journal
    → copies_of id (records_of (view.log place)) ≤ 1 + restarts_of moves
appended_once_a_start target worker journal view moves now place id history part =
    is_appended_once_a_start (dispatch_of target) place (target_tells target) worker view journal moves now id history
    part.run part.served
