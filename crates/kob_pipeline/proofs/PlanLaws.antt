-- The laws of delivery, of a pipeline's plan and what it leaves.
use Rattle.kob_pipeline.proofs.Words.{Administering, AllZip, ArePrivate, ConsumerPlan, Consuming, Dispatching, Entry, Event, HasDone, HasEnded, HasLeft, Inbox, InboxEnd, Intake, IsConsumerPart, IsConsumption, IsDelivered, IsHistory, IsKept, IsNeverDeleted, IsNoneLost, IsPipeline, IsServicePart, IsServiceRun, IsSoleCommitter, IsSoleProducer, IsWaitingOrSent, List, Noted, Outbox, OutboxEnd, PipelineEnd, Place, Plan, Planned, ReachesInOrder, Receipt, Served, Service, Serving, Some, TakesInOrder, WorkerEnd, [], ap, arith, claims, consumer_number, consumer_place, dispatch_of, empty, enumerate_from, events_in, get_or-map, get_or_from_slice_get, inbox_in, inl, inr, length, length-map, map, map-map, mine_from, nat_tests, notes_in, opening_view, option_map, outbox_in, placed_intake, planned_workers, records_at, refl, rows_of_service, run_takes_in, served_by_notes, served_in, served_to, service_number, slice_get, slice_get-append_right, slice_get-map, slice_get_within, slice_index_or, state_of, subst, suc, sym, told_in, view_after, zero, ℕ, ◌++◌, ◌+◌, ◌<◌, ◌∙◌, ◌∷◌, ◌≡◌}
use Rattle.kob_rights.specs.declared.event.Event.{Event as Asked}
use Rattle.kob_shared.specs.declared.work.Done.{Done}
use Rattle.kob_delivery.proofs.BrokerSteps.{legal_is_history}
use Rattle.kob_delivery.proofs.Laws.{holds_a_prefix, partition_holds, takes_in_order, waits_or_sent}
use Rattle.kob_delivery.proofs.Lists.{all_weaker, get_front}
use Rattle.kob_pipeline.proofs.PlanRows.{rows_of_steps}
use Rattle.kob_router.specs.Run as router
use Rattle.kob_inbox.specs.Run as consumers
use Rattle.kob_outbox.specs.Contents as outboxes

-- what was served, of entries with their places
abbrev served_of : List (ℕ × Entry) → List Served
served_of entries = map (λ (x : ℕ × Entry). served_in x.1) entries

of_journal : (worker place : ℕ) (journal : List Entry) → served_of (mine_from place worker journal)
    ≡ served_to worker journal
of_journal worker place [] = refl
of_journal worker place (e ∷ journal) = grind (arith, nat_tests, of_journal worker (place + 1) journal)

of_claims : (worker : ℕ) (events : List Asked) (told : List Receipt) → served_of (claims worker events told)
    ≡ served_by_notes events told
of_claims worker [] told = refl
of_claims worker (e ∷ events) [] = refl
of_claims worker (e ∷ events) (r ∷ told) = cc (of_claims worker events told)

read_notes : {X : Type 0} (f : Noted → List X) (notes : List Noted) (worker : ℕ) (noted : Noted)
    → slice_get notes worker ≡ Some noted
    → slice_index_or (map f notes) worker [] ≡ f noted
read_notes f notes worker noted there = grind (arith, nat_tests, get_or-map f notes worker noted, slice_get_within notes worker noted there, get_or_from_slice_get notes worker noted noted there)

among : (notes : List Noted) (worker : ℕ) (noted : Noted) → slice_get notes worker ≡ Some noted
    → worker < length (events_in notes)
among notes worker noted there = grind (arith, nat_tests, length-map, slice_get_within)

-- by its notes a worker was served what the journal says
pub served_alike : (notes : List Noted) (journal : List Entry) (worker : ℕ) (noted : Noted)
    → IsKept (events_in notes) (told_in notes) journal → slice_get notes worker ≡ Some noted
    → served_by_notes noted.events noted.told ≡ served_to worker journal
served_alike notes journal worker noted kept there =
    sym (of_claims worker noted.events noted.told)
    ∙ ap (λ events. served_of (claims worker events noted.told))
    (sym (read_notes (λ (n : Noted). n.events) notes worker noted there))
    ∙ ap (λ told. served_of (claims worker (slice_index_or (events_in notes) worker []) told))
    (sym (read_notes (λ (n : Noted). n.told) notes worker noted there))
    ∙ ap served_of (sym (kept.mine worker (among notes worker noted there)))
    ∙ of_journal worker 0 journal

-- ---- what stands at a worker's place

-- what stands at a place of the second list, by what stands there in the first
zip_at : {A B : Type 0} (R : A → B → Type 0) (xs : List A) (ys : List B) (k : ℕ) (x : A) → AllZip R xs ys
    → slice_get xs k ≡ Some x → (y : B) × (slice_get ys k ≡ Some y) × R x y
zip_at R [] ys k x all there = cc
zip_at R (a ∷ xs) [] k x all there = absurd all
zip_at R (a ∷ xs) (b ∷ ys) zero x all there = let same : a ≡ x = cc in (b, refl, subst (λ z. R z b) same all.0)
zip_at R (a ∷ xs) (b ∷ ys) (suc k) x all there = zip_at R xs ys k x all.1 there

map_at : {A B : Type 0} (v : A → B) (xs : List A) (k : ℕ) (x : A) → slice_get xs k ≡ Some x
    → slice_get (map v xs) k ≡ Some (v x)
map_at v xs k x there = slice_get-map v xs k ∙ ap (option_map v) there

-- what waits waits where the outbox has the same mark and the same events
waits_alike : (route : Dispatching) (worker : ℕ) (journal : List Entry) (one two : outboxes.Contents)
    → one.mark ≡ two.mark → one.events ≡ two.events → (row : Event) → IsWaitingOrSent route worker journal one row
    → IsWaitingOrSent route worker journal two row
waits_alike route worker journal one two mark events row (inl waits) =
    inl (record { past = rw mark at waits.past; there = rw events at waits.there })
waits_alike route worker journal one two mark events row (inr sent) = inr sent

-- ---- the laws of delivery, of a pipeline's plan and what it leaves

without_places : (n : ℕ) (inbox : List Intake) → map (λ (x : ℕ × Intake). x.1) (enumerate_from n inbox) ≡ inbox
without_places n [] = refl
without_places n (i ∷ inbox) = ap (λ rest. i ∷ rest) (without_places (n + 1) inbox)

-- the inbox that is left is what the run leaves
its_inbox : (consumer : ConsumerPlan) (noted : Noted) (left : InboxEnd) (run : IsConsumption consumer noted left)
    → inbox_in left ≡ run.work.state.inbox
its_inbox consumer noted left run = cc (map-map (λ (x : ℕ × Intake). x.1) placed_intake left.rows.items, without_places 1 run.work.state.inbox)

module _ (plan : Plan) (end : PipelineEnd) (of : IsPipeline plan end) where
  history : IsHistory opening_view end.journal (view_after plan.settings end.journal)
  history = legal_is_history plan.settings end.journal (state_of end.broker) of.legal

  -- what a worker of a kind noted and left, and what the journal says that it was served
  record Ended {A B : Type 0} (ends : B → WorkerEnd) (Run : A → Noted → B → Type 0) (place : ℕ) (worker : A) : Type 0
    where
      noted : Noted
      left : B
      done : HasDone end place noted (ends left)
      run : Run worker noted left
      served : served_by_notes noted.events noted.told ≡ served_to (place + 1) end.journal

  ended_at : {A B : Type 0} {ends : B → WorkerEnd} {Run : A → Noted → B → Type 0} (planned : A → Planned)
      → ((worker : A) (noted : Noted) (left : WorkerEnd) → HasEnded (planned worker) noted left
      → (l : B) × (left ≡ ends l) × Run worker noted l)
      → (place : ℕ) (worker : A) → slice_get (planned_workers plan) place ≡ Some (planned worker)
      → Ended ends Run place worker
  ended_at planned how place worker there =
      let (d, at, is) =
      zip_at (λ w d. HasEnded w d.notes d.end) (planned_workers plan) end.done.items place (planned worker) of.done there
      in
      let (left, same, run) = how worker d.notes d.end is in
      let next : place + 1 ≡ suc place = omega arith in
      record {
        noted = d.notes;
        left = left;
        done = at ∙ ap (λ (e : WorkerEnd). Some (record { notes = d.notes; end = e })) same;
        run = run;
        served =
            served_alike (notes_in end) end.journal (place + 1) d.notes of.kept
            (ap (slice_get (notes_in end)) next
            ∙ map_at (λ (x : Done WorkerEnd). x.notes) end.done.items place d at);
      }

  abbrev Serves : ℕ → Service → Type 0
  Serves = Ended Outbox IsServiceRun

  serves : (k : ℕ) (service : Service) → slice_get plan.services.items k ≡ Some service → Serves k service
  serves k service there =
      ended_at Serving how k service
      (get_front (map Serving plan.services.items)
      (map Consuming plan.consumers.items ++ map Administering plan.administrators.items) k (Serving service)
      (map_at Serving plan.services.items k service there))
    where
      how : (service : Service) (noted : Noted) (left : WorkerEnd) → HasEnded (Serving service) noted left
          → (l : OutboxEnd) × (left ≡ Outbox l) × IsServiceRun service noted l
      how service noted (Outbox l) run = (l, refl, run)
      how service noted _ run = absurd run

  abbrev Consumes : ℕ → ConsumerPlan → Type 0
  Consumes k = Ended Inbox IsConsumption (consumer_place plan k)

  consumes : (k : ℕ) (consumer : ConsumerPlan) → slice_get plan.consumers.items k ≡ Some consumer
      → Consumes k consumer
  consumes k consumer there =
      let front = map Serving plan.services.items in
      let own = map Consuming plan.consumers.items in
      let rest = map Administering plan.administrators.items in
      ended_at Consuming how (consumer_place plan k) consumer
      (slice_get-append_right front (own ++ rest) (consumer_place plan k) k
      (omega (arith, length-map plan.services.items Serving))
      ∙ get_front own rest k (Consuming consumer) (map_at Consuming plan.consumers.items k consumer there))
    where
      how : (consumer : ConsumerPlan) (noted : Noted) (left : WorkerEnd) → HasEnded (Consuming consumer) noted left
          → (l : InboxEnd) × (left ≡ Inbox l) × IsConsumption consumer noted l
      how consumer noted (Inbox l) run = (l, refl, run)
      how consumer noted _ run = absurd run

  its_rows : (k : ℕ) (service : Service) (by : Serves k service)
      → router.events_of outboxes.empty by.run.work.moves ≡ rows_of_service service
  its_rows k service by =
      rows_of_steps (dispatch_of service.target) router.start by.run.work.state service.steps.items by.run.work.moves _
      by.run.work.steps

  service_part : (k : ℕ) (service : Service) (by : Serves k service)
      → IsServicePart service.target (service_number plan k) end.journal by.run.work.moves by.run.work.state
  service_part k service by = record { run = by.run.run; served = rw (← by.served) by.run.served }

  consumer_part : (k : ℕ) (consumer : ConsumerPlan) (by : Consumes k consumer)
      → IsConsumerPart consumer.subscription (consumer_number plan k) end.journal by.run.work.moves by.run.work.state
  consumer_part k consumer by = record { run = by.run.run; served = rw (← by.served) by.run.served }

  pub its_partitions : (k : ℕ) (service : Service) (place : Place) → slice_get plan.services.items k ≡ Some service
      → IsSoleProducer (service_number plan k) place.topic end.journal → IsNeverDeleted place.topic end.journal
      → IsDelivered (dispatch_of service.target) place (rows_of_service service) (records_at plan end place)
  its_partitions k service place there sole never =
      let by : Serves k service = serves k service there in
      rw (← its_rows k service by)
      (partition_holds service.target (service_number plan k) end.journal (view_after plan.settings end.journal)
      by.run.work.moves by.run.work.state place history (service_part k service by) sole never)

  pub is_none_lost : IsNoneLost plan end
  is_none_lost k service left there kept =
      let by : Serves k service = serves k service there in
      let outbox = by.run.work.state.outbox in
      let ends : Some (Outbox by.left) ≡ Some (Outbox left) =
      sym (ap (option_map (λ (d : Done WorkerEnd). d.end)) by.done) ∙ kept in
      let same : by.left ≡ left = cc in
      let mark : outbox.mark ≡ left.mark = sym by.run.mark ∙ ap (λ (l : OutboxEnd). l.mark) same in
      let events : outbox.events ≡ (outbox_in left).events =
      sym by.run.rows ∙ ap (λ (l : OutboxEnd). (outbox_in l).events) same in
      rw (its_rows k service by) at
      (all_weaker (IsWaitingOrSent (dispatch_of service.target) (service_number plan k) end.journal outbox)
      (IsWaitingOrSent (dispatch_of service.target) (service_number plan k) end.journal (outbox_in left))
      (waits_alike (dispatch_of service.target) (service_number plan k) end.journal outbox (outbox_in left) mark events)
      (router.events_of outboxes.empty by.run.work.moves)
      (waits_or_sent service.target (service_number plan k) end.journal by.run.work.moves by.run.work.state
      (service_part k service by)))

  pub takes_its_records : (k : ℕ) (consumer : ConsumerPlan) (place : Place) → slice_get plan.consumers.items k
      ≡ Some consumer
      → IsSoleCommitter (consumer_number plan k) consumer.subscription.group place.topic end.journal
      → IsNeverDeleted place.topic end.journal
      → TakesInOrder plan end k consumer place
  takes_its_records k consumer place there sole never =
      let by : Consumes k consumer = consumes k consumer there in
      record {
        noted = by.noted;
        left = by.left;
        done = by.done;
        run = by.run;
        order =
            takes_in_order consumer.subscription (consumer_number plan k) end.journal
            (view_after plan.settings end.journal) by.run.work.moves by.run.work.state place history
            (consumer_part k consumer by) sole never;
        inbox =
            its_inbox consumer by.noted by.left by.run
            ∙ run_takes_in consumer.subscription by.run.work.moves consumers.start by.run.work.state by.run.run;
      }

  pub reaches_its_inbox : (i k : ℕ) (service : Service) (consumer : ConsumerPlan) (left : InboxEnd)
      → slice_get plan.services.items i ≡ Some service → slice_get plan.consumers.items k ≡ Some consumer
      → HasLeft end (consumer_place plan k) (Inbox left)
      → ArePrivate (service_number plan i) (consumer_number plan k) consumer.subscription.group
      consumer.subscription.assignment end.journal
      → (kind id : List ℕ) → ReachesInOrder (rows_of_service service) (inbox_in left) kind id
  reaches_its_inbox i k service consumer left sends takes kept private kind id =
      let sent : Serves i service = serves i service sends in
      let took : Consumes k consumer = consumes k consumer takes in
      let ends : Some (Inbox took.left) ≡ Some (Inbox left) =
      sym (ap (option_map (λ (d : Done WorkerEnd). d.end)) took.done) ∙ kept in
      let same : took.left ≡ left = cc in
      subst (λ (rows : List Event). ReachesInOrder rows (inbox_in left) kind id) (its_rows i service sent)
      (subst (λ (inbox : List Intake). ReachesInOrder (router.events_of outboxes.empty sent.run.work.moves) inbox kind
      id) (sym (its_inbox consumer took.noted took.left took.run) ∙ ap inbox_in same)
      (holds_a_prefix service.target consumer.subscription (service_number plan i) (consumer_number plan k) end.journal
      (view_after plan.settings end.journal) sent.run.work.moves sent.run.work.state took.run.work.moves
      took.run.work.state kind id history (service_part i service sent) (consumer_part k consumer took) private))
