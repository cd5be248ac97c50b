-- A run that goes on by one event.
use Rattle.kob_broker.proofs.Words.{Event, List, Meaning, Reply, Some, State, [], ap, arith, get_or, length, nat_tests, refl, replies_of, slice_get, state_after, step, suc, take, take_more, zero, ℕ, ◌++◌, ◌+◌, ◌<◌, ◌∷◌, ◌≡◌, All, All-nil, Check, Denied, Done, LeavesUnlessDone, None, Option, Outcome, Reason, Refused, Write, after, after_write, body, code_of, denial_naming, effect_by, first_unmet, named, refusal, rights, write_of}

module _ {P : Type 0} (m : Meaning P) where
  pub replies_of_append : (xs ys : List Event) (s : State P)
      → replies_of m (xs ++ ys) s ≡ replies_of m xs s ++ replies_of m ys (state_after m xs s)
  replies_of_append [] ys s = refl
  replies_of_append (x ∷ xs) ys s = ap (λ rs. (step m s x).reply ∷ rs) (replies_of_append xs ys (step m s x).state)

  pub state_after_append : (xs ys : List Event) (s : State P)
      → state_after m (xs ++ ys) s ≡ state_after m ys (state_after m xs s)
  state_after_append [] ys s = refl
  state_after_append (x ∷ xs) ys s = state_after_append xs ys (step m s x).state

  pub replies_one_more : (events : List Event) (i : ℕ) (event : Event) (s : State P) → i < length events
      → event ≡ get_or events i event
      → replies_of m (take (i + 1) events) s
      ≡ replies_of m (take i events) s ++ (step m (state_after m (take i events) s) event).reply ∷ []
  replies_one_more events i event s lt is =
      grind (
        arith,
        nat_tests,
        take_more events i event lt,
        replies_of_append (take i events) (get_or events i event ∷ []) s,
      )

  pub state_one_more : (events : List Event) (i : ℕ) (event : Event) (s : State P) → i < length events
      → event ≡ get_or events i event
      → state_after m (take (i + 1) events) s ≡ (step m (state_after m (take i events) s) event).state
  state_one_more events i event s lt is =
      grind (
        arith,
        nat_tests,
        take_more events i event lt,
        state_after_append (take i events) (get_or events i event ∷ []) s,
      )

  -- one event more, served where the run stands
  pub one_event_more : (events : List Event) (i : ℕ) (event : Event) (s now next : State P) (replies more : List Reply)
      (reply : Reply)
      → i < length events → event ≡ get_or events i event → replies ≡ replies_of m (take i events) s
      → now ≡ state_after m (take i events) s
      → reply ≡ (step m now event).reply → next ≡ (step m now event).state → more ≡ replies ++ reply ∷ []
      → (more ≡ replies_of m (take (i + 1) events) s) × (next ≡ state_after m (take (i + 1) events) s)
  one_event_more events i event s now next replies more reply lt is before stood told left put =
      grind (arith, nat_tests, replies_one_more, state_one_more)

  -- each reply of a run is that of one step from where the run stands then
  pub reply_at : (events : List Event) (s : State P) (k : ℕ) (event : Event) (reply : Reply)
      → slice_get events k ≡ Some event → slice_get (replies_of m events s) k ≡ Some reply
      → (step m (state_after m (take k events) s) event).reply ≡ reply
  reply_at [] s k event reply at told = cc
  reply_at (e ∷ events) s zero event reply at told = grind (arith, nat_tests)
  reply_at (e ∷ events) s (suc k) event reply at told =
      reply_at events (step m s e).state k event reply at told

-- One step by its cases, and what a run keeps.

module _ {P : Type 0} (m : Meaning P) (s : State P) (event : Event) where
  abbrev pub unmet : Option (ℕ × List Check)
  unmet = first_unmet s.access event 0 (rights event.request)

  -- what fits a denial, a refusal and what is done fits the step
  module _ (Fits : Outcome P → Type 0)
      (denied : (blamed : ℕ × List Check) → unmet ≡ Some blamed
      → Fits (record { reply = denial_naming s.access event blamed; state = s }))
      (refused : (reason : Reason) → unmet ≡ None → refusal m s event.request ≡ Some reason
      → Fits (record { reply = Refused (code_of reason) reason; state = s }))
      (done : unmet ≡ None → refusal m s event.request ≡ None → Fits (record {
        reply = Done (body m s (named s event.request) event event.request);
        state = after m s (named s event.request) event.request;
      })) where
    granted_fits : (against : Option Reason) → unmet ≡ None → refusal m s event.request ≡ against
        → Fits (effect_by m against s (named s event.request) event event.request)
    granted_fits against granted is = grind (arith, nat_tests)

    pub step_fits : Fits (step m s event)
    step_fits = grind (arith, nat_tests, granted_fits)

-- a fact of the events to come and the state that each step keeps, and what the replies then tell
module _ {P : Type 0} (m : Meaning P) (Holds : List Event → State P → Type 0) (Tells : Reply → Type 0)
    (step_keeps : (event : Event) (events : List Event) (s : State P) → Holds (event ∷ events) s
    → Tells (step m s event).reply × Holds events (step m s event).state) where
  pub replies_keep : (events : List Event) (s : State P) → Holds events s → All Tells (replies_of m events s)
  replies_keep [] s holds = All-nil Tells
  replies_keep (event ∷ events) s holds = grind (arith, nat_tests, replies_keep events)

  pub state_keeps : (events more : List Event) (s : State P) → Holds (events ++ more) s
      → Holds more (state_after m events s)
  state_keeps [] more s holds = holds
  state_keeps (event ∷ events) more s holds =
      state_keeps events more (step m s event).state (step_keeps event (events ++ more) s holds).1

module _ {P : Type 0} (m : Meaning P) (s : State P) (event : Event) where
  -- if a request is not done, the state stays as it was
  pub leaves_unless_done : LeavesUnlessDone m s event
  leaves_unless_done = record {
    denied = λ code verdicts.
        step_fits m s event (λ o. o.reply ≡ Denied code verdicts → o.state ≡ s) (λ blamed is told. refl)
        (λ reason granted is told. refl) (λ granted is told. cc);
    refused = λ code reason.
        step_fits m s event (λ o. o.reply ≡ Refused code reason → o.state ≡ s) (λ blamed is told. refl)
        (λ why granted is told. refl) (λ granted is told. cc);
  }

-- whether anything is open to everyone is never changed
module _ {P : Type 0} (m : Meaning P) (s : State P) where
  written_switch : (found : Option P) (write : Option Write)
      → (after_write m s found write).access.everyone ≡ s.access.everyone
  written_switch found write = grind (arith, nat_tests)

  pub step_switch : (event : Event) → (step m s event).state.access.everyone ≡ s.access.everyone
  step_switch event =
      grind (arith, nat_tests, step_fits m s event, written_switch (named s event.request) (write_of event.request))
