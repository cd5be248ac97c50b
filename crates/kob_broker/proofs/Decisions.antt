-- The first reason among lists of reasons.
use Rattle.kob_broker.proofs.Words.{Bool, List, None, Reason, Some, [], arith, false, first_reason, nat_tests, refl, suc, zero, ℕ, ◌++◌, ◌∷◌, ◌≡◌, BatchOutcome, Broker, Event, IfOk, Makes, MakesFor, Option, Prepared, Produce, Refused, Request, Result, Unchanged, code_of, effect, metadata_request, prepared_for, refusal, retained_meaning, state_of, subst, sym}
use Rattle.kob_rights.specs.declared.request.Request.TheVariants as requests
use Rattle.std.specs.declared.alloc.AllocError.{AllocError}
use Rattle.std.specs.Prelude.{Err, Ok, OnErr, OnOk, ◌≢◌}
use Rattle.kob_authorizer.proofs.Creating.{fault_by_count}
use Rattle.kob_authorizer.specs.declared.fault.CreateFault.TheVariants.{SerialsSpent}
use Rattle.kob_broker.specs.State.{create_fault}
use Rattle.kob_broker.specs.Step.{NeedsMemory, event_left, event_left_by, request_left, step}
use Rattle.kob_broker.specs.Denial.{Done, describes_topic}
use Rattle.kob_catalog.specs.Topics.{listed_where}
use Rattle.kob_broker.specs.declared.batch_outcome.BatchOutcome.TheVariants.{Appended}
use Rattle.kob_broker.specs.declared.prepared.Change.TheVariants.{Append}
use Rattle.kob_rights.specs.declared.reply.Body.TheVariants.{Offset, Topics}
use Rattle.kob_broker.proofs.Words.{Binding, Reply, Retained, State, ap, denial_of, ◌∙◌}

pub first_some : (xs ys : List (Bool × Reason)) (reason : Reason) → first_reason xs ≡ Some reason
    → first_reason (xs ++ ys) ≡ Some reason
first_some [] ys reason h = grind arith
first_some (x ∷ xs) ys reason h = grind (arith, nat_tests, first_some xs ys reason)

pub first_none : (xs ys : List (Bool × Reason)) → first_reason xs ≡ None → first_reason (xs ++ ys) ≡ first_reason ys
first_none [] ys h = refl
first_none (x ∷ xs) ys h = grind (arith, nat_tests, first_none xs ys)

pub none_before : (xs ys : List (Bool × Reason)) → first_reason (xs ++ ys) ≡ None → first_reason xs ≡ None
none_before [] ys none = refl
none_before (x ∷ xs) ys none = grind (arith, nat_tests, none_before xs ys)

pub none_after : (xs ys : List (Bool × Reason)) → first_reason (xs ++ ys) ≡ None → first_reason ys ≡ None
none_after [] ys none = none
none_after (x ∷ xs) ys none = grind (arith, nat_tests, none_after xs ys)

pub none_here : (holds : Bool) (reason : Reason) (rest : List (Bool × Reason))
    → first_reason ((holds, reason) ∷ rest) ≡ None → holds ≡ false
none_here holds reason rest none = grind (arith, nat_tests)

-- the test at a place of the list
abbrev pub test_at : ℕ → List (Bool × Reason) → Bool
test_at n [] = false
test_at zero (x ∷ xs) = x.0
test_at (suc n) (x ∷ xs) = test_at n xs

pub test_fails : (n : ℕ) (xs : List (Bool × Reason)) → first_reason xs ≡ None → test_at n xs ≡ false
test_fails n [] none = refl
test_fails zero (x ∷ xs) none = grind (arith, nat_tests)
test_fails (suc n) (x ∷ xs) none = grind (arith, nat_tests, test_fails n xs)

-- Decisions that make an outcome.

-- a refusal for the first reason that holds
pub refused_makes : (broker : Broker) (request : Request) (prepared : Prepared) (reason : Reason)
    → refusal retained_meaning (state_of broker) request ≡ Some reason
    → prepared.reply ≡ Refused (code_of reason) reason → prepared.change ≡ Unchanged → MakesFor request broker prepared
refused_makes broker request prepared reason why reply change event = grind (arith, nat_tests)

-- what is prepared for a batch that is appended
pub appended_makes : (broker : Broker) (produce : Produce) (outcome : BatchOutcome) (offset : ℕ) (prepared : Prepared)
    → outcome ≡ Appended offset → prepared.reply ≡ Done (Offset offset) → prepared.change ≡ Append produce
    → MakesFor (requests.Produce produce) broker (prepared_for produce outcome)
    → MakesFor (requests.Produce produce) broker prepared
appended_makes broker produce outcome offset prepared is reply change makes =
    subst (MakesFor (requests.Produce produce) broker)
    (ap (prepared_for produce) is ∙ (λ i. record { reply = sym reply i; change = sym change i })) makes

-- what makes the effect of a request for whoever asks makes it for the event that has it
pub made_for_ok : {E : Type 0} (broker : Broker) (request : Request) (event : Event) (result : Result Prepared E)
    → event.request ≡ request → IfOk result (MakesFor request broker)
    → IfOk result (Makes (effect retained_meaning (state_of broker) event event.request) broker)
made_for_ok broker request event result is makes = grind (arith, nat_tests)

-- a METADATA of all topics tells those that the principal may describe
pub topics_told : (s : State Retained) (event : Event) → event.request ≡ metadata_request None
    → step retained_meaning s event
    ≡ record { reply = Done (Topics (listed_where (describes_topic s.access event) s.topics)); state = s }
topics_told s event is = grind (arith, nat_tests)

-- what a request may need memory for, the event that has it may
pub needed_for : {T : Type 0} (s : State Retained) (request : Request) (event : Event) (result : Result T AllocError)
    → event.request ≡ request → OnErr result (NeedsMemory retained_meaning s request)
    → OnErr result (NeedsMemory retained_meaning s event.request)
needed_for s request event result is needs =
    subst (λ r. OnErr result (NeedsMemory retained_meaning s r)) (sym is) needs

-- what is left of the request is left of the event that has it
pub left_for : {T E : Type 0} (s : State Retained) (request left : Request) (event : Event) (result : Result T E)
    → event.request ≡ request → OnOk result (left ≡ request_left retained_meaning s request)
    → OnOk result (left ≡ request_left retained_meaning s event.request)
left_for s request left event result is leaves =
    subst (λ r. OnOk result (left ≡ request_left retained_meaning s r)) (sym is) leaves

-- a denied event stays
pub left_denied : (s : State Retained) (event : Event) (denial : Reply) → denial_of s.access event ≡ Some denial
    → event ≡ event_left retained_meaning s event
left_denied s event denial is = sym (ap (λ d. event_left_by retained_meaning d s event) is)

-- of another, what is left of its request
pub left_granted : {T E : Type 0} (s : State Retained) (old new : Event) (result : Result T E)
    → denial_of s.access old ≡ None → new.principal ≡ old.principal → new.host ≡ old.host
    → OnOk result (new.request ≡ request_left retained_meaning s old.request)
    → OnOk result (new ≡ event_left retained_meaning s old)
left_granted s old new (Err error) granted who host left = tt
left_granted s old new (Ok value) granted who host left =
    (λ i. record { principal = who i; host = host i; request = left i })
    ∙ sym (ap (λ d. event_left_by retained_meaning d s old) granted)

-- where no binding is in force, there are serials for as many as may be
pub serials_left : (entries : List (ℕ × Binding)) (next : ℕ) (bindings : List Binding) → entries ≡ [] → next ≡ 1
    → create_fault entries next bindings ≢ Some SerialsSpent
serials_left entries next bindings none first spent = grind (arith, nat_tests, fault_by_count entries next bindings)
