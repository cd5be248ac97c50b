-- One call of a connection, and what all its calls make of each server.
use Rattle.kob_connections.proofs.Words.{All-append, All-cons, All-nil, ArePassedOn, AreServed, Call, Delivered, Delivery, Event, Fits, GainsAtMost, IsEntryOf, IsHeardOf, IsJournaled, IsSent, IsServedIfHeard, IsServedInSession, Journals, KeepsSeat, List, Loss, Lost, MakesCalls, None, Option, PassesCallsOn, PassesOn, Record, Reply, Request, Retained, Seat, ServesAs, ServesEach, Settings, Some, [], added_append, after_event, ap, append-nil, arith, calls_are_made, entry, event_by, false, inl, inr, map, map-append, nat_tests, no_call_is_made, outcome_of, refl, reply_fits, reply_of, retained_meaning, Served, served_in, step, subst, sym, ℕ, ◌++◌, ◌∙◌, ◌∷◌, ◌≡◌, ◌⊎◌}
use Rattle.kob_broker.specs.State.{State}
use Rattle.kob_connections.specs.Servers.{ServesLossy, ServesRecorded}
use Rattle.kob_router.specs.declared.line.Loss.TheVariants as losses
use Rattle.kob_connections.specs.declared.recorded_line.RecordedServer.{RecordedServer}
use Rattle.kob_connections.specs.Calls.{IsHeardAs, MayAnswer, fault_after, fault_kept, reply_in}
use Rattle.kob_rights.specs.Requests.{OffsetsWithin}
use Rattle.kob_shared.specs.declared.faults.CallFault.{CallFault}
use Rattle.std.specs.Prelude.{Err, IfNone, IfSome, Ok, Result}

-- ---- of any server

module _ {S : Type 0} (serves : S → S → Request → Option Reply → Type 0) where
  -- what holds of no call, of each call and of calls after calls holds of all calls
  pub each_gives : (holds : S → S → List Call → Type 0)
      → ((s : S) → holds s s [])
      → ((a b : S) (c : Call) → ServesAs serves a b c.request c.heard → holds a b (c ∷ []))
      → ((a b c : S) (xs ys : List Call) → holds a b xs → holds b c ys → holds a c (xs ++ ys))
      → (old new : S) (cs : List Call) → ServesEach serves old new cs → holds old new cs
  each_gives holds stays one more old new [] same = subst (λ s. holds old s []) (sym same) (stays old)
  each_gives holds stays one more old new (c ∷ cs) (mid, first, rest) =
      more old mid new (c ∷ []) cs (one old mid c first) (each_gives holds stays one more mid new cs rest)

module _ {S : Type 0} (serves : S → S → Request → Option Reply → Type 0) (old new : S) (request : Request) where
  heard_as : (heard : Option Reply) (delivery : Delivery) → ServesAs serves old new request heard
      → IsHeardOf heard delivery → ServesAs serves old new request (reply_of delivery)
  heard_as heard (Delivered reply) served told = subst (λ h. ServesAs serves old new request h) told served
  heard_as heard Lost served told = (served.0, served.1, tt)

  -- a call that was noted is made
  pub one_call_is_made : (calls then_calls : List Call) (heard : Option Reply) (delivery : Delivery)
      → ServesAs serves old new request heard → IsHeardOf heard delivery
      → then_calls ≡ calls ++ record { request = request; heard = reply_of delivery } ∷ []
      → MakesCalls serves old new calls then_calls
  one_call_is_made calls then_calls heard delivery served told noted = record {
    made = record { request = request; heard = reply_of delivery } ∷ [];
    added = noted;
    served = (new, heard_as heard delivery served told, refl);
  }

  -- a call that the server refused is not made
  pub no_call_of_it : (calls then_calls : List Call) → then_calls ≡ calls → new ≡ old
      → MakesCalls serves old new calls then_calls
  no_call_of_it calls then_calls same kept = record {
    made = [];
    added = same ∙ sym (append-nil calls);
    served = kept;
  }

  -- and sent
  pub sent : (unmade then_unmade : ℕ) (heard : Option Reply) (delivery : Delivery)
      → ServesAs serves old new request heard → IsHeardOf heard delivery
      → IsSent serves old new unmade then_unmade request delivery
  sent unmade then_unmade heard (Delivered reply) served told =
      let there = heard_as heard (Delivered reply) served told in
      subst (λ t. serves old new request t) there.2 there.1
  sent unmade then_unmade heard Lost served told = inr (served.0, served.1)

-- what a line makes of the server's answer
pub heard_as_told : (request : Request) (answer : Result (Option Reply) CallFault) (heard : Option Reply)
    (delivery : Delivery) (kept told : Option CallFault) → IfSome heard (λ reply. reply_in answer ≡ Some reply)
    → IfSome heard (λ reply. Fits request reply) → IfSome heard (λ reply. OffsetsWithin reply)
    → IfNone heard (IfSome (reply_in answer) (λ reply. MayAnswer request reply → ⊥)) → kept ≡ fault_kept None answer
    → IsHeardOf heard delivery → told ≡ fault_after kept heard delivery → IsHeardAs request answer delivery told
heard_as_told request (Err refused) (Some reply) delivery kept told is fits within unheard first of last = absurd cc
heard_as_told request (Err refused) None (Delivered reply) kept told is fits within unheard first of last = absurd cc
heard_as_told request (Err refused) None Lost kept told is fits within unheard first of last = (refl, last ∙ first)
heard_as_told request (Ok None) (Some reply) delivery kept told is fits within unheard first of last = absurd cc
heard_as_told request (Ok None) None (Delivered reply) kept told is fits within unheard first of last = absurd cc
heard_as_told request (Ok None) None Lost kept told is fits within unheard first of last = (refl, last ∙ first)
heard_as_told request (Ok (Some there)) None (Delivered reply) kept told is fits within unheard first of last =
    absurd cc
heard_as_told request (Ok (Some there)) None Lost kept told is fits within unheard first of last =
    inr (unheard, last ∙ first)
heard_as_told request (Ok (Some there)) (Some reply) (Delivered got) kept told is fits within unheard first of last =
    (let same : got ≡ there = cc in same, last ∙ first)
heard_as_told request (Ok (Some there)) (Some reply) Lost kept told is fits within unheard first of last =
    let same : there ≡ reply = cc in inl (rw same (fits, within), last)

-- ---- of a broker with its journal

pub served_append : (xs ys : List Call) (ss ts : List Served) → AreServed xs ss → AreServed ys ts
    → AreServed (xs ++ ys) (ss ++ ts)
served_append [] ys ss ts one two = grind (arith, nat_tests)
served_append (x ∷ xs) ys ss ts one two = grind (arith, nat_tests, served_append xs ys)

module _ (worker : ℕ) (principal host : List ℕ) where
  no_call_is_journaled : (r : Record) → IsJournaled worker principal host [] r r
  no_call_is_journaled r = record {
    by = record {
      opening = refl;
      limit = refl;
      entries = [];
      journal = sym (append-nil r.journal);
      own = All-nil (IsEntryOf worker principal host);
    };
    served = tt;
  }

  calls_are_journaled : (xs ys : List Call) (old mid new : Record) → IsJournaled worker principal host xs old mid
      → IsJournaled worker principal host ys mid new → IsJournaled worker principal host (xs ++ ys) old new
  calls_are_journaled xs ys old mid new one two =
      let first = one.by in
      let last = two.by in
      record {
        by = record {
          opening = last.opening ∙ first.opening;
          limit = last.limit ∙ first.limit;
          entries = first.entries ++ last.entries;
          journal =
              added_append old.journal first.entries last.entries mid.journal new.journal first.journal last.journal;
          own = All-append (IsEntryOf worker principal host) first.entries last.entries first.own last.own;
        };
        served = subst (λ ss. AreServed (xs ++ ys) ss) (sym (map-append served_in first.entries last.entries))
            (served_append xs ys (map served_in first.entries) (map served_in last.entries) one.served two.served);
      }

module _ (worker : ℕ) (principal host : List ℕ) (r new : Record) (request : Request) where
  abbrev at_end : Record
  at_end = after_event r worker (event_by principal host request)

  served_call : (heard : Option Reply)
      → (heard ≡ None) ⊎ (heard ≡ Some (outcome_of r (event_by principal host request)).reply) → new ≡ at_end
      → IsJournaled worker principal host (record { request = request; heard = heard } ∷ []) r new
  served_call heard told served = record {
    by = record {
      opening = ap (λ (x : Record). x.opening) served;
      limit = ap (λ (x : Record). x.limit) served;
      entries =
          entry worker (event_by principal host request) (outcome_of r (event_by principal host request)).reply ∷ [];
      journal = ap (λ (x : Record). x.journal) served;
      own = All-cons (IsEntryOf worker principal host) _ [] (refl, refl, refl)
          (All-nil (IsEntryOf worker principal host));
    };
    served = inr (refl, told, tt);
  }

  unserved_call : new ≡ r → IsJournaled worker principal host (record { request = request; heard = None } ∷ []) r new
  unserved_call kept = record {
    by = record {
      opening = ap (λ (x : Record). x.opening) kept;
      limit = ap (λ (x : Record). x.limit) kept;
      entries = [];
      journal = ap (λ (x : Record). x.journal) kept ∙ sym (append-nil r.journal);
      own = All-nil (IsEntryOf worker principal host);
    };
    served = (refl, tt);
  }

  one_call_is_journaled : (there heard : Option Reply)
      → IsServedIfHeard r at_end new (outcome_of r (event_by principal host request)).reply there
      → IfSome heard (λ reply. there ≡ Some reply)
      → IsJournaled worker principal host (record { request = request; heard = heard } ∷ []) r new
  one_call_is_journaled (Some it) (Some heard) served told =
      served_call (Some heard) (inr (sym told ∙ ap Some served.1)) served.0
  one_call_is_journaled None (Some heard) served told = absurd cc
  one_call_is_journaled (Some it) None served told = served_call None (inl refl) served.0
  one_call_is_journaled None None served told = unserved_call served

-- a server that keeps its broker, its worker, its principal and its host, in whose journal these calls are
abbrev pub JournalsEach : RecordedServer → RecordedServer → List Call → Type 0
JournalsEach old new cs =
    (new.recorded.ghost_name ≡ old.recorded.ghost_name)
    × (new.worker ≡ old.worker)
    × (new.principal ≡ old.principal)
    × (new.host ≡ old.host)
    × IsJournaled old.worker old.principal old.host cs old.recorded.now new.recorded.now

journals_more : (a b c : RecordedServer) (xs ys : List Call) → JournalsEach a b xs → JournalsEach b c ys
    → JournalsEach a c (xs ++ ys)
journals_more a b c xs ys one two =
    let then : IsJournaled a.worker a.principal a.host ys b.recorded.now c.recorded.now =
    subst (λ w. IsJournaled w a.principal a.host ys b.recorded.now c.recorded.now) one.1
    (subst (λ p. IsJournaled b.worker p a.host ys b.recorded.now c.recorded.now) one.2
    (subst (λ h. IsJournaled b.worker b.principal h ys b.recorded.now c.recorded.now) one.3 two.4)) in (
      two.0 ∙ one.0,
      two.1 ∙ one.1,
      two.2 ∙ one.2,
      two.3 ∙ one.3,
      calls_are_journaled a.worker a.principal a.host xs ys a.recorded.now b.recorded.now c.recorded.now one.4 then,
    )

pub journals_each : (old new : RecordedServer) (cs : List Call) → ServesEach ServesRecorded old new cs
    → JournalsEach old new cs
journals_each = each_gives ServesRecorded JournalsEach
    (λ s. (refl, refl, refl, refl, no_call_is_journaled s.worker s.principal s.host s.recorded.now))
    (λ a b c (there, served, told). (
      served.0,
      served.1,
      served.2,
      served.3,
      one_call_is_journaled a.worker a.principal a.host a.recorded.now b.recorded.now c.request there c.heard
          served.4 told,
    ))
    journals_more

-- the calls of a line over it are in the journal
pub journals : (old new : RecordedServer) (calls then_calls : List Call)
    → MakesCalls ServesRecorded old new calls then_calls
    → Journals old.worker old.principal old.host calls then_calls old.recorded.now new.recorded.now
journals old new calls then_calls makes =
    record { made = makes.made; added = makes.added; journaled = (journals_each old new makes.made makes.served).4 }

-- ---- of a line below

passed_append : (xs ys bs cs : List Call) → ArePassedOn xs bs → ArePassedOn ys cs → ArePassedOn (xs ++ ys) (bs ++ cs)
passed_append [] ys bs cs one two = grind (arith, nat_tests)
passed_append (x ∷ xs) ys bs cs one two = grind (arith, nat_tests, passed_append xs ys)

module _ (below then_below : List Call) (request : Request) where
  unheard_call : GainsAtMost below then_below request
      → PassesCallsOn [] (record { request = request; heard = None } ∷ []) below then_below
  unheard_call (inl kept) = grind (arith, nat_tests, append-nil)
  unheard_call (inr gained) = grind (arith, nat_tests)

  heard_call : (there heard : Reply) → Some there ≡ Some heard
      → then_below ≡ below ++ record { request = request; heard = Some there } ∷ []
      → PassesCallsOn [] (record { request = request; heard = Some heard } ∷ []) below then_below
  heard_call there heard is passed = grind (arith, nat_tests)

  one_call_is_passed_on : (loss : Loss) (there heard : Option Reply) → PassesOn loss below then_below request there
      → IfSome heard (λ reply. there ≡ Some reply)
      → PassesCallsOn [] (record { request = request; heard = heard } ∷ []) below then_below
  one_call_is_passed_on losses.BeforeServe there None passed is = unheard_call (inl passed.1)
  one_call_is_passed_on losses.BeforeServe there (Some heard) passed is = grind (arith, nat_tests)
  one_call_is_passed_on losses.AfterServe there None passed is = unheard_call passed.1
  one_call_is_passed_on losses.AfterServe there (Some heard) passed is = grind (arith, nat_tests)
  one_call_is_passed_on losses.None None None passed is = unheard_call passed
  one_call_is_passed_on losses.None None (Some heard) passed is = absurd cc
  one_call_is_passed_on losses.None (Some there) None passed is = grind (arith, nat_tests, unheard_call)
  one_call_is_passed_on losses.None (Some there) (Some heard) passed is = heard_call there heard is passed

-- the calls of a line, and those of the line below that follow them
calls_are_passed_on : (xs ys below mid_below then_below : List Call) → PassesCallsOn [] xs below mid_below
    → PassesCallsOn [] ys mid_below then_below → PassesCallsOn [] (xs ++ ys) below then_below
calls_are_passed_on xs ys below mid_below then_below one two = record {
  made = one.made ++ two.made;
  passed = one.passed ++ two.passed;
  above = ap (λ zs. zs ++ ys) one.above ∙ ap (λ zs. one.made ++ zs) two.above;
  beneath = added_append below one.passed two.passed mid_below then_below one.beneath two.beneath;
  are_passed = passed_append one.made two.made one.passed two.passed one.are_passed two.are_passed;
}

no_call_is_passed_on : (below : List Call) → PassesCallsOn [] [] below below
no_call_is_passed_on below =
    record { made = []; passed = []; above = refl; beneath = sym (append-nil below); are_passed = tt }

module _ {S L : Type 0} (line : S → L) (loss : S → Loss) (becomes : L → L → Type 0) (calls : L → List Call)
    (unmade : L → ℕ) where
  abbrev pub ServesBelow : S → S → Request → Option Reply → Type 0
  ServesBelow old new request there =
      ServesLossy becomes calls unmade (loss old) (loss new) (line old) (line new) request there

  abbrev pub PassesEach : S → S → List Call → Type 0
  PassesEach old new cs =
      becomes (line old) (line new) × PassesCallsOn [] cs (calls (line old)) (calls (line new))

  -- the line below becomes what its calls make of it, which are those that were passed on
  pub passes : ((l : L) → becomes l l) → ((a b c : L) → becomes a b → becomes b c → becomes a c)
      → (old new : S) (own then_own : List Call) → MakesCalls ServesBelow old new own then_own
      → becomes (line old) (line new) × PassesCallsOn own then_own (calls (line old)) (calls (line new))
  passes stays goes_on old new own then_own makes =
      let each =
      each_gives ServesBelow PassesEach
      (λ s. (stays (line s), no_call_is_passed_on (calls (line s))))
      (λ a b c (there, served, told). (
        served.1,
        one_call_is_passed_on (calls (line a)) (calls (line b)) c.request (loss a) there c.heard served.2 told,
      ))
      (λ a b c xs ys one two. (
        goes_on (line a) (line b) (line c) one.0 two.0,
        calls_are_passed_on xs ys (calls (line a)) (calls (line b)) (calls (line c)) one.1 two.1,
      )) old new makes.made makes.served in (
        each.0,
        record {
          made = each.1.made;
          passed = each.1.passed;
          above = makes.added ∙ ap (λ zs. own ++ zs) each.1.above;
          beneath = each.1.beneath;
          are_passed = each.1.are_passed;
        },
      )

-- the same of a connection
pub passes_to : {S C T : Type 0} (old new : S) (line : S → C) (loss : S → Loss) (server : C → T)
    (calls : C → List Call) (unmade : C → ℕ) (serves : T → T → Request → Option Reply → Type 0)
    (own then_own : List Call)
    → MakesCalls (ServesBelow line loss (λ a b. MakesCalls serves (server a) (server b) (calls a) (calls b)) calls unmade)
    old new own then_own
    → MakesCalls serves (server (line old)) (server (line new)) (calls (line old)) (calls (line new))
    × PassesCallsOn own then_own (calls (line old)) (calls (line new))
passes_to old new line loss server calls unmade serves own then_own makes =
    passes line loss (λ a b. MakesCalls serves (server a) (server b) (calls a) (calls b)) calls unmade
    (λ l. no_call_is_made serves (server l) (calls l))
    (λ a b c. calls_are_made serves (server a) (server b) (server c) (calls a) (calls b) (calls c))
    old new own then_own makes

-- ---- of a session

seat_stays : (s : Seat) → KeepsSeat s s
seat_stays s = grind (arith, nat_tests)

seat_goes_on : (a b c : Seat) → KeepsSeat a b → KeepsSeat b c → KeepsSeat a c
seat_goes_on a b c one two = grind (arith, nat_tests)

heard_keeps_seat : (before now : Seat) (request : Request) (heard : Option Reply)
    → IsServedInSession before now request heard → KeepsSeat before now
heard_keeps_seat before now request (Some reply) served = grind (arith, nat_tests)
heard_keeps_seat before now request None served = grind (arith, nat_tests)

-- calls in a session keep its seat
pub keeps_seat : {S : Type 0} (session : S → Seat) (old new : S) (cs : List Call)
    → ServesEach (λ a b. IsServedInSession (session a) (session b)) old new cs → KeepsSeat (session old) (session new)
keeps_seat session = each_gives (λ a b. IsServedInSession (session a) (session b))
    (λ a b cs. KeepsSeat (session a) (session b))
    (λ s. seat_stays (session s))
    (λ a b c (there, served, told). heard_keeps_seat (session a) (session b) c.request there served)
    (λ a b c xs ys. seat_goes_on (session a) (session b) (session c))

-- A reply fits its request, whatever state a broker is in.

no_settings : Settings
no_settings = record { supers = []; opening = []; everyone = false }

pub step_fits : (s : State Retained) (event : Event) (reply : Reply) → reply ≡ (step retained_meaning s event).reply
    → Fits event.request reply
step_fits s event reply is =
    let r : Record = record { opening = no_settings; limit = 0; journal = []; broker = s } in reply_fits r event reply is
