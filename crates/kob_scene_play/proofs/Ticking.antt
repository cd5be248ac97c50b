-- Ticks over a line of their own.
use Rattle.kob_scene_play.proofs.Words.{ArePassedOn, AreServed, Call, Consumer, IsOwnTick, IsJournaled, IsSameConsumer, IsSameService, IsRouterTick, Journals, List, LosesFirst, Loss, PassesCallsOn, Record, Served, Service, Ticks, [], inl, inr, point_of, served_in, subst, sym, ℕ, map, ◌++◌, ◌∙◌, ◌∷◌, ◌≡◌, ap, Err, IfOk, None, Ok, OnOk, Option, Result, Some}
use Rattle.kob_inbox.specs.declared.tick.Tick.{Tick as ConsumerAnswer}
use Rattle.kob_inbox.specs.Contents.{Contents as InboxContents}
use Rattle.kob_connections.specs.Relayed.{IsTick}
use Rattle.kob_rights.specs.declared.event.Event.{Event}
use Rattle.kob_rights.specs.declared.reply.Reply.{Reply}
use Rattle.kob_router.specs.declared.tick.Tick.{Tick as ServiceAnswer}
use Rattle.kob_scene_play.specs.Asked.{IsAsked, committed_by}
use Rattle.kob_scene_play.specs.Begins.{IsBegun, start_event}
use Rattle.kob_scene_play.specs.Services.{relayed_of}
use Rattle.kob_scene_play.specs.Steps.{IsAheadBy, IsAheadTick, IsCalled, IsTakingTick, IsTickBy, IsTickOfConsumer, ahead_of}
use Rattle.kob_scene_play.specs.Takings.{HandlesReply, TakesHeld, asked_event, inbox_by, inbox_with}
use Rattle.kob_scene_text.specs.declared.scene.Taking.{Taking}

-- calls of a line that are served below it are served
served_below : (calls below : List Call) (served : List Served) → ArePassedOn calls below → AreServed below served
    → AreServed calls served
served_below [] [] served passed are = are
served_below [] (b ∷ bs) served passed are = absurd passed
served_below (c ∷ cs) [] [] (lost, passed) are = (lost, served_below cs [] [] passed are)
served_below (c ∷ cs) [] (s ∷ ss) (lost, passed) are = absurd are
served_below (c ∷ cs) (b ∷ bs) [] (inl (lost, passed)) are = (lost, served_below cs (b ∷ bs) [] passed are)
served_below (c ∷ cs) (b ∷ bs) [] (inr (same, inl lost, passed)) (none, are) = (lost, served_below cs bs [] passed are)
served_below (c ∷ cs) (b ∷ bs) [] (inr (same, inr heard, passed)) (none, are) = (heard ∙ none, served_below cs bs [] passed are)
served_below (c ∷ cs) (b ∷ bs) (s ∷ ss) (inl (lost, passed)) are = inl (lost, served_below cs (b ∷ bs) (s ∷ ss) passed are)
served_below (c ∷ cs) (b ∷ bs) (s ∷ ss) (inr (same, inl lost, passed)) (inl (none, are)) =
    inl (lost, served_below cs bs (s ∷ ss) passed are)
served_below (c ∷ cs) (b ∷ bs) (s ∷ ss) (inr (same, inr heard, passed)) (inl (none, are)) =
    inl (heard ∙ none, served_below cs bs (s ∷ ss) passed are)
served_below (c ∷ cs) (b ∷ bs) (s ∷ ss) (inr (same, inl lost, passed)) (inr (asked, told, are)) =
    inr (asked ∙ same, inl lost, served_below cs bs ss passed are)
served_below (c ∷ cs) (b ∷ bs) (s ∷ ss) (inr (same, inr heard, passed)) (inr (asked, inl none, are)) =
    inr (asked ∙ same, inl (heard ∙ none), served_below cs bs ss passed are)
served_below (c ∷ cs) (b ∷ bs) (s ∷ ss) (inr (same, inr heard, passed)) (inr (asked, inr told, are)) =
    inr (asked ∙ same, inr (heard ∙ told), served_below cs bs ss passed are)

-- calls that were passed on to a line with a journal, by a line that had made none
pub journaled_below : (worker own_worker : ℕ) (principal own_principal host own_host : List ℕ)
    (calls then_calls below then_below : List Call) (old own_old new : Record)
    → own_worker ≡ worker → own_principal ≡ principal → own_host ≡ host → own_old ≡ old → calls ≡ [] → below ≡ []
    → PassesCallsOn calls then_calls below then_below
    → Journals own_worker own_principal own_host below then_below own_old new
    → IsJournaled worker principal host then_calls old new
journaled_below worker own_worker principal own_principal host own_host calls then_calls below then_below old own_old new
    same_worker same_principal same_host same_old none none_below passes own =
    let journals : Journals worker principal host below then_below old new =
    subst (λ w. Journals w principal host below then_below old new) same_worker
    (subst (λ p. Journals own_worker p host below then_below old new) same_principal
    (subst (λ h. Journals own_worker own_principal h below then_below old new) same_host
    (subst (λ (r : Record). Journals own_worker own_principal own_host below then_below r new) same_old own))) in
    let made : passes.made ≡ then_calls = sym (passes.above ∙ ap (λ xs. xs ++ passes.made) none) in
    let passed : journals.made ≡ passes.passed =
    sym (ap (λ xs. xs ++ journals.made) none_below) ∙ sym journals.added ∙ passes.beneath
    ∙ ap (λ xs. xs ++ passes.passed) none_below in
    let served = map served_in journals.journaled.by.entries in
    record {
      by = journals.journaled.by;
      served = subst (λ made_calls. AreServed made_calls served) made (served_below passes.made passes.passed served
          passes.are_passed (subst (λ made_calls. AreServed made_calls served) passed journals.journaled.served));
    }

-- a tick over a line that had made no call is one of the service's router
pub service_ticked : (sent : List Call → List Call) (loss : Loss) (old new : Service) (tick : ServiceAnswer) (before now : List Call) (unmade then_unmade : ℕ)
    (recorded then_recorded : Record) → LosesFirst loss now → IsSameService old new → new.recorded ≡ old.recorded
    → before ≡ [] → unmade ≡ 0 → IsJournaled old.worker old.principal old.host (sent now) recorded then_recorded
    → IsTick (relayed_of old) (relayed_of new) before now unmade then_unmade tick
    → IsRouterTick sent loss old new recorded then_recorded tick
service_ticked sent loss old new tick before now unmade then_unmade recorded then_recorded lost same events none all journaled ticks =
    let Begun : List Call → ℕ → Type 0 =
    λ calls count. IsTick (relayed_of old) (relayed_of new) calls now count then_unmade tick in
    record {
      same = same;
      recorded = events;
      calls = now;
      lost = lost;
      journaled = journaled;
      unmade = then_unmade;
      ticks = subst (Begun []) all (subst (λ calls. Begun calls unmade) none ticks);
    }

-- and one of the consumer
pub consumer_ticked : (loss : Loss) (old new : Consumer) (tick : ConsumerAnswer) (before now : List Call) (unmade then_unmade : ℕ)
    (recorded then_recorded : Record) → LosesFirst loss now → IsSameConsumer old new → new.holding ≡ old.holding
    → before ≡ [] → unmade ≡ 0 → IsJournaled old.worker old.principal old.host now recorded then_recorded
    → Ticks old.fetcher.subscription (point_of old.fetcher old.own before unmade)
    (point_of new.fetcher new.own now then_unmade) tick
    → IsCalled loss old new recorded then_recorded now tick
consumer_ticked loss old new tick before now unmade then_unmade recorded then_recorded lost same holding none all journaled ticks =
    let Begun : List Call → ℕ → Type 0 =
    λ calls count. Ticks old.fetcher.subscription (point_of old.fetcher old.own calls count)
    (point_of new.fetcher new.own now then_unmade) tick in
    record {
      same = same;
      holding = holding;
      lost = lost;
      journaled = journaled;
      unmade = then_unmade;
      ticks = subst (Begun []) all (subst (λ calls. Begun calls unmade) none ticks);
    }

-- what its calls brought is noted, which changes what was taken in alone
with_inbox : (loss : Loss) (old mid : Consumer) (inbox : InboxContents) (before after : Record) (calls : List Call)
    (tick : ConsumerAnswer) → IsCalled loss old mid before after calls tick
    → IsCalled loss old (record mid { inbox = inbox }) before after calls tick
with_inbox loss old mid inbox before after calls tick called = record {
  same = record {
    worker = called.same.worker;
    principal = called.same.principal;
    host = called.same.host;
    start = called.same.start;
    taking = called.same.taking;
    subscription = called.same.subscription;
  };
  holding = called.holding;
  lost = called.lost;
  journaled = called.journaled;
  unmade = called.unmade;
  ticks = called.ticks;
}

noted : (loss : Loss) (old mid : Consumer) (before after : Record) (calls : List Call) (tick : ConsumerAnswer)
    → IsCalled loss old mid before after calls tick → mid.inbox ≡ inbox_by old.taking mid.own old.inbox
    → IsOwnTick loss old (record mid { inbox = inbox_with mid.taking mid.inbox calls }) before after tick
noted loss old mid before after calls tick called inbox = (
  calls,
  with_inbox loss old mid (inbox_with mid.taking mid.inbox calls) before after calls tick called,
  ap (λ taking. inbox_with taking mid.inbox calls) called.same.taking
      ∙ ap (λ events. inbox_with old.taking events calls) inbox,
)

pub calls_noted : {E : Type 0} (result : Result (Unit {0}) E) (loss : Loss) (old mid new : Consumer) (before after : Record)
    (calls : List Call) (tick : ConsumerAnswer) → IsCalled loss old mid before after calls tick
    → mid.inbox ≡ inbox_by old.taking mid.own old.inbox
    → OnOk result (new ≡ record mid { inbox = inbox_with mid.taking mid.inbox calls })
    → OnOk result (IsOwnTick loss old new before after tick)
calls_noted (Ok done) loss old mid new before after calls tick called inbox now =
    subst (λ (then : Consumer). IsOwnTick loss old then before after tick) (sym now)
    (noted loss old mid before after calls tick called inbox)
calls_noted (Err fault) loss old mid new before after calls tick called inbox now = tt

-- the commit with which a consumer begins
pub begun : (loss : Loss) (worker : ℕ) (event : Event) (before after : Record) (heard : Option Reply) (tick : ConsumerAnswer)
    → IsAsked loss worker event before after heard → tick ≡ committed_by heard
    → IsBegun loss worker event before after tick
begun loss worker event before after heard tick asked is = (heard, asked, is)

-- a tick of a consumer that has to begin is the commit of the end
pub tick_begun : {E : Type 0} (result : Result ConsumerAnswer E) (loss : Loss) (old new : Consumer) (before after : Record)
    (due : Option Event) (event : Event)
    → due ≡ start_event old.start old.principal old.host old.fetcher before.journal → due ≡ Some event → new ≡ old
    → IfOk result (IsBegun loss old.worker event before after)
    → IfOk result (IsTickOfConsumer loss old new before after)
tick_begun (Ok tick) loss old new before after due event found is same begun =
    subst (λ (d : Option Event). IsTickBy d loss old new before after tick) (sym is ∙ found) (same, begun)
tick_begun (Err fault) loss old new before after due event found is same begun = begun

-- and any other is one by how it takes in
pub tick_own : {E : Type 0} (result : Result ConsumerAnswer E) (loss : Loss) (old new : Consumer) (before after : Record)
    (due : Option Event) (taking : Taking)
    → due ≡ start_event old.start old.principal old.host old.fetcher before.journal → due ≡ None
    → taking ≡ old.taking → IfOk result (IsTakingTick taking loss old new before after)
    → IfOk result (IsTickOfConsumer loss old new before after)
tick_own (Ok tick) loss old new before after due taking found is same own =
    subst (λ (d : Option Event). IsTickBy d loss old new before after tick) (sym is ∙ found)
    (subst (λ (t : Taking). IsTakingTick t loss old new before after tick) same own)
tick_own (Err fault) loss old new before after due taking found is same own = own

-- a tick of a consumer that commits before it takes in, by its next request
ahead_by : (loss : Loss) (old new : Consumer) (before after : Record) (due : Option Event) (tick : ConsumerAnswer)
    → IsSameConsumer old new → new.inbox ≡ new.own
    → due ≡ asked_event old.principal old.host old.fetcher old.holding
    → IsAheadBy due loss old new before after tick → IsAheadTick loss old new before after tick
ahead_by loss old new before after due tick same inbox found moves = record {
  same = same;
  inbox = inbox;
  moves = subst (λ (d : Option Event). IsAheadBy d loss old new before after tick) found moves;
}

-- it has none
pub taken_ahead : {E : Type 0} (result : Result ConsumerAnswer E) (loss : Loss) (old new : Consumer) (before after : Record)
    (due : Option Event) → IsSameConsumer old new → new.inbox ≡ new.own
    → due ≡ asked_event old.principal old.host old.fetcher old.holding → due ≡ None → after ≡ before
    → IfOk result (TakesHeld old.holding old.fetcher.subscription (ahead_of old) (ahead_of new))
    → IfOk result (IsAheadTick loss old new before after)
taken_ahead (Ok tick) loss old new before after due same inbox found none stays takes =
    ahead_by loss old new before after due tick same inbox found
    (subst (λ (d : Option Event). IsAheadBy d loss old new before after tick) (sym none) (stays, takes))
taken_ahead (Err fault) loss old new before after due same inbox found none stays takes = takes

-- it has one
pub handled_ahead : {E : Type 0} (result : Result ConsumerAnswer E) (loss : Loss) (old new : Consumer)
    (before after : Record) (due : Option Event) (event : Event) (heard : Option Reply)
    → IsSameConsumer old new → new.inbox ≡ new.own
    → due ≡ asked_event old.principal old.host old.fetcher old.holding → due ≡ Some event
    → IsAsked loss old.worker event before after heard
    → IfOk result (HandlesReply old.fetcher.subscription event.request heard (ahead_of old) (ahead_of new))
    → IfOk result (IsAheadTick loss old new before after)
handled_ahead (Ok tick) loss old new before after due event heard same inbox found is asked handles =
    ahead_by loss old new before after due tick same inbox found
    (subst (λ (d : Option Event). IsAheadBy d loss old new before after tick) (sym is) (heard, asked, handles))
handled_ahead (Err fault) loss old new before after due event heard same inbox found is asked handles = handles
