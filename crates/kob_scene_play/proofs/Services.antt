-- Services that send otherwise than the proved router.
use Rattle.kob_scene_play.proofs.Words.{ArePassedOn, Bool, Call, Journals, List, Loss, None, Option, PassesCallsOn, Record, Service, Some, [], ap, false, inl, inr, map, map-append, refl, subst, sym, true, ◌++◌, ◌∙◌, ◌∷◌, ◌≡◌}
use Rattle.kob_connections.proofs.Adding as adding
use Rattle.kob_connections.specs.Calls.{MakesCalls, ServesAs, ServesEach}
use Rattle.kob_connections.specs.Joined.{each_append}
use Rattle.kob_connections.specs.Servers.{ServesRecorded}
use Rattle.kob_connections.specs.declared.recorded_line.RecordedServer.{RecordedServer}
use Rattle.kob_connections.specs.Relayed.{Relayed}
use Rattle.kob_outbox.specs.Contents.{Event, stored_row}
use Rattle.kob_outbox.specs.declared.event.Row.{Row}
use Rattle.kob_rights.specs.declared.reply.Reply.{Reply}
use Rattle.kob_rights.specs.declared.request.Request.{Request}
use Rattle.kob_router.specs.Run.{next_row}
use Rattle.kob_router.specs.declared.tick.Tick.{Tick}
use Rattle.kob_scene_play.specs.Services.{GoesOn, IsRouterTick, IsSeenTick, asked_as, bare, bare_call, mark_past, past_first, sent_as, sent_bare, sent_by}
use Rattle.kob_scene_text.specs.declared.scene.Sending.{Sending}

-- ---- a row is skipped

abbrev past : Relayed → Option Event → Relayed
past r found = record r { outbox = record r.outbox { mark = mark_past r.outbox.mark found } }

-- no row waits
pub past_none : (old new : Relayed) → None ≡ next_row old.outbox → new ≡ old
    → new ≡ record old { outbox = past_first old.outbox }
past_none old new none same = same ∙ ap (λ (found : Option Event). past old found) none

-- a row waits
pub past_some : (old mid new : Relayed) (row : Row) → Some (stored_row row) ≡ next_row old.outbox → mid ≡ old
    → new ≡ record mid { outbox = record mid.outbox { mark = row.seq } }
    → new ≡ record old { outbox = past_first old.outbox }
past_some old mid new row some same moved =
    moved ∙ ap (λ (r : Relayed). record r { outbox = record r.outbox { mark = row.seq } }) same
    ∙ ap (λ (found : Option Event). past old found) some

-- ---- without producer ids

-- no call is none, however it is sent
pub none_sent : (is_bare : Bool) → sent_as is_bare [] ≡ []
none_sent true = refl
none_sent false = refl

-- calls after calls are sent after them
sent_append : (is_bare : Bool) (xs ys : List Call)
    → sent_as is_bare (xs ++ ys) ≡ sent_as is_bare xs ++ sent_as is_bare ys
sent_append true xs ys = map-append bare_call xs ys
sent_append false xs ys = refl

-- a call that was served as it was sent
one_sent : (is_bare : Bool) (old new : RecordedServer) (call : Call)
    → ServesAs ServesRecorded old new (asked_as is_bare call.request) call.heard
    → ServesEach ServesRecorded old new (sent_as is_bare (call ∷ []))
one_sent true old new call served = (new, served, refl)
one_sent false old new call served = (new, served, refl)

module _ {S : Type 0} (below : S → RecordedServer) (is_bare : S → Bool) where
  -- what a line without producer ids, or with them, makes of a broker with its journal
  abbrev pub ServesSent : S → S → Request → Option Reply → Type 0
  ServesSent old new request there =
      (is_bare new ≡ is_bare old) × ServesRecorded (below old) (below new) (asked_as (is_bare old) request) there

  abbrev pub SendsEach : S → S → List Call → Type 0
  SendsEach old new cs =
      (is_bare new ≡ is_bare old) × ServesEach ServesRecorded (below old) (below new) (sent_as (is_bare old) cs)

  none_sends : (s : S) → SendsEach s s []
  none_sends s =
      (refl, subst (λ cs. ServesEach ServesRecorded (below s) (below s) cs) (sym (none_sent (is_bare s))) refl)

  one_sends : (a b : S) (c : Call) → ServesAs ServesSent a b c.request c.heard → SendsEach a b (c ∷ [])
  one_sends a b c (there, served, told) =
      (served.0, one_sent (is_bare a) (below a) (below b) c (there, served.1, told))

  more_sends : (a b c : S) (xs ys : List Call) → SendsEach a b xs → SendsEach b c ys → SendsEach a c (xs ++ ys)
  more_sends a b c xs ys one two =
      let then : ServesEach ServesRecorded (below b) (below c) (sent_as (is_bare a) ys) =
      subst (λ is. ServesEach ServesRecorded (below b) (below c) (sent_as is ys)) one.0 two.1 in (
        two.0 ∙ one.0,
        subst (λ cs. ServesEach ServesRecorded (below a) (below c) cs) (sym (sent_append (is_bare a) xs ys))
            (each_append ServesRecorded (below a) (below b) (below c) (sent_as (is_bare a) xs)
            (sent_as (is_bare a) ys) one.1 then),
      )

  -- its calls are in the journal as they were sent
  pub journals_sent : (old new : S) (calls then_calls : List Call) → MakesCalls ServesSent old new calls then_calls
      → Journals (below old).worker (below old).principal (below old).host (sent_as (is_bare old) calls)
      (sent_as (is_bare old) then_calls) (below old).recorded.now (below new).recorded.now
  journals_sent old new calls then_calls makes =
      let each = adding.each_gives ServesSent SendsEach none_sends one_sends more_sends old new makes.made makes.served in
      adding.journals (below old) (below new) (sent_as (is_bare old) calls) (sent_as (is_bare old) then_calls)
      (record {
        made = sent_as (is_bare old) makes.made;
        added = ap (sent_as (is_bare old)) makes.added ∙ sent_append (is_bare old) calls makes.made;
        served = each.1;
      })

  -- and the broker stays
  pub same_broker : (old new : S) (calls then_calls : List Call) → MakesCalls ServesSent old new calls then_calls
      → (below new).recorded.ghost_name ≡ (below old).recorded.ghost_name
  same_broker old new calls then_calls makes =
      let each = adding.each_gives ServesSent SendsEach none_sends one_sends more_sends old new makes.made makes.served in
      (adding.journals_each (below old) (below new) (sent_as (is_bare old) makes.made) each.1).0

bare_are_passed_on : (calls below : List Call) → ArePassedOn calls below
    → ArePassedOn (map bare_call calls) (map bare_call below)
bare_are_passed_on [] [] passed = passed
bare_are_passed_on [] (b ∷ bs) passed = passed
bare_are_passed_on (c ∷ cs) [] (lost, passed) = (lost, bare_are_passed_on cs [] passed)
bare_are_passed_on (c ∷ cs) (b ∷ bs) (inl (lost, passed)) = inl (lost, bare_are_passed_on cs (b ∷ bs) passed)
bare_are_passed_on (c ∷ cs) (b ∷ bs) (inr (same, heard, passed)) =
    inr (ap bare same, heard, bare_are_passed_on cs bs passed)

-- calls that are passed on are so without producer ids
passes_bare : (calls then_calls below then_below : List Call) → PassesCallsOn calls then_calls below then_below
    → PassesCallsOn (sent_bare calls) (sent_bare then_calls) (sent_bare below) (sent_bare then_below)
passes_bare calls then_calls below then_below passes = record {
  made = map bare_call passes.made;
  passed = map bare_call passes.passed;
  above = ap (map bare_call) passes.above ∙ map-append bare_call calls passes.made;
  beneath = ap (map bare_call) passes.beneath ∙ map-append bare_call below passes.passed;
  are_passed = bare_are_passed_on passes.made passes.passed passes.are_passed;
}

-- and as they are sent
pub passes_sent : (is_bare : Bool) (calls then_calls below then_below : List Call)
    → PassesCallsOn calls then_calls below then_below
    → PassesCallsOn (sent_as is_bare calls) (sent_as is_bare then_calls) (sent_as is_bare below)
    (sent_as is_bare then_below)
passes_sent true calls then_calls below then_below passes = passes_bare calls then_calls below then_below passes
passes_sent false calls then_calls below then_below passes = passes

-- ---- a whole tick

-- one of the router, and what is done after it
pub tick_done : (loss : Loss) (sending : Sending) (old mid new : Service) (before after : Record) (tick : Tick)
    → sending ≡ old.sending → IsRouterTick (sent_by sending) loss old mid before after tick
    → GoesOn sending tick mid new → IsSeenTick loss old new before after tick
tick_done loss sending old mid new before after tick is ticked goes_on = record {
  mid = mid;
  ticked = subst (λ s. IsRouterTick (sent_by s) loss old mid before after tick) is ticked;
  goes_on = subst (λ s. GoesOn s tick mid new) is goes_on;
}
