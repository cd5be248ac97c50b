-- What a router sees of the rows that wait.
use Rattle.kob_scene_play.proofs.Words.{[], Bool, Contents, Err, IfOk, List, None, Ok, Option, Record, Result, Service, Some, false, map, option_map, refl, subst, sym, true, ℕ, ◌∙◌, ◌∷◌, ◌≡◌}
use Rattle.kob_router.specs.declared.line.Loss.{Loss}
use Rattle.kob_outbox.specs.Contents.{Event, stored_row}
use Rattle.kob_outbox.specs.declared.event.Row.{Row}
use Rattle.kob_router.specs.declared.sender.HeldRow.{HeldRow}
use Rattle.kob_router.specs.declared.tick.Tick.{Tick}
use Rattle.kob_router.specs.declared.tick.Tick.TheVariants.{Idle}
use Rattle.kob_scene_play.specs.Services.{IsSeenTick, IsTickOfService, IsPolledTick, is_hidden, passed_to, poll_of}
use Rattle.kob_scene_play.specs.declared.poll.Poll.{Poll}
use Rattle.kob_scene_play.specs.declared.poll.Poll.TheVariants.{Own, Past, Nothing}
use Rattle.kob_scene_text.specs.declared.scene.Sending.{Sending}
use Rattle.kob_scene_text.specs.declared.scene.Sending.TheVariants.{Proved, RetriesNew, DeletesFirst, NotIdempotent, Separate, VisibleLate}
use Rattle.std.proofs.Common.{cond}
use Rattle.std.specs.List.{find}
use Rattle.std.specs.Prelude.{not}

picked : (test : Bool) (row : Row) (one : Option Row) (other : Option Event) → option_map stored_row one ≡ other
    → option_map stored_row (cond test (Some row) one) ≡ cond test (Some (stored_row row)) other
picked true row one other same = refl
picked false row one other same = same

-- the first visible row that was read is the first that is stored
pub first_of_stored : (hidden : List ℕ) (rows : List Row)
    → option_map stored_row (find (λ row. not (is_hidden hidden row.seq)) rows)
    ≡ find (λ event. not (is_hidden hidden event.seq)) (map stored_row rows)
first_of_stored hidden [] = refl
first_of_stored hidden (row ∷ rows) =
    picked (not (is_hidden hidden row.seq)) row (find (λ r. not (is_hidden hidden r.seq)) rows)
    (find (λ event. not (is_hidden hidden event.seq)) (map stored_row rows)) (first_of_stored hidden rows)

-- ---- the mark moves only where no row is in flight

abbrev IsPast : Poll → Type 0
IsPast Own = ⊥
IsPast (Past seq) = Unit {0}
IsPast Nothing = ⊥

none_where_past : (sending : Sending) (hand : Option HeldRow) (hidden : List ℕ) (outbox : Contents)
    → IsPast (poll_of sending hand hidden outbox) → hand ≡ None
none_where_past Proved hand hidden outbox is = absurd is
none_where_past RetriesNew hand hidden outbox is = absurd is
none_where_past DeletesFirst hand hidden outbox is = absurd is
none_where_past NotIdempotent hand hidden outbox is = absurd is
none_where_past Separate hand hidden outbox is = absurd is
none_where_past VisibleLate None hidden outbox is = refl
none_where_past VisibleLate (Some held) hidden outbox is = absurd is

abbrev polled : Service → Poll
polled service = poll_of service.sending service.sender.hand service.hidden service.outbox

pub none_in_flight : (old now : Service) (poll : Poll) (seq : ℕ) → poll ≡ polled old → poll ≡ Past seq → now ≡ old
    → now.sender.hand ≡ None
none_in_flight old now poll seq found is same =
    subst (λ (s : Service). s.sender.hand ≡ None) (sym same)
    (none_where_past old.sending old.sender.hand old.hidden old.outbox (subst IsPast (sym is ∙ found) tt))

-- ---- a tick, by what the router sees

pub tick_as_ever : {E : Type 0} (result : Result Tick E) (loss : Loss) (old mid new : Service) (before after : Record)
    (poll : Poll) → poll ≡ polled old → poll ≡ Own → mid ≡ old → IfOk result (IsSeenTick loss mid new before after)
    → IfOk result (IsTickOfService loss old new before after)
tick_as_ever (Ok tick) loss old mid new before after poll found is same seen =
    subst (λ (p : Poll). IsPolledTick p loss old new before after tick) (sym is ∙ found)
    (subst (λ (from : Service). IsSeenTick loss from new before after tick) same seen)
tick_as_ever (Err fault) loss old mid new before after poll found is same seen = seen

pub tick_past : {E : Type 0} (result : Result Tick E) (loss : Loss) (old start mid new : Service) (before after : Record)
    (poll : Poll) (seq : ℕ) → poll ≡ polled old → poll ≡ Past seq → start ≡ old → mid ≡ passed_to seq start
    → IfOk result (IsSeenTick loss mid new before after) → IfOk result (IsTickOfService loss old new before after)
tick_past (Ok tick) loss old start mid new before after poll seq found is same moved seen =
    subst (λ (p : Poll). IsPolledTick p loss old new before after tick) (sym is ∙ found)
    (subst (λ (from : Service). IsSeenTick loss (passed_to seq from) new before after tick) same
    (subst (λ (from : Service). IsSeenTick loss from new before after tick) moved seen))
tick_past (Err fault) loss old start mid new before after poll seq found is same moved seen = seen

pub tick_sees_none : (loss : Loss) (old new : Service) (r : Record) (poll : Poll) → poll ≡ polled old → poll ≡ Nothing
    → new ≡ old → IsTickOfService loss old new r r Idle
tick_sees_none loss old new r poll found is same =
    subst (λ (p : Poll). IsPolledTick p loss old new r r Idle) (sym is ∙ found) (same, refl, refl)
