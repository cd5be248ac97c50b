-- Ticks of a service in a row.
use Rattle.kob_endpoints.proofs.Words.{Call, Err, IsTick, List, None, Ok, OnOk, Relayed, Result, Some, [], ap, arith, length, map, refl, subst, suc, sym, take, ℕ, ◌+◌, ◌<◌, ◌∙◌, ◌∷◌, ◌≡◌, ◌≤◌, ◌↔◌}
use Rattle.std.proofs.Common.{inl, inr}
use Rattle.std.proofs.lemmas.List.{length-map}
use Rattle.std.specs.List.{AllByRecursion}
use Rattle.std.specs.Prelude.{IfErr, IsSome, MatchOption, slice_get}
use Rattle.kob_endpoints.specs.Running.{AreTicks, AreTries, EndsSending, IsTickBetween, Moment, SendsFor, TriesFor, sending_after}
use Rattle.kob_connections.specs.declared.program_fault.ProgramFault.{ProgramFault}
use Rattle.kob_connections.specs.declared.program_fault.ProgramFault.TheVariants as program
use Rattle.kob_outbox.specs.Contents.{Contents, Event, first_after, later_than, stored_row}
use Rattle.kob_outbox.specs.declared.event.Row.{Row}
use Rattle.kob_router.specs.Run.{Dispatching, Move, State, next_row}
use Rattle.kob_router.specs.Tick.{IsReport}
use Rattle.kob_router.specs.declared.tick.StopReason.TheVariants.{BadTopic, Memory, Rejected, Store}
use Rattle.kob_router.specs.declared.tick.Tick as sent
use Rattle.kob_router.specs.declared.tick.Tick.TheVariants.{Idle, Moved, Repeat, Stopped}

-- so many ticks were made, after each of which the work goes on
pub record Sending (count : ℕ) (before now : Moment) : Type 0 where
  pub ticks : List sent.Tick
  pub made : AreTicks IsTickBetween ticks before now
  pub on : AllByRecursion (λ one. sending_after one ≡ None) ticks
  pub many : length ticks ≡ count

pub no_tick : (now : Moment) → Sending 0 now now
no_tick now = record { ticks = []; made = refl; on = tt; many = refl }

pub one_tick : (count : ℕ) (before last now : Moment) (tick : sent.Tick) → Sending count before last
    → IsTick last.relayed now.relayed last.calls now.calls last.unmade now.unmade tick
    → sending_after tick ≡ None → Sending (count + 1) before now
one_tick count before last now tick was made on = record {
  ticks = tick ∷ was.ticks;
  made = (last, was.made, made);
  on = (on, was.on);
  many = longer (length was.ticks) count was.many;
}
  where
    longer : (n count : ℕ) → n ≡ count → suc n ≡ count + 1
    longer n count is = omega arith

few : (n count most : ℕ) → n ≡ count → count < most → suc n ≤ most
few n count most is within = omega arith

-- one tick more was made
pub one_try : (count most : ℕ) (before last now : Moment) (tick : sent.Tick) → Sending count before last
    → IsTick last.relayed now.relayed last.calls now.calls last.unmade now.unmade tick
    → count < most → TriesFor most before now
one_try count most before last now tick was made within =
    (tick ∷ was.ticks, (last, was.made, made), (was.on, few (length was.ticks) count most was.many within))

-- a tick ends the work
pub sending_ends : (count most : ℕ) (before last now : Moment) (tick : sent.Tick)
    (ended : Result (Unit {0}) ProgramFault) → Sending count before last
    → IsTick last.relayed now.relayed last.calls now.calls last.unmade now.unmade tick
    → sending_after tick ≡ Some ended → count < most → IfErr ended (SendsFor most before now)
sending_ends count most before last now tick (Ok done) was made is within = tt
sending_ends count most before last now tick (Err fault) was made is within = (
  tick ∷ was.ticks,
  (last, was.made, made),
  ((was.on, few (length was.ticks) count most was.many within), inl is),
)

-- all ticks were made
pub sending_used_up : (count most : ℕ) (before now : Moment) → Sending count before now → count ≡ most
    → SendsFor most before now program.Stopped
sending_used_up count most before now was all =
    (was.ticks, was.made, ends was.ticks count most was.on was.many all)
  where
    ends : (ticks : List sent.Tick) (count most : ℕ)
        → AllByRecursion (λ one. sending_after one ≡ None) ticks → length ticks ≡ count
        → count ≡ most → EndsSending most ticks program.Stopped
    ends [] count most on many all = (sym all ∙ sym many, refl)
    ends (tick ∷ ticks) count most on many all =
        let is : length (tick ∷ ticks) ≡ most = many ∙ all in ((on.1, omega (arith, is)), inr (on.0, is, refl))

pub tries_used_up : (count most : ℕ) (before now : Moment) → Sending count before now → count ≡ most
    → TriesFor most before now
tries_used_up count most before now was all = (was.ticks, was.made, tries was.ticks count most was.on was.many all)
  where
    tries : (ticks : List sent.Tick) (count most : ℕ)
        → AllByRecursion (λ one. sending_after one ≡ None) ticks → length ticks ≡ count
        → count ≡ most → AreTries most ticks
    tries [] count most on many all = tt
    tries (tick ∷ ticks) count most on many all =
        let is : length (tick ∷ ticks) ≡ most = many ∙ all in (on.1, omega (arith, is))

-- no tick was made
pub no_try : (most : ℕ) (before now : Moment) → before ≡ now → TriesFor most before now
no_try most before now same = ([], same, tt)

-- only a tick that found no row ends the work well
none_after : (route : Dispatching) (tick : sent.Tick) (moves : List Move) (now : State) (unmade then_unmade : ℕ)
    → IsReport route tick moves now unmade then_unmade
    → MatchOption (sending_after tick) (Unit {0}) (λ ended. OnOk ended (next_row now.outbox ≡ None))
none_after route Idle moves now unmade then_unmade report = let (introduced, none, counted) = report in none
none_after route (Moved seq) moves now unmade then_unmade report = tt
none_after route Repeat moves now unmade then_unmade report = tt
none_after route (Stopped (Rejected reply)) moves now unmade then_unmade report = tt
none_after route (Stopped BadTopic) moves now unmade then_unmade report = tt
none_after route (Stopped (Memory refused)) moves now unmade then_unmade report = tt
none_after route (Stopped Store) moves now unmade then_unmade report = tt

pub none_waits : (before now : Relayed) (calls then_calls : List Call) (unmade then_unmade : ℕ) (tick : sent.Tick)
    (ended : Result (Unit {0}) ProgramFault) → IsTick before now calls then_calls unmade then_unmade tick
    → sending_after tick ≡ Some ended → OnOk ended (next_row now.outbox ≡ None)
none_waits before now calls then_calls unmade then_unmade tick ended made is =
    subst (λ o. MatchOption o (Unit {0}) (λ e. OnOk e (next_row now.outbox ≡ None))) is
    (none_after _ tick _ _ _ _ made.1.answer)

-- a row waits where one is read
pub one_is_read : (rows : List Row) (mark : ℕ) (c : Contents) → mark ≡ c.mark
    → map stored_row rows ≡ first_after mark 1 c.events → (0 < length rows) ↔ IsSome (next_row c)
one_is_read rows mark c is read =
    subst (λ n. (0 < n) ↔ IsSome (next_row c))
    (ap (λ es. length es) (sym (read ∙ ap (λ m. first_after m 1 c.events) is)) ∙ length-map rows stored_row)
    (some (later_than c.mark c.events))
  where
    some : (events : List Event) → (0 < length (take 1 events)) ↔ IsSome (slice_get events 0)
    some [] = ((λ within. absurd (omega arith)), λ none. absurd (cc))
    some (e ∷ events) = ((λ _. refl), λ _. omega arith)
