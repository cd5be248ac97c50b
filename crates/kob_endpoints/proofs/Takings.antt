-- Ticks of a consumer in a row.
use Rattle.kob_endpoints.proofs.Words.{List, None, Some, Subscription, [], arith, length, refl, subst, sym, ℕ, ◌+◌, ◌<◌, ◌∙◌, ◌∷◌, ◌≡◌, ◌≤◌, nat_tests, suc}
use Rattle.std.proofs.Common.{ap, inl, inr, max}
use Rattle.std.specs.Prelude.{Err, Ok, Option, Result, alloc_error, ◌⊎◌}
use Rattle.kob_inbox.specs.Run.{Denied, Done, IsConsumerRun, Move, Refused, Reply, Request, State, after_answer}
use Rattle.kob_router.specs.declared.tick.StopReason.TheVariants.{BadTopic, Memory, Rejected, Store}
use Rattle.kob_endpoints.specs.Running.{AreTicks, EndsTaking, EndsTakingAll, EndsTakingRows, WentOn, HasNoRound, TicksBelow, idle_after, idle_ones, taking_after}
use Rattle.kob_inbox.specs.Tick.{IsCall, IsReport, Point, Ticks}
use Rattle.kob_inbox.specs.declared.tick.Tick.{Tick}
use Rattle.kob_inbox.specs.declared.tick.Tick.TheVariants.{Committed, Idle, Placed, Repeat, Stopped, Took}
use Rattle.kob_connections.specs.declared.program_fault.ProgramFault.{ProgramFault}
use Rattle.kob_connections.specs.declared.program_fault.ProgramFault.TheVariants as program

-- so many ticks were made, after each of which the work goes on
pub record Stepped (t : Subscription) (count : ℕ) (before now : Point) : Type 0 where
  pub ticks : List Tick
  pub made : AreTicks (Ticks t) ticks before now
  pub on : WentOn ticks
  pub many : length ticks ≡ count

-- and so many of them found no record in a row, which is no round
pub record Taking (t : Subscription) (round count idle : ℕ) (before now : Point) : Type 0 where
  pub stepped : Stepped t count before now
  pub none : HasNoRound round stepped.ticks
  pub in_a_row : idle_ones stepped.ticks ≡ idle

pub no_step : (t : Subscription) (now : Point) → Stepped t 0 now now
no_step t now = record { ticks = []; made = refl; on = tt; many = refl }

pub one_step : (t own : Subscription) (count : ℕ) (before last now : Point) (tick : Tick) → own ≡ t
    → Stepped t count before last → taking_after tick ≡ None → Ticks own last now tick
    → Stepped t (count + 1) before now
one_step t own count before last now tick same was on made = record {
  ticks = tick ∷ was.ticks;
  made = (last, was.made, subst (λ u. Ticks u last now tick) same made);
  on = (on, was.on);
  many = longer (length was.ticks) count was.many;
}
  where
    longer : (n count : ℕ) → n ≡ count → suc n ≡ count + 1
    longer n count is = omega arith

-- a tick ends the work
pub ended : (t own : Subscription) (count most : ℕ) (before last now : Point) (tick : Tick) (fault : ProgramFault)
    → own ≡ t → (was : Stepped t count before last) → count < most → taking_after tick ≡ Some fault
    → Ticks own last now tick
    → AreTicks (Ticks t) (tick ∷ was.ticks) before now × EndsTaking most (tick ∷ was.ticks) fault
ended t own count most before last now tick fault same was within says made = (
  (last, was.made, subst (λ u. Ticks u last now tick) same made),
  (was.on, few (length was.ticks) count most was.many within, inl says),
)
  where
    few : (n count most : ℕ) → n ≡ count → count < most → suc n ≤ most
    few n count most is within = omega arith

-- all ticks were made
pub used_up : (ticks : List Tick) (count most : ℕ) → WentOn ticks → length ticks ≡ count → count ≡ most
    → EndsTaking most ticks program.Stopped
used_up [] count most on many all = (sym all ∙ sym many, refl)
used_up (tick ∷ ticks) count most on many all =
    let is : length (tick ∷ ticks) ≡ most = many ∙ all in (on.1, omega (arith, is), inr (on.0, is, refl))

-- ---- so many rows

-- so many ticks were made, before each of which the inbox had fewer rows, as it has now
pub record Filling (t : Subscription) (rows count : ℕ) (before now : Point) : Type 0 where
  pub ticks : List Tick
  pub made : AreTicks (TicksBelow rows t) ticks before now
  pub on : WentOn ticks
  pub many : length ticks ≡ count
  pub few : length now.state.inbox < rows

pub nothing_filled : (t : Subscription) (rows : ℕ) (now : Point) → length now.state.inbox < rows
    → Filling t rows 0 now now
nothing_filled t rows now few = record { ticks = []; made = refl; on = tt; many = refl; few = few }

-- a call that brought no record leaves the inbox
after_call : (t : Subscription) (old new : State) (moves : List Move) (request : Request) (heard : Option Reply)
    → IsCall moves request heard 0 → IsConsumerRun t old moves new → new ≡ after_answer t old request heard 0
after_call t old new moves request heard is run = (subst (λ ms. IsConsumerRun t old ms new) is run).1

after_none : (t : Subscription) (old new : State) (moves : List Move) → moves ≡ [] → IsConsumerRun t old moves new
    → new ≡ old
after_none t old new moves is run = subst (λ ms. IsConsumerRun t old ms new) is run

-- only a tick that took records in, or that ends the work, changes the inbox
after_tick : (t : Subscription) (old new : State) (tick : Tick) (moves : List Move) → IsReport t tick moves
    → IsConsumerRun t old moves new → taking_after tick ≡ None
    → (new.inbox ≡ old.inbox) ⊎ ((records : ℕ) × (tick ≡ Took records))
after_tick t old new (Placed position) moves (asked, committed, is, at) run on =
    inl (ap (λ (s : State). s.inbox) (after_call t old new moves _ _ is run))
after_tick t old new (Took records) moves report run on = inr (records, refl)
after_tick t old new Committed moves (asked, is) run on =
    inl (ap (λ (s : State). s.inbox) (after_call t old new moves _ _ is run))
after_tick t old new Idle moves (inl (none, is)) run on =
    inl (ap (λ (s : State). s.inbox) (after_none t old new moves is run))
after_tick t old new Idle moves (inr (asked, is)) run on =
    inl (ap (λ (s : State). s.inbox) (after_call t old new moves _ _ is run))
after_tick t old new Repeat moves (inl is) run on =
    inl (ap (λ (s : State). s.inbox) (after_none t old new moves is run))
after_tick t old new Repeat moves (inr (request, is)) run on =
    inl (ap (λ (s : State). s.inbox) (after_call t old new moves _ _ is run))
after_tick t old new (Stopped (Rejected (Denied code verdicts))) moves (rejected, (request, is)) run on =
    inl (ap (λ (s : State). s.inbox) (after_call t old new moves _ _ is run))
after_tick t old new (Stopped (Rejected (Refused code reason))) moves (rejected, (request, is)) run on =
    inl (ap (λ (s : State). s.inbox) (after_call t old new moves _ _ is run))
after_tick t old new (Stopped (Rejected (Done body))) moves report run on = absurd report.0
after_tick t old new (Stopped BadTopic) moves report run on = absurd report
after_tick t old new (Stopped (Memory refused)) moves report run on = absurd (cc)
after_tick t old new (Stopped Store) moves report run on = absurd (cc)

few_stay : (rows : ℕ) (old new : State) (tick : Tick)
    → (new.inbox ≡ old.inbox) ⊎ ((records : ℕ) × (tick ≡ Took records)) → length old.inbox < rows
    → ((records : ℕ) → tick ≡ Took records → length new.inbox < rows) → length new.inbox < rows
few_stay rows old new tick (inl same) few taken = subst (λ inbox. length inbox < rows) (sym same) few
few_stay rows old new tick (inr (records, is)) few taken = taken records is

-- one tick more, after which they are not enough
pub filled_more : (t own : Subscription) (rows count : ℕ) (before last now : Point) (tick : Tick) → own ≡ t
    → Filling t rows count before last → taking_after tick ≡ None → Ticks own last now tick
    → ((records : ℕ) → tick ≡ Took records → length now.state.inbox < rows)
    → Filling t rows (count + 1) before now
filled_more t own rows count before last now tick same was on made taken = record {
  ticks = tick ∷ was.ticks;
  made = (last, was.made, (was.few, subst (λ u. Ticks u last now tick) same made));
  on = (on, was.on);
  many = longer (length was.ticks) count was.many;
  few =
      few_stay rows last.state now.state tick
      (after_tick own last.state now.state tick made.moves made.answer made.run on) was.few taken;
}
  where
    longer : (n count : ℕ) → n ≡ count → suc n ≡ count + 1
    longer n count is = omega arith

-- one tick more, after which they were counted
filled_last : (t own : Subscription) (rows count most : ℕ) (before last now : Point) (tick : Tick)
    (P : List Tick → Type 0) → own ≡ t → Filling t rows count before last → taking_after tick ≡ None
    → Ticks own last now tick → count < most
    → ((ticks : List Tick) → WentOn ticks → length ticks ≤ most → P ticks)
    → (ticks : List Tick) × AreTicks (TicksBelow rows t) ticks before now × P ticks
filled_last t own rows count most before last now tick P same was on made within ends = (
  tick ∷ was.ticks,
  (last, was.made, (was.few, subst (λ u. Ticks u last now tick) same made)),
  ends (tick ∷ was.ticks) (on, was.on) (fewer (length was.ticks) count most was.many within),
)
  where
    fewer : (n count most : ℕ) → n ≡ count → count < most → suc n ≤ most
    fewer n count most is within = omega arith

-- they are enough
pub filled_enough : (t own : Subscription) (rows count most : ℕ) (before last now : Point) (tick : Tick) → own ≡ t
    → Filling t rows count before last → taking_after tick ≡ None → Ticks own last now tick → count < most
    → rows ≤ length now.state.inbox
    → (ticks : List Tick) × AreTicks (TicksBelow rows t) ticks before now
    × EndsTakingRows rows most ticks (length now.state.inbox) (Ok tt)
filled_enough t own rows count most before last now tick same was on made within enough =
    filled_last t own rows count most before last now tick _ same was on made within
    (λ ticks went few. (enough, went, few))

-- they could not be read
pub filled_unread : (t own : Subscription) (rows count most : ℕ) (before last now : Point) (tick : Tick)
    (fault : ProgramFault) → own ≡ t → Filling t rows count before last → taking_after tick ≡ None
    → Ticks own last now tick → count < most → fault ≡ program.Memory alloc_error
    → (ticks : List Tick) × AreTicks (TicksBelow rows t) ticks before now
    × EndsTakingRows rows most ticks (length now.state.inbox) (Err fault)
filled_unread t own rows count most before last now tick fault same was on made within memory =
    filled_last t own rows count most before last now tick _ same was on made within
    (λ ticks went few. inl (memory, went, few))

-- a tick ends the work
pub filling_failed : (t own : Subscription) (rows count most : ℕ) (before last now : Point) (fault : ProgramFault)
    → own ≡ t → Filling t rows count before last
    → (tick : Tick) × (taking_after tick ≡ Some fault) × Ticks own last now tick → count < most
    → (ticks : List Tick) × AreTicks (TicksBelow rows t) ticks before now
    × EndsTakingRows rows most ticks (length now.state.inbox) (Err fault)
filling_failed t own rows count most before last now fault same was (tick, says, made) within = (
  tick ∷ was.ticks,
  (last, was.made, (was.few, subst (λ u. Ticks u last now tick) same made)),
  inr
      ((was.on, fewer (length was.ticks) count most was.many within, inl says), λ went. absurd (none (sym says ∙ went.0))),
)
  where
    fewer : (n count most : ℕ) → n ≡ count → count < most → suc n ≤ most
    fewer n count most is within = omega arith

    none : Some fault ≡ None → ⊥
    none is = absurd (cc)

-- all ticks were made
pub filling_used_up : (t : Subscription) (rows count most : ℕ) (before now : Point) → Filling t rows count before now
    → count ≡ most
    → (ticks : List Tick) × AreTicks (TicksBelow rows t) ticks before now
    × EndsTakingRows rows most ticks (length now.state.inbox) (Err program.Stopped)
filling_used_up t rows count most before now was all =
    (was.ticks, was.made, inr (used_up was.ticks count most was.on was.many all, λ went. was.few))

-- no tick was made
pub filled_before : (t : Subscription) (rows most : ℕ) (now : Point) → rows ≤ length now.state.inbox
    → (ticks : List Tick) × AreTicks (TicksBelow rows t) ticks now now
    × EndsTakingRows rows most ticks (length now.state.inbox) (Ok tt)
filled_before t rows most now enough = ([], refl, (enough, tt, omega arith))

pub unread_before : (t : Subscription) (rows most : ℕ) (now : Point) (fault : ProgramFault)
    → fault ≡ program.Memory alloc_error
    → (ticks : List Tick) × AreTicks (TicksBelow rows t) ticks now now
    × EndsTakingRows rows most ticks (length now.state.inbox) (Err fault)
unread_before t rows most now fault memory = ([], refl, inl (memory, tt, omega arith))

-- ---- all records

pub nothing_yet : (t : Subscription) (round : ℕ) (now : Point) → Taking t round 0 0 now now
unfolding no_step
nothing_yet t round now = record { stepped = no_step t now; none = tt; in_a_row = refl }

pub one_more : (t own : Subscription) (round count idle next : ℕ) (before last now : Point) (tick : Tick) → own ≡ t
    → Taking t round count idle before last → taking_after tick ≡ None → Ticks own last now tick
    → next ≡ idle_after tick idle → next < round → Taking t round (count + 1) next before now
unfolding one_step
one_more t own round count idle next before last now tick same was on made is within = record {
  stepped = one_step t own count before last now tick same was.stepped on made;
  none = (was.none, subst (λ n. n < round) (sym row) within);
  in_a_row = row;
}
  where
    row : idle_after tick (idle_ones was.stepped.ticks) ≡ next
    row = ap (idle_after tick) was.in_a_row ∙ sym is

-- a round that found nothing
round_ends : (tick : Tick) (round idle : ℕ) → idle < round → round ≤ idle_after tick idle → idle_after tick idle ≡ round
round_ends (Placed position) round idle within past = absurd (omega arith)
round_ends (Took records) round idle within past = absurd (omega arith)
round_ends Committed round idle within past = absurd (omega arith)
round_ends Idle round idle within past = omega arith
round_ends Repeat round idle within past = absurd (omega arith)
round_ends (Stopped reason) round idle within past = absurd (omega arith)

pub all_taken : (t own : Subscription) (partitions round count most idle next : ℕ) (before last now : Point) (tick : Tick)
    → own ≡ t → Taking t round count idle before last → taking_after tick ≡ None → Ticks own last now tick
    → next ≡ idle_after tick idle → idle < round → round ≤ next → count < most → partitions ≡ round
    → (ticks : List Tick) × AreTicks (Ticks t) ticks before now × EndsTakingAll partitions most ticks (Ok tt)
unfolding one_step
all_taken t own partitions round count most idle next before last now tick same was on made is within past few of =
    let steps = one_step t own count before last now tick same was.stepped on made in
    let row : idle_ones (tick ∷ was.stepped.ticks) ≡ round =
    ap (idle_after tick) was.in_a_row ∙ round_ends tick round idle within (subst (λ n. round ≤ n) is past) in (
      steps.ticks,
      steps.made,
      subst (λ r. EndsTakingAll r most steps.ticks (Ok tt)) (sym of)
          (was.none, row, was.stepped.on, enough (length steps.ticks) count most steps.many few),
    )
  where
    enough : (n count most : ℕ) → n ≡ count + 1 → count < most → n ≤ most
    enough n count most is few = omega arith

-- a tick that ends the work makes no round
not_idle : (tick : Tick) (fault : ProgramFault) (idle round : ℕ) → taking_after tick ≡ Some fault → 0 < round
    → idle_after tick idle < round
not_idle (Placed position) fault idle round says some = some
not_idle (Took records) fault idle round says some = some
not_idle Committed fault idle round says some = some
not_idle Idle fault idle round says some = absurd (cc)
not_idle Repeat fault idle round says some = some
not_idle (Stopped reason) fault idle round says some = some

pub taking_failed : (t own : Subscription) (partitions round count most idle : ℕ) (before last now : Point)
    (fault : ProgramFault) → own ≡ t → Taking t round count idle before last
    → (tick : Tick) × (taking_after tick ≡ Some fault) × Ticks own last now tick → idle < round → count < most
    → partitions ≡ round
    → (ticks : List Tick) × AreTicks (Ticks t) ticks before now × EndsTakingAll partitions most ticks (Err fault)
taking_failed t own partitions round count most idle before last now fault same was (tick, says, made) within few of =
    let end = ended t own count most before last now tick fault same was.stepped few says made in (
      tick ∷ was.stepped.ticks,
      end.0,
      subst (λ r. EndsTakingAll r most (tick ∷ was.stepped.ticks) (Err fault)) (sym of)
          ((was.none, not_idle tick fault (idle_ones was.stepped.ticks) round says (some idle round within)), end.1),
    )
  where
    some : (idle round : ℕ) → idle < round → 0 < round
    some idle round within = omega arith

pub taking_used_up : (t : Subscription) (partitions round count most idle : ℕ) (before now : Point)
    → Taking t round count idle before now → count ≡ most → partitions ≡ round
    → (ticks : List Tick) × AreTicks (Ticks t) ticks before now × EndsTakingAll partitions most ticks (Err program.Stopped)
taking_used_up t partitions round count most idle before now was all of = (
  was.stepped.ticks,
  was.stepped.made,
  subst (λ r. EndsTakingAll r most was.stepped.ticks (Err program.Stopped)) (sym of)
      (was.none, used_up was.stepped.ticks count most was.stepped.on was.stepped.many all),
)

-- a round has as many turns as partitions, or one where there is none
pub round_is : (assigned partitions round : ℕ) → round ≡ max assigned 1 → assigned ≡ partitions → max 1 partitions ≡ round
round_is assigned partitions round is same = grind (arith, nat_tests)

pub some_round : (assigned round : ℕ) → round ≡ max assigned 1 → 0 < round
some_round assigned round is = grind (arith, nat_tests)
