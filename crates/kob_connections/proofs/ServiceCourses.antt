-- A service's run goes on.
use Rattle.kob_connections.proofs.Words.{AllByRecursion, Call, Change, Contents, Dispatching, Hand, HasServiceRun, IsOfTick, IsOneTick, IsRecordable, IsRouterRun, List, None, Option, OutboxEvent, Recorded, Some, State, Swept, Took, [], after_acknowledgement, after_record, append-nil, arith, calls_append, empty, events_of, false, nat_tests, next_seq, refl, run_append, stored_event, sym, true, ◌++◌, ◌∙◌, ◌∷◌, ◌≡◌}
use Rattle.kob_outbox.specs.Contents.{Event}
use Rattle.kob_router.specs.Run.{Move, after, calls_of, start}
use Rattle.kob_router.specs.Run.Move.{Called, Restarted}
use Rattle.kob_router.specs.Tick.{Point, Ticks}
use Rattle.kob_router.specs.declared.tick.Tick.{Tick}

-- an acknowledgement records nothing
same_ids : (s : State) (hand : Option Hand) → (after_acknowledgement s hand).outbox.ids ≡ s.outbox.ids
same_ids s None = refl
same_ids s (Some hand) = refl

-- the row that is recorded last is the last, under the next number
one_more_row : (route : Dispatching) (ms : List Move) (c : Contents) (old new : State) (change : Change)
    (event : OutboxEvent) → c.ids ≡ old.outbox.ids → IsRouterRun route old ms new
    → events_of c (ms ++ Recorded change event ∷ []) ≡ events_of c ms ++ stored_event (next_seq new.outbox) event ∷ []
one_more_row route [] c old new change event same run = grind (arith, nat_tests)
one_more_row route (Recorded changed recorded ∷ ms) c old new change event same run =
    grind (
      arith,
      nat_tests,
      one_more_row route ms (after_record c changed recorded) (after old (Recorded changed recorded)) new change event,
    )
one_more_row route (Swept ∷ ms) c old new change event same run =
    one_more_row route ms c (after old Swept) new change event same run.1
one_more_row route (Restarted ∷ ms) c old new change event same run =
    one_more_row route ms c (after old Restarted) new change event same run.1
one_more_row route (Took hand ∷ ms) c old new change event same run =
    one_more_row route ms c (after old (Took hand)) new change event same run.1
one_more_row route (Called call true ∷ ms) c old new change event same run =
    one_more_row route ms c (after old (Called call true)) new change event (same ∙ sym (same_ids old old.hand)) run.1
one_more_row route (Called call false ∷ ms) c old new change event same run =
    one_more_row route ms c (after old (Called call false)) new change event same run.1

-- moves that record nothing add no row
no_more_rows : (c : Contents) (ms ns : List Move) → ((d : Contents) → events_of d ns ≡ [])
    → events_of c (ms ++ ns) ≡ events_of c ms
no_more_rows c [] ns none = none c
no_more_rows c (Recorded change event ∷ ms) ns none =
    grind (arith, nat_tests, no_more_rows (after_record c change event) ms ns none)
no_more_rows c (Swept ∷ ms) ns none = no_more_rows c ms ns none
no_more_rows c (Restarted ∷ ms) ns none = no_more_rows c ms ns none
no_more_rows c (Took hand ∷ ms) ns none = no_more_rows c ms ns none
no_more_rows c (Called call marks ∷ ms) ns none = no_more_rows c ms ns none

ticks_record_nothing : (ns : List Move) → AllByRecursion IsOfTick ns → (d : Contents) → events_of d ns ≡ []
ticks_record_nothing [] own d = refl
ticks_record_nothing (Took hand ∷ ns) own d = ticks_record_nothing ns own.1 d
ticks_record_nothing (Called call marks ∷ ns) own d = ticks_record_nothing ns own.1 d
ticks_record_nothing (Recorded change event ∷ ns) own d = absurd own.0
ticks_record_nothing (Swept ∷ ns) own d = absurd own.0
ticks_record_nothing (Restarted ∷ ns) own d = absurd own.0

-- a run goes on with moves that record nothing
on : (route : Dispatching) (old new : State) (calls now : List Call) (rows : List Event) (ns : List Move)
    → HasServiceRun route old calls rows → IsRouterRun route old ns new → now ≡ calls ++ calls_of ns
    → ((d : Contents) → events_of d ns ≡ []) → HasServiceRun route new now rows
on route old new calls now rows ns was run told none =
    grind (arith, nat_tests, run_append, calls_append, no_more_rows)

pub begins : (route : Dispatching) → HasServiceRun route start [] []
begins route = record { moves = []; run = refl; made = refl; recorded = refl }

pub ticks : (route : Dispatching) (old new : Point) (tick : Tick) (rows : List Event)
    → HasServiceRun route old.state old.calls rows → Ticks IsOneTick route old new tick
    → HasServiceRun route new.state new.calls rows
ticks route old new tick rows was done = grind (arith, nat_tests, on, ticks_record_nothing)

pub records : (route : Dispatching) (old : State) (calls : List Call) (rows : List Event) (change : Change)
    (event : OutboxEvent) → HasServiceRun route old calls rows → IsRecordable old.outbox change event
    → HasServiceRun route (after old (Recorded change event)) calls (rows ++ stored_event (next_seq old.outbox) event ∷ [])
records route old calls rows change event was may =
    grind (
      arith,
      nat_tests,
      run_append route was.moves (Recorded change event ∷ []) start old (after old (Recorded change event)) was.run (
        may,
        refl,
      ),
      append-nil (calls_of was.moves),
      calls_append was.moves (Recorded change event ∷ []),
      one_more_row route was.moves empty start old change event refl was.run,
    )

pub sweeps : (route : Dispatching) (old : State) (calls : List Call) (rows : List Event)
    → HasServiceRun route old calls rows → HasServiceRun route (after old Swept) calls rows
sweeps route old calls rows was =
    on route old (after old Swept) calls calls rows (Swept ∷ []) was (tt, refl) (sym (append-nil calls)) (λ d. refl)

pub restarts : (route : Dispatching) (old : State) (calls : List Call) (rows : List Event)
    → HasServiceRun route old calls rows → HasServiceRun route (after old Restarted) calls rows
restarts route old calls rows was =
    on route old (after old Restarted) calls calls rows (Restarted ∷ []) was (tt, refl) (sym (append-nil calls))
    (λ d. refl)

pub joined : (route : Dispatching) (one two : List Move) (old middle new : State) → IsRouterRun route old one middle
    → IsRouterRun route middle two new → IsRouterRun route old (one ++ two) new
joined route one two old middle new first next = run_append route one two old middle new first next
