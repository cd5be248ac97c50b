-- The rows that a plan's steps record, and rows that are read by pages.
use Rattle.kob_pipeline.proofs.Words.{AllByRecursion, Called, Contents, Dispatching, Event, IsOfTick, IsPrefixOf, IsRising, IsRouterRun, IsServiceStep, List, Move, None, Option, Served, ServiceStep, Some, State, Steps, Took, [], after, ap, append-nil, append_assoc, arith, drop, events_of, first_after, later_than, le-ltb, length, length-map, lt-ltb, ltb-true, map, map-append, nat_lt, nat_tests, option_map, refl, rows_from, slice_get, slice_get-get_or, slice_get-map, slice_get_within, stored_row, subst, suc, sym, take, take-append-drop, unwrap_or, zero, ℕ, ◌++◌, ◌-◌, ◌<◌, ◌∙◌, ◌∷◌, ◌≡◌}
use Rattle.kob_delivery.proofs.Rows.{events_behind}
use Rattle.kob_delivery.proofs.Lists.{all_weaker, filter_all, all_at, filter_twice, get_front, same_some}
use Rattle.kob_outbox.specs.declared.event.Row.{Row}
use Rattle.kob_outbox.proofs.statements.Words.{ascending-filter}
use Rattle.kob_pipeline.specs.declared.plan.ServiceStep.TheVariants as steps

-- ---- the rows that a run records are those of the plan's steps that the outbox accepts

-- the rows of a run and of what comes after it
rows_split : (route : Dispatching) (s mid : State) (these those : List Move) → IsRouterRun route s these mid
    → events_of s.outbox (these ++ those) ≡ events_of s.outbox these ++ events_of mid.outbox those
rows_split route s mid [] those run = ap (λ (t : State). events_of t.outbox those) (sym run)
rows_split route s mid (move ∷ these) those run = grind (arith, nat_tests, rows_split route (after s move) mid these those run.1, events_behind, append_assoc)

-- a tick records nothing
by_tick : (route : Dispatching) (c : Contents) (s new : State) (moves : List Move) → AllByRecursion IsOfTick moves
    → IsRouterRun route s moves new → (events_of c moves ≡ []) × (new.outbox.ids ≡ s.outbox.ids)
by_tick route c s new [] own run = (refl, ap (λ (t : State). t.outbox.ids) run)
by_tick route c s new (Took hand ∷ moves) own run = by_tick route c (after s (Took hand)) new moves own.1 run.1
by_tick route c s new (Called call marks ∷ moves) own run = grind (arith, nat_tests, by_tick route c (after s (Called call marks)) new moves own.1 run.1)
by_tick route c s new (_ ∷ moves) own run = absurd own.0

module _ (route : Dispatching) where
  -- one step, and the rows of the steps after it
  of_step : (s mid : State) (step : ServiceStep) (more : List ServiceStep) (these : List Move) (served : List Served)
      → IsServiceStep route s step these served mid
      → events_of s.outbox these ++ rows_from mid.outbox.ids more ≡ rows_from s.outbox.ids (step ∷ more)
  of_step s mid (steps.Record change event) more these served does = grind (arith, nat_tests)
  of_step s mid (steps.Tick loss) more these served does = grind (arith, nat_tests, by_tick)
  of_step s mid steps.Restart more these served does = grind (arith, nat_tests)
  of_step s mid steps.Sweep more these served does = grind (arith, nat_tests)

  -- the moves of a service's steps record the rows of its plan
  pub rows_of_steps : (s new : State) (plan : List ServiceStep) (moves : List Move) (served : List Served)
      → Steps (IsServiceStep route) s plan moves served new
      → events_of s.outbox moves ≡ rows_from s.outbox.ids plan
  rows_of_steps s new [] moves served all = ap (events_of s.outbox) all.0
  rows_of_steps s new (step ∷ plan) moves served (mid, these, those, first, rest, does, later, made, all) = cc (rows_split route s mid these those does.run, rows_of_steps mid new plan those rest later, of_step s mid step plan these first does)

-- ---- what reads by pages give

-- behind an element that stands last are the later ones
behind_last : (xs rest : List Event) (i : ℕ) (e : Event) → slice_get xs i ≡ Some e → length xs ≡ suc i
    → IsRising (xs ++ rest) → later_than e.seq (xs ++ rest) ≡ rest
behind_last [] rest i e last long up = absurd (omega (arith, long))
behind_last (x ∷ []) rest zero e last long up = grind (arith, nat_tests, same_some, le-ltb, filter_all, all_weaker, lt-ltb)
behind_last (x ∷ y ∷ xs) rest zero e last long up = absurd (omega (arith, long))
behind_last (x ∷ xs) rest (suc i) e last long up =
    let later : x.seq < e.seq =
    all_at (λ (y : Event). x.seq < y.seq) (xs ++ rest) i e (get_front xs rest i e last) up.0 in
    rw (le-ltb e.seq x.seq (omega (arith, later)))
    (behind_last xs rest i e last (omega (arith, long)) up.1)

-- the rows after the last that was read are those that were not read
unread_after : (events rest : List Event) (rows : List Row) (i : ℕ) (row : Row) → IsRising events
    → later_than 0 events ≡ map stored_row rows ++ rest → slice_get rows i ≡ Some row → length rows ≡ suc i
    → later_than row.seq events ≡ rest
unread_after events rest rows i row up split last long =
    sym (filter_twice (λ (e : Event). nat_lt row.seq e.seq) (λ (e : Event). nat_lt 0 e.seq)
    (λ e after. lt-ltb 0 e.seq (let more = ltb-true row.seq e.seq after in omega (arith, more))) events)
    ∙ ap (later_than row.seq) split
    ∙ behind_last (map stored_row rows) rest i (stored_row row)
    (slice_get-map stored_row rows i ∙ ap (option_map stored_row) last) (length-map rows stored_row ∙ long)
    (subst IsRising split
    (ascending-filter (λ (a b : Event). a.seq < b.seq) (λ (e : Event). nat_lt 0 e.seq) events up))

-- a page that was read stands between the rows before it and those after it
pub page_between : (all rest : List Event) (rows page : List Row) (limit : ℕ) → all ≡ map stored_row rows ++ rest
    → map stored_row page ≡ take limit rest → all ≡ map stored_row (rows ++ page) ++ drop limit rest
page_between all rest rows page limit split read = cc (take-append-drop limit rest, append_assoc (map stored_row rows) (map stored_row page) (drop limit rest), map-append stored_row rows page)

-- an empty page is the last
pub none_unread : (rest : List Event) (page : List Row) (limit : ℕ) → map stored_row page ≡ take (suc limit) rest
    → length page ≡ 0 → rest ≡ []
none_unread rest page limit read none = grind (arith, nat_tests, length-map)

-- a list without a last element is empty
pub none_last : (rows : List Row) → slice_get rows (length rows - 1) ≡ None → rows ≡ []
none_last [] none = refl
none_last (row ∷ rows) none = cc (slice_get-get_or (row ∷ rows) (length (row ∷ rows) - 1) row (omega arith))

-- the number of a row, and 0 of none
abbrev pub number_of : Option Row → ℕ
number_of row = unwrap_or (option_map (λ (r : Row). r.seq) row) 0

unread : (events rest : List Event) (rows : List Row) (last : Option Row) → IsRising events
    → later_than 0 events ≡ map stored_row rows ++ rest → slice_get rows (length rows - 1) ≡ last
    → later_than (number_of last) events ≡ rest
unread events rest rows last up split is = grind (arith, nat_tests, none_last, slice_get_within, unread_after)

-- a page after the last row that was read goes on where it ended
pub page_read : (events : List Event) (rows page : List Row) → IsRising events
    → IsPrefixOf (map stored_row rows) (later_than 0 events)
    → map stored_row page ≡ first_after (number_of (slice_get rows (length rows - 1))) 1000 events
    → IsPrefixOf (map stored_row (rows ++ page)) (later_than 0 events)
    × (page ≡ [] → map stored_row rows ≡ later_than 0 events)
page_read events rows page up (rest, split) read =
    let left : map stored_row page ≡ take 1000 rest =
    read ∙ ap (take 1000) (unread events rest rows (slice_get rows (length rows - 1)) up (sym split) refl) in (
      (drop 1000 rest, sym (page_between (later_than 0 events) rest rows page 1000 (sym split) left)),
      λ none.
          sym (append-nil (map stored_row rows))
          ∙ ap (λ es. map stored_row rows ++ es) (sym (none_unread rest page 999 left (ap length none))) ∙ split,
    )

-- what is no column is none
pub fits_unless : {A : Type 0} (found : Option A) → ((x : A) → found ≡ Some x → ⊥) → found ≡ None
fits_unless None never = refl
fits_unless (Some x) never = absurd (never x refl)
