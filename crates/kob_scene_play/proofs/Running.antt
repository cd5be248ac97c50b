-- A run of ticks, one tick after another.
use Rattle.kob_scene_play.proofs.Words.{AllGoOn, AreTicks, BeginsRun, Bool, Err, Ok, OnErr, Result, subst, EndsRun, IsPrinted, IsServiceTick, List, Record, Service, Tells, [], ap, append-nil, append_assoc, arith, false, inl, inr, length, refl, service_goes_on, service_line, sym, true, ℕ, ◌++◌, ◌+◌, ◌∙◌, ◌∷◌, ◌≡◌}
use Rattle.kob_router.specs.declared.line.Loss.TheVariants as losses

-- one text behind another
pub joined : (held mid now one two : List ℕ) → mid ≡ held ++ one → now ≡ mid ++ two → now ≡ held ++ (one ++ two)
joined held mid now one two first second = second ∙ ap (λ xs. xs ++ two) first ∙ append_assoc held one two

-- what holds holds of an error
pub of_error : {T E P : Type 0} (result : Result T E) → P → OnErr result P
of_error (Ok done) it = tt
of_error (Err fault) it = it

module _ {Worker Answer : Type 0} (IsTick : Worker → Worker → Record → Record → Answer → Type 0) (line : Record → Record → Answer → List ℕ)
    (goes_on : List Answer → Bool) where
  -- so many ticks after which the run goes on, and what they print
  pub record HasRun (old now : Worker) (before after : Record) (told then_told : ℕ) (held then_held : List ℕ) (count : ℕ) : Type 0 where
    pub ticks : List Answer
    pub text : List ℕ
    pub all_go_on : AllGoOn goes_on ticks
    pub counted : length ticks ≡ count
    pub are : AreTicks IsTick line ticks old now before after told then_told text
    pub printed : then_held ≡ held ++ text

  -- a tick, and its line
  abbrev pub Ticked : Answer → Worker → Worker → Record → Record → ℕ → ℕ → List ℕ → Type 0
  Ticked tick old new before after told then_told text =
      IsTick old new before after tick × IsPrinted (line before after tick) told then_told text

  -- a whole run
  abbrev pub Ran : Worker → Worker → Record → Record → ℕ → ℕ → List ℕ → Type 0
  Ran old new before after told then_told text =
      (ticks : List Answer) × AreTicks IsTick line ticks old new before after told then_told text × EndsRun goes_on ticks

  -- none at first
  unfoldable pub none_at_first : (worker : Worker) (r : Record) (told : ℕ) (held : List ℕ)
      → HasRun worker worker r r told told held held 0
  none_at_first worker r told held = record {
    ticks = [];
    text = [];
    all_go_on = tt;
    counted = refl;
    are = (refl, refl, refl, refl);
    printed = sym (append-nil held);
  }

  module _ (old mid now : Worker) (before between after : Record) (told mid_told then_told : ℕ) (held mid_held then_held : List ℕ)
      (count : ℕ) (run : HasRun old mid before between told mid_told held mid_held count) (tick : Answer)
      (ticked : Tells (Ticked tick mid now between after mid_told then_told) mid_held then_held) where
    -- one more after which it goes on
    unfoldable pub one_tick_more : goes_on (tick ∷ run.ticks) ≡ true
        → HasRun old now before after told then_told held then_held (count + 1)
    one_tick_more so = record {
      ticks = tick ∷ run.ticks;
      text = run.text ++ ticked.0;
      all_go_on = (so, run.all_go_on);
      counted = let e = run.counted in omega arith;
      are = (mid, between, mid_told, run.text, ticked.0, run.are, ticked.1.0, ticked.1.1, refl);
      printed = joined held mid_held then_held run.text ticked.0 run.printed ticked.2;
    }

    -- one after which it does not go on ends the run
    pub last_tick : goes_on (tick ∷ run.ticks) ≡ false
        → Tells (Ran old now before after told then_told) held then_held
    last_tick so = (
      run.text ++ ticked.0,
      (
        tick ∷ run.ticks,
        (mid, between, mid_told, run.text, ticked.0, run.are, ticked.1.0, ticked.1.1, refl),
        (run.all_go_on, inl so),
      ),
      joined held mid_held then_held run.text ticked.0 run.printed ticked.2,
    )

  -- these ticks are the beginning of a run that a fault stopped
  pub run_begins : (old now : Worker) (before after : Record) (told mid_told then_told : ℕ) (held mid_held then_held : List ℕ)
      (count : ℕ) → HasRun old now before after told mid_told held mid_held count → then_told ≡ mid_told
      → then_held ≡ mid_held → Tells (BeginsRun IsTick line goes_on old before told then_told) held then_held
  run_begins old now before after told mid_told then_told held mid_held then_held count run same_told same = (
    run.text,
    (
      run.ticks,
      now,
      after,
      run.all_go_on,
      subst (λ n. AreTicks IsTick line run.ticks old now before after told n run.text) (sym same_told) run.are,
    ),
    same ∙ run.printed,
  )

  ended : (ticks : List Answer) → AllGoOn goes_on ticks → length ticks ≡ 1000000 → EndsRun goes_on ticks
  ended [] all counted = omega arith
  ended (last ∷ before) (on, all) counted = (all, inr (omega arith))

  -- and so does the 1,000,000th
  pub spent : (old now : Worker) (before after : Record) (told then_told : ℕ) (held then_held : List ℕ)
      → HasRun old now before after told then_told held then_held 1000000
      → Tells (Ran old now before after told then_told) held then_held
  spent old now before after told then_told held then_held run =
      (run.text, (run.ticks, run.are, ended run.ticks run.all_go_on run.counted), run.printed)

-- so many ticks of a service
abbrev pub HasServed : Service → Service → Record → Record → ℕ → ℕ → List ℕ → List ℕ → ℕ → Type 0
HasServed = HasRun (IsServiceTick losses.None) service_line service_goes_on
