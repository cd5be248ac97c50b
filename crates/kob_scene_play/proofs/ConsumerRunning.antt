-- A consumer's run of ticks, one tick after another.
use Rattle.kob_scene_play.proofs.Words.{BeginsConsumer, BeginsRun, Consumer, IsConsumerStep, IsConsumerTick, IsReadOnce, Left, List, None, Option, Record, Some, Tells, ap, consumer_goes_on, consumer_line, idle_in_row, idle_with, is_some, left_after, length, option_and_then, refl, subst, sym, ℕ, ◌+◌, ◌∙◌, ◌∷◌, ◌≡◌}
use Rattle.kob_scene_play.proofs.Running.{HasRun}
use Rattle.kob_scene_play.proofs.Running as running
use Rattle.kob_router.specs.declared.line.Loss.TheVariants as losses
use Rattle.kob_scene_text.specs.declared.scene.ConsumerStep.TheVariants as consumer_steps

-- so many ticks of a consumer with so many partitions, and how many of the last ones were idle in a row
pub record HasTaken (partitions : ℕ) (old now : Consumer) (before after : Record) (told then_told : ℕ)
    (held then_held : List ℕ) (count idle : ℕ) : Type 0 where
  pub run : HasRun (IsConsumerTick losses.None) consumer_line (consumer_goes_on partitions) old now before after
      told then_told held then_held count
  pub in_row : idle_in_row partitions run.ticks ≡ Some idle

-- none at first
pub none_at_first : (partitions : ℕ) (consumer : Consumer) (r : Record) (told : ℕ) (held : List ℕ)
    → HasTaken partitions consumer consumer r r told told held held 0 0
unfolding running.none_at_first
none_at_first partitions consumer r told held = record {
  run = running.none_at_first (IsConsumerTick losses.None) consumer_line (consumer_goes_on partitions) consumer r told held;
  in_row = refl;
}

module _ (partitions : ℕ) (old mid now : Consumer) (before between after : Record) (told mid_told then_told : ℕ)
    (held mid_held then_held : List ℕ) (count idle : ℕ) (left : Left) (more : Option ℕ)
    (taken : HasTaken partitions old mid before between told mid_told held mid_held count idle)
    (ticked : IsReadOnce losses.None left mid now between after mid_told then_told mid_held then_held)
    (given : more ≡ idle_with partitions left idle) where
  next : idle_in_row partitions (ticked.0 ∷ taken.run.ticks) ≡ more
  next =
      ap (option_and_then (idle_with partitions (left_after ticked.0))) taken.in_row
      ∙ ap (λ (l : Left). idle_with partitions l idle) (sym ticked.1) ∙ sym given

  -- one more
  pub one_tick_more : (in_row : ℕ) → more ≡ Some in_row
      → HasTaken partitions old now before after told then_told held then_held (count + 1) in_row
  unfolding running.one_tick_more
  one_tick_more in_row so = record {
    run =
        running.one_tick_more (IsConsumerTick losses.None) consumer_line (consumer_goes_on partitions) old mid now before
        between after told mid_told then_told held mid_held then_held count taken.run ticked.0 ticked.2
        (ap is_some (next ∙ so));
    in_row = next ∙ so;
  }

  -- the last one
  pub last_tick : more ≡ None → partitions ≡ length old.fetcher.subscription.assignment
      → Tells (IsConsumerStep consumer_steps.Run old now before after told then_told) held then_held
  last_tick so all =
      subst (λ n. Tells (running.Ran (IsConsumerTick losses.None) consumer_line (consumer_goes_on n) old now before after told
      then_told) held then_held) all
      (running.last_tick (IsConsumerTick losses.None) consumer_line (consumer_goes_on partitions) old mid now before
      between after told mid_told then_told held mid_held then_held count taken.run ticked.0 ticked.2
      (ap is_some (next ∙ so)))

-- these ticks are the beginning of a run that a fault stopped
pub run_begins : (partitions : ℕ) (old now : Consumer) (before after : Record) (told mid_told then_told : ℕ)
    (held mid_held then_held : List ℕ) (count idle : ℕ)
    → HasTaken partitions old now before after told mid_told held mid_held count idle → then_told ≡ mid_told
    → then_held ≡ mid_held → partitions ≡ length old.fetcher.subscription.assignment
    → Tells (BeginsConsumer old before told then_told) held then_held
run_begins partitions old now before after told mid_told then_told held mid_held then_held count idle taken same_told same all =
    subst (λ n. Tells (BeginsRun (IsConsumerTick losses.None) consumer_line (consumer_goes_on n) old before told then_told)
    held then_held) all
    (running.run_begins (IsConsumerTick losses.None) consumer_line (consumer_goes_on partitions) old now before after told
    mid_told then_told held mid_held then_held count taken.run same_told same)

-- and the 1,000,000th
pub spent : (partitions : ℕ) (old now : Consumer) (before after : Record) (told then_told : ℕ) (held then_held : List ℕ)
    (idle : ℕ) → HasTaken partitions old now before after told then_told held then_held 1000000 idle
    → partitions ≡ length old.fetcher.subscription.assignment
    → Tells (IsConsumerStep consumer_steps.Run old now before after told then_told) held then_held
spent partitions old now before after told then_told held then_held idle taken all =
    subst (λ n. Tells (running.Ran (IsConsumerTick losses.None) consumer_line (consumer_goes_on n) old now before after told
    then_told) held then_held) all
    (running.spent (IsConsumerTick losses.None) consumer_line (consumer_goes_on partitions) old now before after told
    then_told held then_held taken.run)
