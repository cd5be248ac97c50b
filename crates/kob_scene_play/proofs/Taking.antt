-- What consumers take in that are variants.
use Rattle.kob_scene_play.proofs.Words.{List, Some, [], ap, arith, enumerate_from, length, map, map-append, sym, ℕ, ◌++◌, ◌+◌, ◌∙◌, ◌∷◌, ◌≡◌}
use Rattle.kob_scene_play.proofs.Listed.{enumerate_behind}
use Rattle.std.proofs.lemmas.List.{length-map}
use Rattle.std.proofs.lemmas.Bool.Decides.{nat_tests}
use Rattle.kob_inbox.specs.Contents.{Intake, placed_intake}
use Rattle.kob_inbox.specs.Run.{State, after_answer}
use Rattle.kob_inbox.specs.declared.fetcher.Subscription.{Subscription}
use Rattle.kob_inbox.specs.Tick.{Hears}
use Rattle.kob_inbox.specs.declared.inbox_row.InboxRow.{InboxRow}
use Rattle.kob_inbox.specs.declared.tick.Tick.{Tick}
use Rattle.kob_inbox.specs.declared.tick.Tick.TheVariants.{Took}
use Rattle.kob_rights.specs.declared.on_groups.OffsetCommit.{OffsetCommit as CommitRequest}
use Rattle.kob_rights.specs.declared.reply.Body.TheVariants as bodies
use Rattle.kob_rights.specs.declared.reply.Reply.TheVariants.{Done}
use Rattle.kob_rights.specs.declared.request.Request.TheVariants.{Fetch, OffsetCommit}
use Rattle.kob_scene_play.specs.Takings.{row_intake, with_held}
use Rattle.kob_scene_play.specs.declared.holding.Held.{Held}

-- ---- rows that are numbered from 1 on

-- one row more
pub row_more : (rows then_rows : List InboxRow) (row : InboxRow) (place : ℕ) (event : Intake)
    → map placed_intake rows ≡ enumerate_from 1 (map row_intake rows) → then_rows ≡ rows ++ row ∷ []
    → placed_intake row ≡ (place, event) → place ≡ length rows + 1
    → map placed_intake then_rows ≡ enumerate_from 1 (map row_intake then_rows)
row_more rows then_rows row place event numbered more is next =
    let events = map row_intake rows in
    let placed : placed_intake row ≡ (1 + length events, row_intake row) =
    ap (λ n. (n, row_intake row)) (ap (λ p. p.0) is ∙ next ∙ last (length rows) ∙ ap (λ n. 1 + n) (sym (length-map rows row_intake))) in
    ap (map placed_intake) more ∙ map-append placed_intake rows (row ∷ [])
    ∙ ap (λ xs. xs ++ placed_intake row ∷ []) numbered ∙ ap (λ p. enumerate_from 1 events ++ p ∷ []) placed
    ∙ sym (enumerate_behind 1 events (row_intake row))
    ∙ ap (enumerate_from 1) (sym (map-append row_intake rows (row ∷ [])) ∙ ap (map row_intake) (sym more))
  where
    last : (n : ℕ) → n + 1 ≡ 1 + n
    last n = omega arith

-- and the events with it
pub event_more : (rows then_rows : List InboxRow) (row : InboxRow) (place : ℕ) (event : Intake)
    → then_rows ≡ rows ++ row ∷ [] → placed_intake row ≡ (place, event)
    → map row_intake then_rows ≡ map row_intake rows ++ event ∷ []
event_more rows then_rows row place event more is =
    ap (map row_intake) more ∙ map-append row_intake rows (row ∷ [])
    ∙ ap (λ e. map row_intake rows ++ e ∷ []) (ap (λ p. p.1) is)

-- ---- what the proved consumer makes of a body that was held

-- records that were all taken in
pub all_taken : (t : Subscription) (old new : State) (held : Held) (tick : Tick) (count : ℕ)
    → Hears t old new (Fetch held.asked) (bodies.Records held.records) tick → tick ≡ Took count
    → (count ≡ length held.records) × (new ≡ with_held t old held)
all_taken t old new held tick count hears is = grind (arith, nat_tests)

-- a commit
pub counted : (t : Subscription) (old new : State) (commit : CommitRequest) (tick : Tick)
    → Hears t old new (OffsetCommit commit) bodies.Committed tick
    → new ≡ after_answer t old (OffsetCommit commit) (Some (Done bodies.Committed)) 0
counted t old new commit tick hears = hears.changed
