-- What is answered about what is expected.
use Rattle.kob_scene_play.proofs.Words.{Bool, Entry, List, PlayedConsumer, PlayedService, Some, Stage, Tells, one_more, refl, slice_get, ℕ, ◌++◌, ◌≡◌}
use Rattle.kob_scene_play.specs.Expectations.{IsExpected, IsMet, expected_text, unmet_after}
use Rattle.kob_scene_text.specs.declared.scene.Expected.{Expected}
use Rattle.std.specs.Fmt.{decimal}
use Rattle.kob_scene_play.specs.declared.stage.Unmet.{Unmet}

-- of the service and the consumer at these places
pub expected : (service consumer : ℕ) (what : Expected) (line : ℕ) (stage : Stage) (unmet : Unmet) (is_met : Bool) (sender : PlayedService)
    (taker : PlayedConsumer) (told : ℕ) (held now : List ℕ) (journal : List Entry)
    → slice_get stage.services.items service ≡ Some sender → slice_get stage.consumers.items consumer ≡ Some taker
    → journal ≡ stage.recorded.journal → IsMet what sender.service taker.consumer journal is_met
    → unmet ≡ unmet_after stage.unmet is_met line → now ≡ held ++ (decimal (one_more told) ++ expected_text is_met)
    → Tells (IsExpected service consumer what line stage unmet told) held now
expected service consumer what line stage unmet is_met sender taker told held now journal first second is_journal is noted printed = (
  decimal (one_more told) ++ expected_text is_met,
  (sender, taker, is_met, first, second, rw is_journal at is, noted, refl),
  printed,
)
