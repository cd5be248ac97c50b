-- What is answered about where events are.
use Rattle.kob_scene_play.proofs.Words.{Consumer, Entry, IsChecked, IsFound, List, PlayedConsumer, PlayedService, Service, Some, Stage, Tells, ap, check_text, one_more, refl, slice_get, ℕ, ◌++◌, ◌∙◌, ◌≡◌}
use Rattle.kob_delivery_check.specs.declared.cause.LostEvent.{LostEvent}
use Rattle.kob_delivery_check.specs.declared.fate.Fate.{Fate}
use Rattle.kob_delivery_check.specs.declared.printed.Found.{Found}
use Rattle.kob_outbox.specs.declared.event.OutboxEvent.{OutboxEvent}
use Rattle.kob_scene_play.specs.Checks.{AreLosses, unrecorded_by}

-- the losses of equals
pub same_losses : (from service : Service) (to consumer : Consumer) (journal : List Entry) (given fates : List Fate)
    (losses : List LostEvent) → from ≡ service → to ≡ consumer → given ≡ fates → AreLosses from to journal given losses
    → AreLosses service consumer journal fates losses
same_losses from service to consumer journal given fates losses is_from is_to is_given are =
    rw is_from at (rw is_to at (rw is_given at are))

-- of the service and the consumer at these places, where what was printed is of their equals
pub checked : (service consumer : ℕ) (stage : Stage) (sender : PlayedService) (taker : PlayedConsumer) (found : Found)
    (told : ℕ) (held now : List ℕ) (journal : List Entry) (from : Service) (to : Consumer) (unrecorded : List OutboxEvent)
    → slice_get stage.services.items service ≡ Some sender → slice_get stage.consumers.items consumer ≡ Some taker
    → journal ≡ stage.recorded.journal → from ≡ sender.service → to ≡ taker.consumer
    → IsFound sender.service taker.consumer journal found → unrecorded ≡ unrecorded_by from
    → now ≡ held ++ check_text (one_more told) journal from.recorded unrecorded found to.fetcher.subscription.assignment
    → Tells (IsChecked service consumer stage told) held now
checked service consumer stage sender taker found told held now journal from to unrecorded first second is_journal is_from
    is_to is is_unrecorded printed =
    let text = λ (j : List Entry) (s : Service) (t : Consumer). check_text (one_more told) j s.recorded (unrecorded_by s)
    found t.fetcher.subscription.assignment in
    let stood = stage.recorded.journal in (
      text stood sender.service taker.consumer,
      (sender, taker, first, second, (found, rw is_journal at is, refl)),
      printed
          ∙ ap (λ events. held ++ check_text (one_more told) journal from.recorded events found
          to.fetcher.subscription.assignment) is_unrecorded
          ∙ ap (λ (j : List Entry). held ++ text j from to) is_journal
          ∙ ap (λ (s : Service). held ++ text stood s to) is_from
          ∙ ap (λ (t : Consumer). held ++ text stood sender.service t) is_to,
    )
