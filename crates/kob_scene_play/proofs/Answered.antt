-- What is answered about the laws.
use Rattle.kob_scene_play.proofs.Words.{ArePrivate, Breach, Coverage, Entry, Err, IsAnswered, IsBreach, IsLaw, IsCoverage, List, MatchOption, Ok, OnOk, Option, PlayedConsumer, PlayedService, Result, Some, Stage, Subscription, Tells, ap, law_text, one_more, refl, slice_get, ℕ, ◌++◌, ◌∙◌, ◌≡◌}

-- the text of what was found
pub answered : (sender taker : ℕ) (subscription : Subscription) (journal : List Entry) (told number : ℕ)
    (breach : Option Breach) (coverage : Coverage) (held now : List ℕ) → number ≡ one_more told
    → MatchOption breach (ArePrivate sender taker subscription.group subscription.assignment journal)
    (IsBreach sender taker subscription.group subscription.assignment journal)
    → now ≡ held ++ law_text number subscription.assignment breach coverage
    → Tells (IsLaw sender taker subscription journal coverage told) held now
answered sender taker subscription journal told number breach coverage held now next found printed = (
  law_text (one_more told) subscription.assignment breach coverage,
  (breach, found, refl),
  printed ∙ ap (λ n. held ++ law_text n subscription.assignment breach coverage) next,
)

-- of the service and the consumer at these places
pub asked : {E : Type 0} (result : Result (Unit {0}) E) (service consumer : ℕ) (stage : Stage) (sender : PlayedService)
    (taker : PlayedConsumer) (coverage : Coverage) (told : ℕ) (held now : List ℕ) → slice_get stage.services.items service ≡ Some sender
    → slice_get stage.consumers.items consumer ≡ Some taker
    → IsCoverage sender.service taker.consumer stage.recorded.journal coverage
    → OnOk result (Tells (IsLaw sender.service.worker taker.consumer.worker taker.consumer.fetcher.subscription
    stage.recorded.journal coverage told) held now)
    → OnOk result (Tells (IsAnswered service consumer stage told) held now)
asked (Ok done) service consumer stage sender taker coverage told held now first second order (text, is, printed) =
    (text, (sender, taker, coverage, first, second, order, is), printed)
asked (Err fault) service consumer stage sender taker coverage told held now first second order is = is
