-- Whether the events of a service are where they are expected to be.
use Rattle.std.specs.List.{list_all}
use Rattle.std.specs.Prelude.{◌≡◌, ◌==◌, ◌&&◌, ◌||◌, ℕ, Bool, true, false, if◌then◌else◌, is_some, List, ◌++◌, Option, None, Some, codes, length, slice_get}
use Rattle.std.specs.Fmt.{decimal}
use Rattle.kob_delivery_check.specs.Fates.{is_delivered, is_lost}
use Rattle.kob_delivery_check.specs.Logs.{number_of}
use Rattle.kob_delivery_check.specs.PrintedOrder.{place_of}
use Rattle.kob_delivery_check.specs.declared.fate.Fate.{Fate}
use Rattle.kob_delivery_check.specs.declared.order.Early.{Early}
use Rattle.kob_outbox.specs.declared.event.OutboxEvent.{OutboxEvent}
use Rattle.kob_router.specs.Line.{one_more}
use Rattle.kob_scene_play.specs.Checks.{AreEarly, AreFates, unrecorded_by}
use Rattle.kob_scene_play.specs.Steps.{Consumer, Service}
use Rattle.kob_scene_play.specs.declared.stage.PlayedConsumer.{PlayedConsumer}
use Rattle.kob_scene_play.specs.declared.stage.PlayedService.{PlayedService}
use Rattle.kob_scene_play.specs.declared.stage.Stage.{Stage}
use Rattle.kob_scene_play.specs.declared.stage.Unmet.{Unmet}
use Rattle.kob_scene_text.specs.declared.scene.Expected.{Expected}
use Rattle.kob_scene_text.specs.declared.scene.Expected.TheVariants as expectations
use Rattle.kob_shared.specs.declared.journal.Entry.{Entry}

abbrev pub is_lost_fate : Option Fate → Bool
is_lost_fate (Some fate) = is_lost fate
is_lost_fate None = false

abbrev pub is_lost_at : List Fate → Option ℕ → Bool
is_lost_at fates (Some place) = is_lost_fate (slice_get fates place)
is_lost_at fates None = false

-- the event with this id is one of these, and its fate is that it is lost
abbrev pub is_lost_event : List ℕ → List OutboxEvent → List Fate → Bool
is_lost_event id events fates = is_lost_at fates (place_of (number_of id) events)

-- one of these events has this id
abbrev pub is_among : List ℕ → List OutboxEvent → Bool
is_among id events = is_some (place_of (number_of id) events)

-- no event is missing: each that was recorded is delivered, and none was not recorded
abbrev pub are_delivered : List Fate → List OutboxEvent → Bool
are_delivered fates unrecorded = list_all is_delivered fates && length unrecorded == 0

-- whether it is as expected
abbrev pub IsMet : Expected → Service → Consumer → List Entry → Bool → Type 0
IsMet expectations.Delivered service consumer journal is_met =
    (fates : List Fate) × AreFates service consumer journal fates
    × (is_met ≡ are_delivered fates (unrecorded_by service))
IsMet (expectations.Lost id) service consumer journal is_met =
    (fates : List Fate) × AreFates service consumer journal fates
    × (is_met ≡ (is_lost_event id service.recorded fates || is_among id (unrecorded_by service)))
IsMet expectations.Order service consumer journal is_met =
    (early : List Early) × AreEarly service consumer early × (is_met ≡ (length early == 0))

abbrev pub expected_text : Bool → List ℕ
expected_text true = codes " as expected\n"
expected_text false = codes " not as expected\n"

-- nothing was expected that is not so
abbrev pub all_met : Unmet
all_met = record { count = 0; line = 0 }

-- after one thing more, which is expected on this line
abbrev pub unmet_after : Unmet → Bool → ℕ → Unmet
unmet_after unmet true line = unmet
unmet_after unmet false line = record {
  count = one_more unmet.count;
  line = if unmet.count == 0 then line else unmet.line;
}

-- the answer about the service and the consumer at these places; what is not as expected is counted
abbrev pub IsExpected : ℕ → ℕ → Expected → ℕ → Stage → Unmet → ℕ → List ℕ → Type 0
IsExpected service consumer what line stage unmet told text =
    (sender : PlayedService) × (taker : PlayedConsumer) × (is_met : Bool)
    × (slice_get stage.services.items service ≡ Some sender)
    × (slice_get stage.consumers.items consumer ≡ Some taker)
    × IsMet what sender.service taker.consumer stage.recorded.journal is_met
    × (unmet ≡ unmet_after stage.unmet is_met line)
    × (text ≡ decimal (one_more told) ++ expected_text is_met)
