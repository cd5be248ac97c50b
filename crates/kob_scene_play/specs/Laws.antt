-- Whether the laws of delivery speak of a service and a consumer, what the consumer has of the
-- service's rows, and how that is printed.
use Rattle.std.specs.Prelude.{◌≡◌, ℕ, List, [], ◌∷◌, Option, None, Some, codes, ◌++◌, flat_map, length, MatchOption, slice_get, map}
use Rattle.std.specs.Fmt.{decimal}
use Rattle.std.specs.List.{enumerate_from}
use Rattle.kob_delivery_check.specs.Altered.{altered_row}
use Rattle.kob_delivery_check.specs.Order.{count_taken}
use Rattle.kob_delivery_check.specs.Unread.{unread_of}
use Rattle.kob_delivery_check.specs.declared.order.Early.{Early}
use Rattle.kob_inbox.specs.Contents.{placed_intake}
use Rattle.kob_inbox.specs.declared.fetcher.Subscription.{Subscription}
use Rattle.kob_inbox.specs.declared.inbox_row.InboxRow.{InboxRow}
use Rattle.kob_delivery.specs.View.{ArePrivate, IsBreach}
use Rattle.kob_delivery.specs.declared.premises.Breach.{Breach}
use Rattle.kob_delivery.specs.declared.premises.Premise.{Premise}
use Rattle.kob_delivery.specs.declared.premises.Premise.TheVariants as premises
use Rattle.kob_router.specs.Line.{one_more}
use Rattle.kob_router.specs.declared.place.Place.{Place}
use Rattle.kob_scene_play.specs.Checks.{AreEarly}
use Rattle.kob_scene_play.specs.Steps.{Consumer, Service}
use Rattle.kob_scene_play.specs.declared.law.Coverage.{Coverage}
use Rattle.kob_scene_play.specs.declared.stage.PlayedConsumer.{PlayedConsumer}
use Rattle.kob_scene_play.specs.declared.stage.PlayedService.{PlayedService}
use Rattle.kob_scene_play.specs.declared.stage.Stage.{Stage}
use Rattle.kob_shared.specs.declared.journal.Entry.{Entry}
use Rattle.kob_words.specs.Words.{bytes_text}

abbrev pub premise_text : Premise → List ℕ
premise_text premises.SoleProducer = codes " law says nothing: SoleProducer"
premise_text premises.SoleCommitter = codes " law says nothing: SoleCommitter"
premise_text premises.NeverDeleted = codes " law says nothing: NeverDeleted"

abbrev pub name_text : List ℕ → List ℕ
name_text topic = codes " " ++ bytes_text topic

abbrev pub topic_text : Option Place → List ℕ
topic_text None = []
topic_text (Some place) = name_text place.topic

-- which premise of which topic is broken by which entry
abbrev pub broken_text : Option Place → Breach → List ℕ
broken_text place breach =
    premise_text breach.premise ++ topic_text place ++ codes " entry " ++ decimal breach.entry

-- that the laws speak of both, or what is broken
abbrev pub breach_text : List Place → Option Breach → List ℕ
breach_text assignment None = codes " law holds"
breach_text assignment (Some breach) = broken_text (slice_get assignment breach.assigned) breach

-- how many of the recorded rows were taken in
abbrev pub taken_text : ℕ → ℕ → List ℕ
taken_text taken recorded =
    codes ", " ++ (decimal taken ++ codes " of ") ++ decimal recorded ++ codes " rows"

abbrev pub misplaced_text : ℕ → List ℕ
misplaced_text place = codes ", out of order at row " ++ decimal place

-- whether the inbox has the rows in their order, or the first that is out of order
abbrev pub order_text : Option ℕ → List ℕ
order_text None = codes ", in order"
order_text (Some place) = misplaced_text place

-- the first row with another key or value than was recorded, if there is one
abbrev pub altered_text : Option ℕ → List ℕ
altered_text None = []
altered_text (Some place) = codes ", not as recorded at row " ++ decimal place

abbrev pub unread_text : Place → List ℕ
unread_text place = codes ", not read" ++ name_text place.topic ++ codes " " ++ decimal place.partition

abbrev pub coverage_text : Coverage → List ℕ
coverage_text coverage =
    taken_text coverage.taken coverage.recorded ++ order_text coverage.misplaced
    ++ altered_text coverage.altered ++ flat_map unread_text coverage.unread.items ++ codes "\n"

abbrev pub law_text : ℕ → List Place → Option Breach → Coverage → List ℕ
law_text number assignment breach coverage =
    decimal number ++ breach_text assignment breach ++ coverage_text coverage

-- where the first of the events came that are out of order
abbrev pub first_at : List Early → Option ℕ
first_at [] = None
first_at (early ∷ later) = Some early.at

-- how many rows of the service its inbox has
abbrev pub IsTaken : Service → Consumer → ℕ → Type 0
IsTaken service consumer count =
    (rows : List InboxRow)
    × (map placed_intake rows ≡ enumerate_from 1 consumer.inbox)
    × (count ≡ count_taken service.recorded rows)

-- the first row of its inbox with another key or value than the service recorded
abbrev pub IsAltered : Service → Consumer → Option ℕ → Type 0
IsAltered service consumer place =
    (rows : List InboxRow)
    × (map placed_intake rows ≡ enumerate_from 1 consumer.inbox)
    × (place ≡ altered_row service.recorded rows)

-- what the consumer has of the rows of the service
abbrev pub IsCoverage : Service → Consumer → List Entry → Coverage → Type 0
IsCoverage service consumer journal coverage =
    (early : List Early) × AreEarly service consumer early
    × (coverage.misplaced ≡ first_at early)
    × (coverage.recorded ≡ length service.recorded)
    × IsTaken service consumer coverage.taken
    × IsAltered service consumer coverage.altered
    × (coverage.unread.items
    ≡ unread_of service.worker consumer.fetcher.subscription.assignment journal)

-- the laws are said to hold exactly where their premises do
abbrev pub IsLaw : ℕ → ℕ → Subscription → List Entry → Coverage → ℕ → List ℕ → Type 0
IsLaw sender taker subscription journal coverage told text =
    (breach : Option Breach)
    × MatchOption breach (ArePrivate sender taker subscription.group subscription.assignment journal)
    (IsBreach sender taker subscription.group subscription.assignment journal)
    × (text ≡ law_text (one_more told) subscription.assignment breach coverage)

-- the answer about the service and the consumer at these places
abbrev pub IsAnswered : ℕ → ℕ → Stage → ℕ → List ℕ → Type 0
IsAnswered service consumer stage told text =
    (sender : PlayedService) × (taker : PlayedConsumer) × (coverage : Coverage)
    × (slice_get stage.services.items service ≡ Some sender)
    × (slice_get stage.consumers.items consumer ≡ Some taker)
    × IsCoverage sender.service taker.consumer stage.recorded.journal coverage
    × IsLaw sender.service.worker taker.consumer.worker taker.consumer.fetcher.subscription
    stage.recorded.journal coverage told text
