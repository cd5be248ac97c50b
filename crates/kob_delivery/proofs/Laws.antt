-- What reaches an inbox, of the parts that workers have in a journal.
use Rattle.kob_delivery.proofs.Words.{AllByRecursion, ArePrivate, Contains, Dispatching, Entry, Event, IsConsumerPart, IsDelivered, IsHistory, IsNeverDeleted, IsOwnProduce, IsServicePart, IsSoleCommitter, IsSoleProducer, IsTakenInOrder, IsWaitingOrSent, List, Place, ReachesInOrder, Subscription, Target, View, dispatch_of, empty, ids_of, inl, is_of_aggregate, kept_by_filter, opening_view, records_of, refl, rows_of, rows_of_aggregate, run_takes_in, ℕ}
use Rattle.kob_delivery.proofs.Reaching.{rows_tell, told_all, target_tells, reaches}
use Rattle.kob_delivery.proofs.Arriving.{all_assigned}
use Rattle.kob_delivery.proofs.ConsumerRun.{is_taken_in_order}
use Rattle.kob_delivery.proofs.RouterRun.{is_delivered, all_wait_or_sent}
use Rattle.kob_delivery.specs.Several.{AreSharedTopics, IsOwnOrApart}
use Rattle.kob_delivery.specs.View.{IsPrivate}
use Rattle.kob_delivery.proofs.Lists.{all_weaker}
use Rattle.kob_delivery.proofs.SeveralRun.{is_mixed}
use Rattle.kob_router.specs.Run as router
use Rattle.kob_inbox.specs.Run as consumers

pub partition_holds : (target : Target) (worker : ℕ) (journal : List Entry) (view : View) (moves : List router.Move)
    (now : router.State) (place : Place)
    → IsHistory opening_view journal view → IsServicePart target worker journal moves now
    → IsSoleProducer worker place.topic journal → IsNeverDeleted place.topic journal
    → IsDelivered (dispatch_of target) place (rows_of moves) (records_of (view.log place))
partition_holds target worker journal view moves now place history part =
    is_delivered (dispatch_of target) place (target_tells target) worker view journal moves now history part.run
    part.served

pub takes_in_order : (t : Subscription) (worker : ℕ) (journal : List Entry) (view : View) (moves : List consumers.Move)
    (now : consumers.State) (place : Place)
    → IsHistory opening_view journal view → IsConsumerPart t worker journal moves now
    → IsSoleCommitter worker t.group place.topic journal → IsNeverDeleted place.topic journal
    → IsTakenInOrder place (records_of (view.log place)) (consumers.taken_of moves)
takes_in_order t worker journal view moves now place history part =
    is_taken_in_order t place worker view journal moves now history part.run part.served

pub waits_or_sent : (target : Target) (worker : ℕ) (journal : List Entry) (moves : List router.Move)
    (now : router.State) → IsServicePart target worker journal moves now
    → AllByRecursion (IsWaitingOrSent (dispatch_of target) worker journal now.outbox) (rows_of moves)
waits_or_sent target worker journal moves now part =
    all_wait_or_sent (dispatch_of target) worker journal moves now part.run part.served

pub holds_a_prefix_among : (target : Target) (t : Subscription) (sender taker : ℕ) (journal : List Entry) (view : View)
    (sends : List router.Move) (service : router.State) (takes : List consumers.Move) (taking : consumers.State)
    (kind id : List ℕ)
    → IsHistory opening_view journal view → IsServicePart target sender journal sends service
    → IsConsumerPart t taker journal takes taking
    → AreSharedTopics (dispatch_of target) (rows_of_aggregate (rows_of sends) kind id) sender taker t.group t.assignment
    journal
    → ReachesInOrder (rows_of sends) taking.inbox kind id
holds_a_prefix_among target t sender taker journal view sends service takes taking kind id history sent took shared =
    reaches target (rows_of sends) (rows_tell target empty sends) kind id
    (told_all (is_of_aggregate kind id) (dispatch_of target) sender journal sends service sent.run sent.served)
    (Contains t.assignment) (λ q. records_of (view.log q)) (consumers.taken_of takes) taking.inbox
    (λ q a.
    is_mixed (dispatch_of target) q (ids_of (rows_of_aggregate (rows_of sends) kind id)) sender view journal sends service
    history sent.run sent.served (shared q a).others (shared q a).kept)
    (λ q a row there is goes.
    partition_holds target sender journal view sends service q history sent
    ((shared q a).producer (record {
      row = row;
      there = kept_by_filter (is_of_aggregate kind id) (rows_of sends) row there is;
      place = q;
      goes = goes;
      topic_is = refl;
    }))
    (shared q a).kept)
    (λ q a. takes_in_order t taker journal view takes taking q history took (shared q a).committer (shared q a).kept)
    (all_assigned t takes consumers.start taking took.run) (run_takes_in t takes consumers.start taking took.run)

-- where nobody else sends to any assigned topic, the premise is stronger
private_is_shared : (route : Dispatching) (rows : List Event) (sender taker : ℕ) (group : List ℕ)
    (assignment : List Place) (journal : List Entry) → ArePrivate sender taker group assignment journal
    → AreSharedTopics route rows sender taker group assignment journal
private_is_shared route rows sender taker group assignment journal private place there =
    let is : IsPrivate sender taker group place.topic journal = private place there in
    record {
      producer = λ some. is.producer;
      others = all_weaker (IsOwnProduce sender place.topic) (IsOwnOrApart sender place.topic (ids_of rows))
          (λ e own sends. inl (own sends)) journal is.producer;
      committer = is.committer;
      kept = is.kept;
    }

pub holds_a_prefix : (target : Target) (t : Subscription) (sender taker : ℕ) (journal : List Entry) (view : View)
    (sends : List router.Move) (service : router.State) (takes : List consumers.Move) (taking : consumers.State)
    (kind id : List ℕ)
    → IsHistory opening_view journal view → IsServicePart target sender journal sends service
    → IsConsumerPart t taker journal takes taking → ArePrivate sender taker t.group t.assignment journal
    → ReachesInOrder (rows_of sends) taking.inbox kind id
holds_a_prefix target t sender taker journal view sends service takes taking kind id history sent took private =
    holds_a_prefix_among target t sender taker journal view sends service takes taking kind id history sent took
    (private_is_shared (dispatch_of target) (rows_of_aggregate (rows_of sends) kind id) sender taker t.group
    t.assignment journal private)
