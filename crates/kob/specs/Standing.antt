-- The broker after the requests of a scene, and the topics that exist then.
use Rattle.std.specs.List.{fold}
use Rattle.std.specs.Prelude.{ℕ, Bool, not, List, [], ◌∷◌, ◌++◌, filter}
use Rattle.kob_broker.specs.Step.{state_of, step}
use Rattle.kob_broker.specs.State.{State, open_state}
use Rattle.kob_names.specs.Same.{same_text}
use Rattle.kob_partition.specs.Retained.{Retained, retained_meaning}
use Rattle.kob_rights.specs.declared.event.Event.{Event}
use Rattle.kob_rights.specs.declared.reply.Reply.{Reply}
use Rattle.kob_rights.specs.declared.reply.Reply.TheVariants.{Denied, Refused, Done}
use Rattle.kob_rights.specs.declared.request.Request.{Request}
use Rattle.kob_rights.specs.declared.request.Request.TheVariants.{CreateTopics, DeleteTopics}
use Rattle.kob.specs.declared.standing.End.{End}
use Rattle.kob.specs.declared.standing.Topic.{Topic}
use Rattle.kob_scene_text.specs.declared.scene.Scene.{Scene}
use Rattle.kob_scene_text.specs.declared.scene.Step.{Step}
use Rattle.kob_scene_text.specs.declared.scene.Step.TheVariants as steps

abbrev pub is_other : List ℕ → Topic → Bool
is_other name topic = not (same_text topic.name name)

-- a creation puts its topic behind the others, a deletion takes out the topic that it names
abbrev pub topics_done : Request → List Topic → List Topic
topics_done (CreateTopics asked) topics =
    topics ++ (record { name = asked.name; partitions = asked.partitions }) ∷ []
topics_done (DeleteTopics asked) topics = filter (is_other asked.name) topics
topics_done request topics = topics

-- what is denied or refused changes nothing
abbrev pub topics_after : Request → Reply → List Topic → List Topic
topics_after request (Denied code verdicts) topics = topics
topics_after request (Refused code reason) topics = topics
topics_after request (Done body) topics = topics_done request topics

pub record Seen : Type 0 where
  pub state : State Retained
  pub topics : List Topic

abbrev pub seen : End → Seen
seen end = record { state = state_of end.broker; topics = end.topics.items }

abbrev pub after_event : Seen → Event → Seen
after_event end event = record {
  state = (step retained_meaning end.state event).state;
  topics = topics_after event.request (step retained_meaning end.state event).reply end.topics;
}

-- the steps of workers create and delete no topic, and change no binding
abbrev pub after_step : Seen → Step → Seen
after_step end (steps.Request event) = after_event end event
after_step end s = end

abbrev pub end_of : Scene → Seen
end_of scene =
    fold after_step (record { state = open_state scene.settings; topics = [] }) scene.steps.items
