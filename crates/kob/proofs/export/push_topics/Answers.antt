use Rattle.std.proofs.Common.{◌∙◌, ◌++◌, ◌∷◌, [], ap, sym, take, flat_map}
use Rattle.std.proofs.lemmas.List.{flat_map_more, take_more}
use Rattle.kob.specs.Export.{topic_line}
use Rattle.kob.proofs.export.push_topics.Goals as goal

pub loop-topic-preserved : goal.loop-topic-preserved
loop-topic-preserved c =
    let topics = c.args.topics.now in
    let place = c.loop-topic.topic-index in
    let topic = c.topic-item.result in
    let more =
    take_more topics place topic c.loop-topic-test.true
    ∙ ap (λ next. take place topics ++ next ∷ []) (sym c.topic-item.is) in
    c.in_ok-push_topic.ensures ∙ ap (λ text. text ++ topic_line topics topic) c.loop-topic.invariant
    ∙ flat_map_more (topic_line topics) c.args.out.now.items (take place topics) topic
    ∙ ap (λ all. c.args.out.now.items ++ flat_map (topic_line topics) all) (sym more)
