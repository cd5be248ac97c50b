use native.Mathlib.Omega.{arith}
use Rattle.std.proofs.Common.{◌≡◌, ◌∙◌, ◌++◌, ◌∷◌, [], None, Some, ap, sym, take, bytes_eq, true, false}
use Rattle.std.specs.Prelude.{cond}
use Rattle.std.proofs.lemmas.List.{take_more}
use Rattle.kob.specs.declared.standing.Topic.{Topic}
use Rattle.kob_scene_export.specs.Topics.{metric_name}
use Rattle.kob.proofs.First.{find_more, find_first}
use Rattle.kob.proofs.export.first_alike.Goals as goal

pub returns-then-eq : goal.returns-then-eq
returns-then-eq c =
    let topics = c.args.topics.now in
    let place = c.loop-topic.topic-index in
    let topic = c.topic-item.result in
    let p = λ (other : Topic). bytes_eq (metric_name other.name) c.args.name.now in
    let more =
    take_more topics place topic c.loop-topic-test.true
    ∙ ap (λ next. take place topics ++ next ∷ []) (sym c.topic-item.is) in
    let same : p topic ≡ true = grind (arith, c.if-eq.true, c.eq.ensures, c.in_ok-metric_name.ensures, c.as_slice.ensures, c.as_str.ensures) in
    sym (find_first p topics place topic (find_more p topics place topic c.loop-topic.invariant more
    ∙ ap (λ b. cond b (Some topic) None) same))

pub loop-topic-preserved : goal.loop-topic-preserved
loop-topic-preserved c =
    let topics = c.args.topics.now in
    let place = c.loop-topic.topic-index in
    let topic = c.topic-item.result in
    let p = λ (other : Topic). bytes_eq (metric_name other.name) c.args.name.now in
    let more =
    take_more topics place topic c.loop-topic-test.true
    ∙ ap (λ next. take place topics ++ next ∷ []) (sym c.topic-item.is) in
    let other : p topic ≡ false = grind (arith, c.if-eq.false, c.eq.ensures, c.in_ok-metric_name.ensures, c.as_slice.ensures, c.as_str.ensures) in
    find_more p topics place topic c.loop-topic.invariant more
    ∙ ap (λ b. cond b (Some topic) None) other
