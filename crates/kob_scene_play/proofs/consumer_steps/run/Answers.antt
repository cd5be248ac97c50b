use Rattle.kob_scene_play.proofs.Words.{ap, length, ◌∙◌}
use Rattle.kob_scene_play.proofs.ConsumerRunning.{run_begins, last_tick, one_tick_more}
use Rattle.kob_scene_play.proofs.Running.{of_error}
use Rattle.kob_scene_play.proofs.consumer_steps.run.Goals as goal

pub loop-preserved : goal.loop-preserved
loop-preserved c =
    one_tick_more c.len-partitions.result c.args.consumer.now c.loop.consumer c.tick.new.consumer c.args.recorded.now
    c.loop.recorded c.tick.new.recorded c.args.out.now.told c.loop.out.told c.tick.new.out.told
    c.args.out.now.text.items c.loop.out.text.items c.tick.new.out.text.items c.loop.counter c.loop.idle
    c.in_ok-left.left c.idle_with.result c.loop.invariant c.in_ok-left.ensures.done c.idle_with.ensures c.in-Some.in_row
    c.in-Some.is

pub returns-in_default-clause-done : goal.returns-in_default-clause-done
returns-in_default-clause-done c =
    last_tick c.len-partitions.result c.args.consumer.now c.loop.consumer c.tick.new.consumer c.args.recorded.now
    c.loop.recorded c.tick.new.recorded c.args.out.now.told c.loop.out.told c.tick.new.out.told
    c.args.out.now.text.items c.loop.out.text.items c.tick.new.out.text.items c.loop.counter c.loop.idle
    c.in_ok-left.left c.idle_with.result c.loop.invariant c.in_ok-left.ensures.done c.idle_with.ensures c.in_default.is
    (c.len-partitions.ensures ∙ ap (λ s. length s.assignment) c.subscription.ensures)

pub returns-in_err-left-clause-left : goal.returns-in_err-left-clause-left
returns-in_err-left-clause-left c =
    let stopped = c.in_err-left.ensures in
    of_error c.from_residual.result
    (run_begins c.len-partitions.result c.args.consumer.now c.loop.consumer c.args.recorded.now c.loop.recorded
    c.args.out.now.told c.loop.out.told c.tick.new.out.told c.args.out.now.text.items c.loop.out.text.items
    c.tick.new.out.text.items c.loop.counter c.loop.idle c.loop.invariant stopped.count stopped.kept
    (c.len-partitions.ensures ∙ ap (λ s. length s.assignment) c.subscription.ensures))
