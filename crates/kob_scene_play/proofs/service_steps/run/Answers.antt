use Rattle.kob_scene_play.proofs.Words.{IsServiceTick, rules, service_goes_on, service_line, sym, ◌∙◌}
use Rattle.kob_scene_play.proofs.Running.{run_begins, last_tick, of_error, one_tick_more}
use Rattle.kob_router.specs.declared.line.Loss.TheVariants as losses
use Rattle.kob_scene_play.proofs.service_steps.run.Goals as goal

pub returns-then-not-branch-clause-done : goal.returns-then-not-branch-clause-done
returns-then-not-branch-clause-done c =
    let ticked = c.in_ok-tick.ensures.done in
    last_tick (IsServiceTick losses.None) service_line service_goes_on c.args.service.now c.loop.service
    c.tick.new.service c.args.recorded.now c.loop.recorded c.tick.new.recorded c.args.out.now.told c.loop.out.told
    c.tick.new.out.told c.args.out.now.text.items c.loop.out.text.items c.tick.new.out.text.items c.loop.counter
    c.loop.invariant ticked.0 ticked.2 (sym ticked.1 ∙ search rules)

pub loop-preserved : goal.loop-preserved
loop-preserved c =
    let ticked = c.in_ok-tick.ensures.done in
    one_tick_more (IsServiceTick losses.None) service_line service_goes_on c.args.service.now c.loop.service
    c.tick.new.service c.args.recorded.now c.loop.recorded c.tick.new.recorded c.args.out.now.told c.loop.out.told
    c.tick.new.out.told c.args.out.now.text.items c.loop.out.text.items c.tick.new.out.text.items c.loop.counter
    c.loop.invariant ticked.0 ticked.2 (sym ticked.1 ∙ search rules)

pub returns-in_err-tick-clause-left : goal.returns-in_err-tick-clause-left
returns-in_err-tick-clause-left c =
    let stopped = c.in_err-tick.ensures in
    of_error c.from_residual.result
    (run_begins (IsServiceTick losses.None) service_line service_goes_on c.args.service.now c.loop.service
    c.args.recorded.now c.loop.recorded c.args.out.now.told c.loop.out.told c.tick.new.out.told
    c.args.out.now.text.items c.loop.out.text.items c.tick.new.out.text.items c.loop.counter
    c.loop.invariant stopped.count stopped.kept)
