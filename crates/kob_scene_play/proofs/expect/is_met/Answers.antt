use Rattle.kob_scene_play.proofs.Words.{rules, subst, sym}
use Rattle.std.specs.Bool.{nat_eq}
use Rattle.kob_scene_play.specs.Expectations.{IsMet}
use Rattle.kob_scene_text.specs.declared.scene.Expected.{Expected}
use Rattle.kob_scene_play.proofs.expect.is_met.Goals as goal

pub returns-in_ok-early-in-Order-clause-met : goal.returns-in_ok-early-in-Order-clause-met
returns-in_ok-early-in-Order-clause-met c =
    let early = c.in_ok-early-in-Order in
    subst (λ (what : Expected). IsMet what c.args.sender.now c.args.taker.now c.args.journal.now (nat_eq c.len.result 0))
    (sym c.in-Order.is) (early.early.items, early.ensures.early, search rules)
