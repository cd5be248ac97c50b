use Rattle.kob_delivery.proofs.InTurn.{first_shifted, hold_more}
use Rattle.kob_delivery.proofs.Words.{AllByRecursion, Some, ap, refl, slice_get, slice_get-get_or, subst, sym, take_all, ◌∙◌, ◌≡◌}
use Rattle.kob_delivery.specs.InTurn.{entries_of}
use Rattle.kob_delivery.proofs.asked.first_in_turn.Goals as goal

pub loop-journal-init : goal.loop-journal-init
loop-journal-init g c = (refl, tt)

pub loop-journal-preserved : goal.loop-journal-preserved
loop-journal-preserved g c =
    let journals = c.args.journals.now in
    let at = c.loop-journal.journal-index in
    let journal = c.journal-item.result in
    let there : slice_get journals at ≡ Some journal =
    slice_get-get_or journals at journal c.loop-journal-test.true ∙ ap (λ j. Some j) (sym c.journal-item.is) in
    hold_more (g.A.Asked.holds c.args.asked.now) journals at journal c.loop-journal.before c.len.result
    c.in_ok-before.before there c.len.ensures c.in_ok-before.ensures c.loop-journal.invariant c.in_default.ensures

pub returns-in-Some : goal.returns-in-Some
returns-in-Some g c =
    let journals = c.args.journals.now in
    let at = c.loop-journal.journal-index in
    let journal = c.journal-item.result in
    let there : slice_get journals at ≡ Some journal =
    slice_get-get_or journals at journal c.loop-journal-test.true ∙ ap (λ j. Some j) (sym c.journal-item.is) in
    first_shifted (g.A.Asked.holds c.args.asked.now) journals at journal c.loop-journal.before c.in-Some.place
    c.in_ok-sum.field-0 there c.in_ok-sum.ensures c.loop-journal.invariant c.in-Some.ensures

pub returns : goal.returns
returns g c =
    subst (λ js. AllByRecursion (g.A.Asked.holds c.args.asked.now) (entries_of js))
    (take_all c.loop-journal.journal-index c.args.journals.now c.loop-journal-test.false) c.loop-journal.invariant.1
