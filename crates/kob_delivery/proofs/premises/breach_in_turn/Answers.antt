use Rattle.kob_delivery.proofs.Breaches.{breach_shifted, none_broken, unbroken}
use Rattle.kob_delivery.proofs.InTurn.{hold_more}
use Rattle.kob_delivery.proofs.Words.{AllByRecursion, Some, ap, refl, slice_get, slice_get-get_or, subst, sym, take_all, ◌∙◌, ◌≡◌}
use Rattle.kob_delivery.specs.InTurn.{entries_of}
use Rattle.kob_delivery.specs.View.{BreaksNone}
use Rattle.kob_delivery.proofs.premises.breach_in_turn.Goals as goal

pub loop-journal-init : goal.loop-journal-init
loop-journal-init c = (refl, tt)

pub loop-journal-preserved : goal.loop-journal-preserved
loop-journal-preserved c =
    let journals = c.args.journals.now in
    let at = c.loop-journal.journal-index in
    let journal = c.journal-item.result in
    let there : slice_get journals at ≡ Some journal =
    slice_get-get_or journals at journal c.loop-journal-test.true ∙ ap (λ j. Some j) (sym c.journal-item.is) in
    hold_more (BreaksNone c.args.sender c.args.taker c.args.group.now c.args.assignment.now) journals at journal
    c.loop-journal.before c.len.result c.in_ok-before.before there c.len.ensures c.in_ok-before.ensures
    c.loop-journal.invariant
    (none_broken c.args.sender c.args.taker c.args.group.now c.args.assignment.now journal.now c.in_default.ensures)

pub returns-in-Some : goal.returns-in-Some
returns-in-Some c =
    let journals = c.args.journals.now in
    let at = c.loop-journal.journal-index in
    let journal = c.journal-item.result in
    let there : slice_get journals at ≡ Some journal =
    slice_get-get_or journals at journal c.loop-journal-test.true ∙ ap (λ j. Some j) (sym c.journal-item.is) in
    breach_shifted c.args.sender c.args.taker c.args.group.now c.args.assignment.now journals at journal
    c.in-Some.breach c.loop-journal.before c.in_ok-sum.field-0 there c.in_ok-sum.ensures c.loop-journal.invariant
    c.in-Some.ensures

pub returns : goal.returns
returns c =
    unbroken c.args.sender c.args.taker c.args.group.now c.args.assignment.now (entries_of c.args.journals.now)
    (subst (λ js.
    AllByRecursion (BreaksNone c.args.sender c.args.taker c.args.group.now c.args.assignment.now) (entries_of js))
    (take_all c.loop-journal.journal-index c.args.journals.now c.loop-journal-test.false) c.loop-journal.invariant.1)
