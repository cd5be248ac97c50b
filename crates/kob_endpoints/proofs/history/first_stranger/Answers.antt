use Rattle.kob_endpoints.proofs.Words.{Some, ap, refl, slice_get, subst, sym, take, take_all, ◌∙◌, ◌≡◌}
use Rattle.kob_endpoints.proofs.Followings.{history_of_made, seen_more, stranger_in}
use Rattle.std.proofs.lemmas.Option.{slice_get-get_or}
use Rattle.kob_delivery.specs.InTurn.{entries_of}
use Rattle.kob_endpoints.specs.History.{AreMade, IsUnmade, after_all}
use Rattle.kob_endpoints.specs.Seen.{Shows}
use Rattle.std.specs.Prelude.{MatchOption}
use Rattle.kob_delivery.specs.View.{opening_view}
use Rattle.kob_endpoints.proofs.history.first_stranger.Goals as goal

pub loop-journal-init : goal.loop-journal-init
loop-journal-init c = record { count = refl; made = tt; shows = c.new-seen.ensures }

pub loop-journal-preserved : goal.loop-journal-preserved
loop-journal-preserved c =
    let journals = c.args.journals.now in
    let at = c.loop-journal.journal-index in
    let journal = c.journal-item.result in
    let v = after_all opening_view (entries_of (take at journals)) in
    let there : slice_get journals at ≡ Some journal =
    slice_get-get_or journals at journal c.loop-journal-test.true ∙ ap (λ j. Some j) (sym c.journal-item.is) in
    let one = subst (λ o. MatchOption o
    (AreMade v journal.now × Shows (after_all v journal.now) c.first_unmade.new.seen)
    (IsUnmade v journal.now)) c.in_default.is (c.in_ok-place.ensures v c.loop-journal.invariant.shows) in
    seen_more journals at journal c.loop-journal.before c.len.result c.in_ok-before.before c.loop-journal.seen
    c.first_unmade.new.seen there c.len.ensures c.in_ok-before.ensures c.loop-journal.invariant one

pub returns-in-Some : goal.returns-in-Some
returns-in-Some c =
    let journals = c.args.journals.now in
    let at = c.loop-journal.journal-index in
    let journal = c.journal-item.result in
    let v = after_all opening_view (entries_of (take at journals)) in
    let there : slice_get journals at ≡ Some journal =
    slice_get-get_or journals at journal c.loop-journal-test.true ∙ ap (λ j. Some j) (sym c.journal-item.is) in
    let unmade = subst (λ o. MatchOption o
    (AreMade v journal.now × Shows (after_all v journal.now) c.first_unmade.new.seen) (IsUnmade v journal.now))
    c.in-Some.is (c.in_ok-place.ensures v c.loop-journal.invariant.shows) in
    stranger_in journals at journal c.loop-journal.before c.in-Some.place c.in_ok-sum.field-0 there
    c.loop-journal.invariant.count c.in_ok-sum.ensures c.loop-journal.invariant.made unmade

pub returns : goal.returns
returns c =
    let made = subst (λ js. AreMade opening_view (entries_of js))
    (take_all c.loop-journal.journal-index c.args.journals.now c.loop-journal-test.false)
    c.loop-journal.invariant.made in (
      after_all opening_view (entries_of c.args.journals.now),
      history_of_made opening_view (entries_of c.args.journals.now) made,
    )
