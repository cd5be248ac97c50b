use Rattle.std.proofs.Common.{ap, option_map, refl, subst, sym, ◌+◌, ◌≤◌, ◌∙◌}
use Rattle.std.proofs.lemmas.List.{length-map}
use Rattle.std.proofs.lemmas.Option.{slice_get-map, slice_get_read}
use Rattle.std.specs.List.{fold}
use Rattle.kob_policy_review.proofs.Places.{LeadsBelow, leads_all, leads_more}
use Rattle.kob_policy_review.specs.Sites.{rows_of, with_place}
use Rattle.kob_policy_review.proofs.sites.tree_of.Goals as goal

pub loop-place-preserved : goal.loop-place-preserved
loop-place-preserved c =
    let place = c.loop-place.place in
    let near = c.args.near.now in
    let row = c.index-near-place.result in
    subst (LeadsBelow (rows_of near) (place + 1))
    (sym (c.in_ok-add_places.ensures ∙ ap (fold (with_place place) c.loop-place.places) c.as_slice.ensures.value))
    (leads_more (rows_of near) place c.loop-place.places row.items
    (slice_get-map (λ vec. vec.items) near place
    ∙ ap (option_map (λ vec. vec.items))
    (slice_get_read near _ place row refl c.loop-place-test.true c.index-near-place.is))
    c.loop-place.invariant)

pub returns : goal.returns
returns c =
    leads_all (rows_of c.args.near.now) c.loop-place.place c.loop-place.places
    (subst (λ n. n ≤ c.loop-place.place) (sym (length-map c.args.near.now (λ vec. vec.items)))
    c.loop-place-test.false)
    c.loop-place.invariant
