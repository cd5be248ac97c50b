use Rattle.kob_ordered.proofs.Words.{IsGap, IsSearchInRange, Less, always_returns_same, get_or, length, names_in, of_calls, order_of, rules, slice_get, subst, sym, ◌-◌, ◌<◌, ◌∙◌, ◌≡◌}
use Rattle.kob_ordered.proofs.Search.{equal_at, first_is, found_by, gap_after, no_entry}
use Rattle.kob_ordered.proofs.by_name.find.Goals as goal

pub returns-in-Less : goal.returns-in-Less
returns-in-Less g c =
    let slots = c.args.slots.now in let by_name = c.args.by_name.now.items in let name = c.args.name.now in
    let place = c.in-Some.last.now in
    let less : order_of name (slice_get slots place) ≡ Less = sym c.order_at.ensures ∙ c.in-Less.is in
    let some : 0 < length by_name = search rules in
    let is : place ≡ get_or by_name (length by_name - 1) place = search rules in
    let end : c.len.result ≡ length by_name = search rules in
    let gap : IsGap (names_in slots) by_name name c.len.result =
    subst (IsGap (names_in slots) by_name name) (sym end) (gap_after slots by_name name c.requires place some is less) in
    record { found = tt; gap = gap; known = sym (no_entry slots by_name name c.requires c.len.result gap) }

pub returns-in-Equal : goal.returns-in-Equal
returns-in-Equal g c =
    let slots = c.args.slots.now in let by_name = c.args.by_name.now.items in let name = c.args.name.now in
    let place = c.in-Some-front.first.now in
    let equal = equal_at slots by_name name c.requires place (sym c.order_at-in-Some-front.ensures ∙ c.in-Equal.is) in
    let some : 0 < length by_name = search rules in
    let is : place ≡ get_or by_name 0 place = search rules in
    record { found = first_is slots by_name name c.requires place some is equal.0; gap = tt; known = sym equal.1 }

pub returns : goal.returns
returns g c =
    let slots = c.args.slots.now in let name = c.args.name.now in
    let place = c.binary_search_by.ensures.position (λ place. order_of name (slice_get slots place))
    (always_returns_same _ _ _ (λ a r f k. search (rules, of_calls))) in
    let found = found_by slots c.args.by_name.now.items name c.requires c.binary_search_by.result
    (subst (IsSearchInRange c.binary_search_by.result) (search rules) c.binary_search_by.ensures.bound) place in
    record { found = found.0; gap = found.1; known = found.2 }
