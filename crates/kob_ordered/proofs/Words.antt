-- The names that the lemmas cite, passed on from one place.
pub use Rattle.kob_names.specs.Same.{same_text}
pub use Rattle.kob_ordered.specs.Ordered.{Ordered, StandsAt, name_at, with_value}
pub use Rattle.kob_ordered.specs.Slots.{AreListed, IsGap, IsSound, Nth, entries_in, is_entry, name_order, named, names_in, order_of, rank, with_value_in}
pub use Rattle.kob_ordered.specs.declared.slot.Slot.{Slot}
pub use Rattle.kob_ordered.specs.declared.slot.Slot.TheVariants.{Entry, Hole}
pub use Rattle.std.proofs.Common.{Bool, Equal, Err, Greater, IfErr, IfOk, IsSome, Less, List, None, Ok, Option, Ordering, Result, Some, ap, arith, cond, false, filter, get_or, inl, inr, is_ok, is_some, length, length-append, map, not, of_calls, option_map, refl, rules, set, slice_get, slice_index_or, subst, suc, sym, take, true, unwrap_or, vec_capacity, zero, [], ℕ, ◌++◌, ◌+◌, ◌-◌, ◌<◌, ◌==◌, ◌∙◌, ◌∷◌, ◌≡◌, ◌≤◌, ◌⊎◌}
pub use Rattle.std.proofs.lemmas.Bool.{cases_lt}
pub use Rattle.std.proofs.lemmas.Bool.Decides.{nat_tests}
pub use Rattle.std.proofs.lemmas.Fn.{always_returns_same}
pub use Rattle.std.proofs.lemmas.Grind.{common_steps}
pub use Rattle.std.proofs.lemmas.List.{get_or_append_left, get_or_push, length-map, map-append, map-set, take_more}
pub use Rattle.std.proofs.lemmas.List.Edits.{length-insert, length-remove}
pub use Rattle.std.proofs.lemmas.List.Elements.{All-from_recursion, filter-append, filter_from_retain, recursion_from_All}
pub use Rattle.std.proofs.lemmas.Map.{keys-set_value, length-set_value, lookup-remove_entry}
pub use Rattle.std.proofs.lemmas.Map.Entries.{lookup-filter-keys}
pub use Rattle.std.proofs.lemmas.Map.Keys.{IsDistinct-cons, IsDistinct-head, IsDistinct-push, IsDistinct-tail}
pub use Rattle.std.proofs.lemmas.Map.Made.{is_some-lookup}
pub use Rattle.std.proofs.lemmas.Map.Text.{is_eq-slice_cmp}
pub use Rattle.std.proofs.lemmas.Map.Views.{All-map-remove_entry}
pub use Rattle.std.proofs.lemmas.Option.{get_or_from_slice_get, slice_get-get_or, slice_get-map, slice_get_within}
pub use Rattle.std.proofs.lemmas.Slice.Eq.{bytes_eq-Decides}
pub use Rattle.std.specs.Cmp.Lexicographic.{nat_list_cmp_total, nat_list_eq_equiv}
pub use Rattle.std.specs.List.{AllByRecursion, IsDistinct, insert, remove}
pub use Rattle.std.specs.List.Sorted.{IsBinarySearchResult, IsNonDecreasingBy, IsSearchInRange}
pub use Rattle.std.specs.Map.{keys_of, lookup, remove_entry, set_value}
pub use Rattle.std.specs.Ordering.{is_eq, ordering_index, ordering_reverse}
pub use lib.Dec.{ltb}
