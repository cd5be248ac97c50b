-- The names that the lemmas cite, passed on from one place.
pub use Rattle.kob_groups.specs.Groups.{AreFilled, is_among, Ordered, name_at, CommitPlace, Commits, Groups, commits_of, committed_at, has_group, offsets_on, place_of, with_commit, with_offset, without_group, without_offsets, without_topic, insert_entry, same_text}
pub use Rattle.kob_groups.specs.Listed.{AreListed, HasRoomFor, group_of, has_commits, is_listed, is_pair, topic_of, commits_in, groups_in, offsets_in, without_topic_at, GroupsByTopic}
pub use Rattle.kob_groups.specs.Kept.{CanEnter, CanPut, groups_of, place_at, place_in, topic_among, topic_in}
pub use Rattle.kob_ordered.proofs.Entries.{none_of, one_name, removed_absent, lookup_without, map_filter, removed_others, set_value_mapped, some_mapped, name_is, stands_there}
pub use Rattle.kob_ordered.proofs.Places.{equal_names, same_name}
pub use Rattle.std.proofs.Common.{Bool, List, None, OnErr, Option, Result, Some, ap, append-nil, arith, cond, false, filter, inl, inr, is_some, length, length-append, map, nat_eq, not, option_map, refl, slice_get, subst, suc, sym, true, unwrap_or, zero, [], ℕ, ◌&&◌, ◌++◌, ◌<◌, ◌||◌, ◌∙◌, ◌∷◌, ◌≡◌}
pub use Rattle.std.proofs.lemmas.Bool.Decides.{nat_tests}
pub use Rattle.std.proofs.lemmas.Bool.{cases_Bool}
pub use Rattle.std.proofs.lemmas.Cmp.{nat_eq_equiv}
pub use Rattle.std.proofs.lemmas.Grind.{common_steps}
pub use Rattle.std.proofs.lemmas.List.{length-map, nil_from_length}
pub use Rattle.std.proofs.lemmas.Map.Keys.{IsDistinct-head, IsDistinct-tail}
pub use Rattle.std.proofs.lemmas.Map.Made.{keys_of-map_values, lookup-map_values}
pub use Rattle.std.proofs.lemmas.Map.Steps.{set_value_same}
pub use Rattle.std.proofs.lemmas.Map.{lookup-set_value}
pub use Rattle.std.specs.Cmp.Lexicographic.{nat_list_eq_equiv}
pub use Rattle.std.specs.Cmp.{IsEquivalence}
pub use Rattle.std.specs.List.{AllByRecursion, IsDistinct}
pub use Rattle.std.specs.Map.{keys_of, lookup, remove_entry, set_value}
pub use Rattle.std.specs.Option.{option_copied_mut}
