-- The names that the lemmas cite, passed on from one place.
pub use Rattle.kob_catalog.specs.Kept.{create_fault, CatalogKept, kept_of, topics_of, with_log, LogKept, retained_meaning}
pub use Rattle.kob_catalog.specs.Topics.{Topic, has_topic, listed, listed_where, partition_count, partition_of, partitions_of, topic_map, topics_map, with_partition, without_topic, same_text}
pub use Rattle.kob_ordered.proofs.Entries.{none_of, one_name, removed_absent, lookup_without, map_filter, removed_others, set_value_mapped, some_mapped}
pub use Rattle.kob_ordered.proofs.Listed.{get_set}
pub use Rattle.kob_ordered.proofs.Places.{equal_names}
pub use Rattle.std.proofs.Common.{Bool, List, None, Option, Some, [], ap, append-nil, append_assoc, arith, cond, false, filter, is_some, length, map, nat_eq, not, option_map, refl, replicate, slice_get, slice_set, subst, suc, sym, true, unwrap_or, zero, ℕ, ◌&&◌, ◌++◌, ◌∙◌, ◌∷◌, ◌≡◌}
pub use Rattle.std.proofs.lemmas.Bool.Decides.{nat_tests}
pub use Rattle.std.proofs.lemmas.Cmp.{nat_eq_equiv, nat_list_eq_equiv}
pub use Rattle.std.proofs.lemmas.List.{length-map, map-set, set-get_or}
pub use Rattle.std.proofs.lemmas.Map.{lookup-set_value}
pub use Rattle.std.proofs.lemmas.Map.Made.{lookup-map_values}
pub use Rattle.std.proofs.lemmas.Map.Steps.{set_value_same}
pub use Rattle.std.proofs.lemmas.Option.{get_or_from_slice_get, slice_get-map}
pub use Rattle.std.specs.Map.{lookup, remove_entry, set_value}
