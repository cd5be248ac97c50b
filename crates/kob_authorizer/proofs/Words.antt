-- The names that the lemmas cite, passed on from one place.
pub use Rattle.kob_authorizer.specs.Decide.{question_view, decide, decide_by_bindings, first_serial, hits, is_hit, is_match, is_super, is_unmatched, unless_open, verdict_of, Question, question_of, IsEarliest, IsTrueVerdict, Matches, NoneHits, NoneMatches, SomeMatches, Contents, IsRising, State}
pub use Rattle.kob_authorizer.specs.Creation.{creation, is_among, is_in_force, is_known, new_bindings, serials_in, with_new, Added, AreDistinct, AreInForce, Creates, OnlyAdds, add_one, created, serial_of, with_binding, binding_limit, create_fault, limit_fault, bindings_of}
pub use Rattle.kob_authorizer.specs.Deletion.{bindings_left, bindings_taken}
pub use Rattle.kob_authorizer.specs.Index.{lesser, lesser_hits, no_hits, ArePatternsOf, Indexes, empty_index, entries_on, leaf_of, no_patterns, patterns_of, tree_of, with_entry, with_leaf, with_tree, IsIndex, Place, addition, is_place, key_place, kind_in_tree, pattern_place, same_kind, serials_at, with_addition, without_addition, AreRising, behind, entry_at, is_equal, keys_on, least_hits, least_passing, matching_serials, passes_at, serials_for, serials_from, Removal, begins_with, is_first_there, removal_of, removals_of, serials_beside, with_removal, without_removal}
pub use Rattle.kob_authorizer.specs.SuperUsers.{holds_text, texts_of, with_text}
pub use Rattle.kob_authorizer.specs.declared.hits.Hits.{Hits}
pub use Rattle.kob_authorizer.specs.declared.index.Index.{Index}
pub use Rattle.kob_authorizer.specs.declared.patterns.Patterns.{Patterns}
pub use Rattle.kob_names.proofs.SameBindings.{permission_decides, resource_decides, same_binding_decides}
pub use Rattle.kob_names.specs.Binding.{same_binding, covers, matches, matches_by, reaches, is_granted, Binding}
pub use Rattle.kob_names.specs.Filter.{takes}
pub use Rattle.kob_names.specs.Same.{same_resource, same_text}
pub use Rattle.kob_names.specs.declared.filter.BindingFilter.{BindingFilter}
pub use Rattle.kob_names.specs.declared.kinds.PatternKind.TheVariants.{Literal, Prefixed}
pub use Rattle.kob_names.specs.declared.kinds.Permission.{Permission}
pub use Rattle.kob_names.specs.declared.kinds.Permission.TheVariants.{Allow, Deny}
pub use Rattle.kob_names.specs.declared.kinds.ResourceKind.{ResourceKind}
pub use Rattle.kob_names.specs.declared.verdict.Verdict.{Verdict}
pub use Rattle.kob_prefix_tree.proofs.HeldLaws.{along_has_literal, along_has_prefixed, held_added_other, held_added_same, held_empty, held_removed_all_other, held_removed_all_same, walk_only}
pub use Rattle.kob_prefix_tree.proofs.WalkLemmas.{none_sought, taken_of_second}
pub use Rattle.kob_prefix_tree.specs.Held.{Held, serials_of, with_serial, without_serials, without_in_turn, serials_along, PrefixMap, added, held, removed_all, walk_of}
pub use Rattle.kob_prefix_tree.specs.Contents.{part_of, left_of}
pub use Rattle.kob_prefix_tree.specs.declared.kind.PatternKind.{PatternKind}
pub use Rattle.std.proofs.Common.{All, Bool, Contains, Err, IfSome, IsTrue, List, MatchResult, None, Ok, Option, Result, Some, ap, append-nil, append_assoc, arith, codes, cond, drop, false, get_or, inl, inr, is_some, length, length-append, map, min, nat_eq, not, refl, rules, subst, suc, sym, take, true, vec_len, zero, [], ℕ, ◌&&◌, ◌++◌, ◌+◌, ◌<◌, ◌==◌, ◌||◌, ◌↔◌, ◌∙◌, ◌∷◌, ◌≡◌, ◌≢◌, ◌≤◌, ◌⊎◌}
pub use Rattle.std.proofs.Math.Bool.{and-false, and-true, or-false, or-true, or_assoc}
pub use Rattle.std.proofs.Math.Nat.{le-min, min-le_left, min-le_right}
pub use Rattle.std.proofs.lemmas.Bool.{and_from, and_parts, both_ways, eq-eqb, eqb-true, ne_eqb, or_cases}
pub use Rattle.std.proofs.lemmas.Bool.Decides.{Decides-and, Decides-eqb, Decides-like, nat_tests}
pub use Rattle.std.proofs.lemmas.Cmp.{ranked}
pub use Rattle.std.proofs.lemmas.Fn.{filter_same}
pub use Rattle.std.proofs.lemmas.Grind.{common_steps}
pub use Rattle.std.proofs.lemmas.Iterator.Adapters.{option_map_id}
pub use Rattle.std.proofs.lemmas.Iterator.Consumers.{YieldsList-from_chain, YieldsList-from_filter, YieldsList-from_first, fold_from_yields_List, min_from_yields_List}
pub use Rattle.std.proofs.lemmas.List.{take_more, length-map, map-append, map_push}
pub use Rattle.std.proofs.lemmas.List.Elements.{All-contains, All-contains_itself, All-filter, All-from_recursion, All-head, All-map, All-nil, All-tail, All-weaker, Contains-append_cases, Contains-append_left, Contains-append_right, Contains-push, filter-append, filter_passes, recursion_from_All}
pub use Rattle.std.proofs.lemmas.List.Folds.{Any-from_list_any, find-append, list_any-from_Any}
pub use Rattle.std.proofs.lemmas.List.FromFn.{length-enumerate_from}
pub use Rattle.std.proofs.lemmas.List.Kept.{AllPairs-filter}
pub use Rattle.std.proofs.lemmas.List.Quantifiers.{all_pairs_push}
pub use Rattle.std.proofs.lemmas.List.Sorted.{answers_always}
pub use Rattle.std.proofs.lemmas.List.Sums.{fold_push, fold-append}
pub use Rattle.std.proofs.lemmas.Map.Views.{Contains-from_any, list_any-from_Contains}
pub use Rattle.std.proofs.lemmas.Slice.Eq.{bytes_eq-Decides, starts_is}
pub use Rattle.std.specs.Bool.{Decides, then_some}
pub use Rattle.std.specs.Cmp.Lexicographic.{nat_list_eq_equiv}
pub use Rattle.std.specs.List.{AllByRecursion, enumerate_from, filter, find, fold, list_any, reduce, starts_with}
pub use Rattle.std.specs.List.Sorted.{IsBinarySearchResult, IsNonDecreasingBy, IsSearchInRange}
pub use Rattle.std.specs.Option.{option_map, option_or}
pub use Rattle.std.specs.Ordering.{nat_cmp, ordering_index}
pub use Rattle.std.specs.Vec.Iter.{into_iter_len}
