-- The names that the lemmas cite, passed on from one place.
pub use Rattle.core.proofs.alloc.Calls.{Al, Goes-blank, handle_tells}
pub use Rattle.core.proofs.alloc.Shapes.{after}
pub use Rattle.core.proofs.atomic.Steps.{Ptr-Good}
pub use Rattle.kob_prefix_tree.specs.Cells.{KnowsEnd, values_of}
pub use Rattle.kob_prefix_tree.specs.Tree.{ChangedAt, Entries, behind, entries_below, entries_in, IsNeat, behind_one, count, held_in, siblings, value_at, without, Tree, leaf, node, Contents, Trie, bare, led_by, sibling, void}
pub use Rattle.kob_prefix_tree.specs.Contents.{contents, end_of, seen, trie_of, EndsAt, IsWay, LeadsNowhere, is_bare, kept_behind, unwound, with_child, held_from, unread_of, ahead_of, left_of, longer_prefixes, serials_beyond}
pub use Rattle.kob_prefix_tree.specs.Held.{Held, has_serials, is_nothing, nothing, serials_of, with_serial, without_serials, has_in_turn, without_in_turn, IsLongestInUse, common_length, prefixes, serials_along, PrefixMap, added, held, removed_all}
pub use Rattle.kob_prefix_tree.specs.Nodes.{Leads, if_none, last_of, leading_to, linked_row, size, tree_of, with_others}
pub use Rattle.kob_prefix_tree.specs.Owned.{NodeOf, Pointer, low, node_of, nodes_lent, nodes_own, pointer_codes, way}
pub use Rattle.kob_prefix_tree.specs.Path.{Parts, key_of}
pub use Rattle.kob_prefix_tree.specs.declared.branch.Branch.{Branch}
pub use Rattle.kob_prefix_tree.specs.declared.cells.Serial.{Serial}
pub use Rattle.kob_prefix_tree.specs.declared.kind.PatternKind.{PatternKind}
pub use Rattle.kob_prefix_tree.specs.declared.kind.PatternKind.TheVariants.{Literal, Prefixed}
pub use Rattle.kob_prefix_tree.specs.declared.link.Link.{Link}
pub use Rattle.kob_prefix_tree.specs.declared.node.Node.{Node}
pub use Rattle.kob_prefix_tree.specs.declared.place.Place.{Place}
pub use Rattle.kob_prefix_tree.specs.declared.serials.Unread.{Unread}
pub use Rattle.kob_prefix_tree.specs.declared.walk.Ahead.{Ahead}
pub use Rattle.std.proofs.Common.{Bool, Decides, Global, IsTrue, List, MatchOption, None, Option, Some, ap, append-nil, append_assoc, arith, cond, drop, eq-eqb, eqb-true, false, inl, inr, length, refl, subst, suc, sym, take, true, true≢false, unwrap_or, zero, [], ℕ, ◌++◌, ◌+◌, ◌<◌, ◌==◌, ◌^◌, ◌||◌, ◌↔◌, ◌∙◌, ◌∷◌, ◌≡◌, ◌≢◌, ◌≤◌, ◌⊎◌}
pub use Rattle.std.proofs.Crossing.{frees}
pub use Rattle.std.proofs.GlobalToken.{dealloc_token-Testable}
pub use Rattle.std.proofs.Math.Bool.{and-true}
pub use Rattle.std.proofs.lemmas.Bool.Decides.{nat_tests}
pub use Rattle.std.proofs.lemmas.Grind.{common_steps}
pub use Rattle.std.proofs.lemmas.List.{length-drop, nil_from_length, take-append-drop, take_all}
pub use Rattle.std.proofs.lemmas.List.Elements.{Contains-append_cases, Contains-append_left, Contains-append_right}
pub use Rattle.std.proofs.lemmas.List.Folds.{flat_map-map}
pub use Rattle.std.proofs.lemmas.Map.Text.{is_eq-slice_cmp}
pub use Rattle.std.proofs.lemmas.Slice.Eq.{bytes_eq-Decides}
pub use Rattle.std.proofs.raw_atomic.Walks.{leaves, proved, proved_at}
pub use Rattle.std.specs.Cmp.Lexicographic.{nat_list_cmp_total, slice_cmp}
pub use Rattle.std.specs.FinMap.{find, nat_cmp-IsAntisymmetric, slice_cmp-IsAntisymmetric}
pub use Rattle.std.specs.List.{Contains, flat_map, list_any}
pub use Rattle.std.specs.Option.{option_or}
pub use Rattle.std.specs.Ordering.{eq_by_cmp, nat_cmp}
pub use Rattle.std_alloc.proofs.OfVacant.{Vacant-had, Vacant-made, vacant_ty, vacant_typed, vacant_val}
pub use Rattle.std_alloc.proofs.Pairs.{pair_Typed, pair_of, pair_val}
pub use Rattle.std_alloc.proofs.RawLayout.{as_raw, as_written}
pub use Rattle.std_alloc.proofs.SendSync.{lies, quiet}
pub use Rattle.std_alloc.specs.Box.Ownership.{box_owns}
pub use base.Fml.{Fml, GName, Incl, Incl-refl, Incl-trans, Lft, Share, fat, feq, fhide, flft, froom, fsep, ftrue}
pub use base.Fraction.{full_share}
pub use base.Logic.{SProp, all, all_e, apply∗, emp, ent, fst∗, id⊢, never, sep, wand}
pub use base.Shift.{Keyless}
pub use borrow.Table.OneValue.{part_in, part_out}
pub use contract.BorrowLft.{meet_⊑_left, ◌⊑◌}
pub use contract.Monad.{fact, fact_i, fact_use}
pub use contract.Running.{tables}
pub use denote.Copied.{plain_Copied}
pub use denote.Exit.{no, yes}
pub use denote.Follow.{follows, lends_Part}
pub use denote.Laws.{Lawfuls, Typed}
pub use denote.Memory.{cell_at, hidden_shr, lone, mem, part_at, shared_of}
pub use denote.Opens.{Shut, hide, shr_dup, unhide}
pub use denote.Param.{layouts, param}
pub use denote.Param.Laws.{Laws, param_laws, row_shared}
pub use denote.Param.Send.{Common, IsSend, IsSync, owning_send, sendable, struct_send, struct_sync}
pub use denote.Param.Shared.{Sharables, copy_shared, struct_field_shared, struct_shares}
pub use denote.RattleType.{RattleType, RowLaws, Valss, owns}
pub use denote.RawPtr.{InBlock, Ptr, RawPtr, Testable, at_block, block_of, block_ptr, coded_ptr, count_of, in_a_block, lies_at, null_ptr, ptr_own, ptr_val, rawptr_pure, tests_null}
pub use denote.Ref.{Bor, MutRef, mut_Tells, mut_vals, shr_Tells, shr_vals}
pub use denote.Shares.{Shares-less, SharesAt}
pub use denote.Sharing.{ShrLaws, said}
pub use denote.SharingLaws.{beside_shr_laws, said_shr_laws}
pub use denote.Signature.{plain, types_at}
pub use denote.Steps.{heard, looks, opens, shuts}
pub use denote.Struct.Declared.{Declared, fields}
pub use denote.Struct.Field.{RawPtr-field}
pub use denote.Struct.Laws.{RawPtr-copy, RawPtr-laws}
pub use denote.Struct.Lending.{Law, Lends, Lends-both, Lends-first, Lends-lies, Lends-said, in_block_says, lending_shared, lent_at, lent_at_shr_laws, lent_out, of_Lends}
pub use denote.Struct.Members.{Member, rows_of}
pub use denote.Struct.Owning.{row, shape, to}
pub use denote.Struct.Parts.{PartsBack}
pub use denote.Struct.Pick.{field_back, field_out, rest_at}
pub use denote.Struct.Struct.{Struct, exits_of, within}
pub use denote.Struct.Tuple.{Tuple}
pub use denote.Triple.Walked.{Goes-dropped, Goes-none_ref, Goes-spent_ref, Stays, stay_dropped, stay_none_ref, walk_of}
pub use lib.Dec.{lit<}
pub use mir.MapTy.{inst_fn}
pub use mir.Syntax.{Ty, a_type, dnil, impl, named, tnil, ty_ptr}
pub use mir.Val.{Val, WT, has_ty, of_list, ptr_same, vbool, vnull, vptr, vstruct, vunit}
pub use prog.Memory.{align, up}
pub use prog.Wp.{WpFn}
pub use seplogic.Ra.Ura.{Ura}
pub use types.ByLocal.{alloc_all, env, free_all, get, get_in, look_at, pass_all, sets, sets_last, through}
pub use types.Kit.{ !, Goal, Item, Seq, Soaks, Step, assume, at_ret, await, by, done, each, feq_i, feq_l, fjoin, fjoin3, flt_i, flt_l, fpack, fpick, fsplit, fsplit3, group, join, keep, later, move, pick, prop, qed, raw, regoal, rewrite, some, split, split3, step, use0, use1, use2, use3, ‵, ◌$◌, ◌∵◌, ◌⊛◌}
pub use types.Logic.{Logic, sem}
pub use types.Part.{agg, look_in, sub, whole}
pub use types.Run.{addr, and_then, assigns_last, bin, blocks, enter, exec, first, fld, hop, init, lit, load, look, no_more, of_opd, returns, stop, store, well_typed}
