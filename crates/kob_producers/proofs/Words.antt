-- The names that the lemmas cite, passed on from one place.
pub use Rattle.circular_buffer.specs.Buffer.{Buffer, buffer, keep_last, last_item}
pub use Rattle.kob_producers.specs.Judge.{is_same, judge, judge_by, judge_first, memory_length, Idem, Judgement, Repeat, Sent}
pub use Rattle.kob_producers.specs.Recent.{Keeps, Recent, recent_after, sent_batch, sent_by, with_sent, IsRing, recent_in, CanAccept, TableKept, table_of}
pub use Rattle.std.proofs.Common.{Bool, IfSome, IsSome, List, None, Option, Some, ap, arith, cond, drop, drop-drop, eq-eqb, eqb-true, false, find, is_some, le-ltb, length, length-append, length-drop, ltb-true, map, nat_cmp, nat_eq, nat_lt, option_map, refl, rules, slice_get, subst, suc, sym, true, unwrap_or, zero, [], ℕ, ◌&&◌, ◌++◌, ◌+◌, ◌-◌, ◌<◌, ◌==◌, ◌||◌, ◌∙◌, ◌∷◌, ◌≡◌, ◌≤◌}
pub use Rattle.std.proofs.lemmas.Bool.Decides.{nat_tests}
pub use Rattle.std.proofs.lemmas.Cmp.{eq_by_cmp_equiv, nat_cmp_total}
pub use Rattle.std.proofs.lemmas.List.{drop-append-le}
pub use Rattle.std.specs.Cmp.{unsigned_tied}
pub use Rattle.std.specs.FinMap.{empty, get, get-empty, get-insert, insert}
pub use Rattle.std.specs.HashMap.{get_by, spare}
pub use Rattle.std.specs.Map.{lookup}
pub use Rattle.std.proofs.lemmas.List.Folds.{find-append}
