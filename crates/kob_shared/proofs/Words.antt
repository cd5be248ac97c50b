-- The names that the lemmas cite, passed on from one place.
pub use Rattle.kob_authorizer.proofs.Creating.{added_rises, in_turn_at_once}
pub use Rattle.kob_broker.proofs.Steps.{replies_of_append, reply_at, state_after_append}
pub use Rattle.kob_broker.specs.Step.{state_of, replies_of, step, step_by}
pub use Rattle.kob_broker.specs.State.{State, settings_of, with_bindings}
pub use Rattle.kob_broker.specs.declared.broker.Broker.{Broker}
pub use Rattle.kob_names.specs.declared.settings.Settings.{Settings}
pub use Rattle.kob_partition.specs.Retained.{Retained, retained_meaning}
pub use Rattle.kob_rights.specs.Requests.{Fits, OffsetsWithin}
pub use Rattle.kob_rights.specs.declared.event.Event.{Event}
pub use Rattle.kob_rights.specs.declared.reply.Reply.{Reply}
pub use Rattle.kob_shared.specs.Fleets.{BeginsWith, DifferAt, EachIsAnswered, Follows, IsAnswered, IsDifference, IsFirstDifference, IsFleet, IsKept, IsRising, IsTornAt, RisesWithin, asked_of_all, claims, claims_of, entries_asked, entries_told, events_of_script, mine, mine_from}
pub use Rattle.kob_shared.specs.Runs.{IsAsNoted, IsFirstFault, IsFullOnlyPast, IsNamedWithin, IsTaken, IsTear, IsTornOnlyWhere, NamesFirstFault, NamesOneOf, NamesWorkerWithin, events_in, notes_of, told_in}
pub use Rattle.kob_shared.specs.Journals.{Continuation, EachEntryIsJust, EachEntryIsOneStep, IsContinued, IsFresh, IsFromOpening, IsLegal, IsReached, IsSound, Record, after_event, begun_after, continued_by, entries_made, entry, entry_limit, events_of, opened_by, outcome_of, replayed_by, IsServed, Noted, event_by}
pub use Rattle.kob_shared.specs.declared.compare.Difference.{Difference}
pub use Rattle.kob_shared.specs.declared.faults.CallFault.{CallFault}
pub use Rattle.kob_shared.specs.declared.fleet_stop.FleetStop.{FleetStop}
pub use Rattle.kob_shared.specs.declared.journal.Entry.{Entry}
pub use Rattle.kob_shared.specs.declared.journal.Receipt.{Receipt}
pub use Rattle.kob_shared.specs.declared.script.Script.{Script}
pub use Rattle.kob_shared.specs.declared.work.Done.{Done}
pub use Rattle.std.proofs.Common.{Bool, Err, IfErr, IfOk, List, Ok, Option, Result, Some, [], add-one, ap, append-nil, append_assoc, arith, get_or, inl, inr, length, length-append, map, min, refl, slice_get, subst, suc, sym, take, take-suc, take_all, true≢false, vec_capacity, vec_len, zero, ℕ, ◌++◌, ◌+◌, ◌<◌, ◌∙◌, ◌∷◌, ◌≡◌, ◌≢◌, ◌≤◌}
pub use Rattle.std.proofs.Math.Numerals.{suc-eq-add-one}
pub use Rattle.std.proofs.lemmas.Bool.{cases_Bool, cases_lt, eq-eqb, ne_eqb}
pub use Rattle.std.proofs.lemmas.Bool.Decides.{nat_tests}
pub use Rattle.std.proofs.lemmas.List.{get_or-map, get_or_past, length-map, length-take, length-take-le, length_push, map-append, take-map}
pub use Rattle.std.proofs.lemmas.Option.{get_or_from_slice_get, slice_get-get_or, slice_get-map, slice_get_cases, slice_get_read, slice_get_within}
pub use Rattle.std.proofs.lemmas.Result.{IfErr-weaker, IfOk-weaker}
pub use Rattle.std.proofs.lemmas.Slice.Zip.{AllZip-long, all_zipped_more}
pub use Rattle.std.specs.List.{All, AllByRecursion, AllZip, enumerate_from, fold, sum_by}
pub use Rattle.std.specs.Prelude.{IfSome, MatchOption, OnErr, OnOk, if◌then◌else◌, nat_lt, ◌==◌}
pub use Rattle.std.specs.Vec.Iter.{into_iter_items}
pub use denote.Param.Send.{IsSend, IsSync, sendable, view_send}
