-- The names that the lemmas cite, passed on from one place.
pub use Rattle.kob_names.specs.TextRules.{is_topic_byte, topic_fault}
pub use Rattle.kob_outbox.specs.Contents.{Contents, Event, stored_event, stored_row}
pub use Rattle.kob_outbox.specs.declared.event.OutboxEvent.{OutboxEvent}
pub use Rattle.kob_producers.specs.Judge.{next_sequence}
pub use Rattle.kob_rights.specs.declared.reply.Body.{Body}
pub use Rattle.kob_rights.specs.declared.reply.Reply.{Reply}
pub use Rattle.kob_rights.specs.declared.reply.Reply.TheVariants.{Denied, Done, Refused}
pub use Rattle.kob_rights.specs.declared.request.Request.{Request}
pub use Rattle.kob_rights.specs.declared.request.Request.TheVariants.{InitProducerId}
pub use Rattle.kob_router.specs.Run.{Dispatching, dispatch_of, place_of, murmur2, partition_of, with_bytes, after_use, has_place, same_place, sequence_of, with_sequence_for, Hand, IsDone, IsRouterRun, IsSending, KeepsRow, May, MayCall, Move, State, after, after_acknowledgement, calls_of, producer_after}
pub use Rattle.kob_router.specs.Route.{event_id, each_entry, entries_of, id_header, message_of, placed_header, topic_named, each_dollar_begins, is_template, with_routed_value}
pub use Rattle.kob_router.specs.Line.{Adds}
pub use Rattle.kob_router.specs.Tick.{Acknowledges, HasHand, Introduces, Requests, Takes, EndsHeard, EndsUnmarked, IsReport, IsAtMostOne, IsHeld, IsOfTick, IsOneTick, Point, Ticks, hand_of, state_of}
pub use Rattle.kob_router.specs.Run.Move.{Called, Recorded, Restarted, Swept, Took}
pub use Rattle.kob_router.specs.declared.dispatch.Target.{Target}
pub use Rattle.kob_router.specs.declared.line.Call.{Call}
pub use Rattle.kob_router.specs.declared.line.Delivery.TheVariants.{Lost}
pub use Rattle.kob_router.specs.declared.place.Place.{Place}
pub use Rattle.kob_router.specs.declared.placement.Placed.{Placed}
pub use Rattle.kob_router.specs.declared.placement.PlacedColumn.TheVariants.{AggregateId, AggregateType, EventType}
pub use Rattle.kob_router.specs.declared.sender.HeldRow.{HeldRow}
pub use Rattle.kob_router.specs.declared.sender.Producer.{Producer}
pub use Rattle.kob_router.specs.declared.sender.Sender.{Sender}
pub use Rattle.kob_router.specs.declared.sequences.Sequence.{Sequence}
pub use Rattle.kob_router.specs.declared.settings.Routing.{Routing}
pub use Rattle.kob_router.specs.declared.tick.StopReason.{StopReason}
pub use Rattle.kob_router.specs.declared.tick.Tick.{Tick}
pub use Rattle.kob_router.specs.declared.tick.Tick.TheVariants.{Idle, Moved, Repeat, Stopped}
pub use Rattle.std.proofs.Common.{All, Bool, Err, IfOk, IsOk, List, None, Ok, Option, Result, Some, [], ap, append-nil, append_assoc, arith, drop, false, get_or, if◌then◌else◌, inl, inr, length, lit<, map, not, refl, set, subst, suc, sym, take, true, true≢false, ℕ, ◌++◌, ◌+◌, ◌-◌, ◌<◌, ◌^◌, ◌↔◌, ◌∙◌, ◌∷◌, ◌≡◌, ◌≤◌}
pub use Rattle.std.proofs.lemmas.Bool.{cases_Bool, cases_lt, cond-false, cond-true, eq-eqb, or_left, or_right}
pub use Rattle.std.proofs.lemmas.Bool.Decides.{nat_tests}
pub use Rattle.std.proofs.lemmas.Grind.{common_steps}
pub use Rattle.std.proofs.lemmas.Iterator.Consumers.{map_from_collect}
pub use Rattle.std.proofs.lemmas.Iterator.Splits.{YieldsList-from_str_split}
pub use Rattle.std.proofs.lemmas.List.{drop_more, get_or_past, set_split}
pub use Rattle.std.proofs.lemmas.List.Sums.{prefix_len_passes}
pub use Rattle.std.proofs.lemmas.Slice.Eq.{bytes_eq-Decides}
pub use Rattle.std.proofs.lemmas.Str.{IsUtf8-from_ascii}
pub use Rattle.std.specs.List.{AllByRecursion, prefix_len}
pub use Rattle.std.specs.Option.{is_some}
pub use Rattle.std.specs.Prelude.{codes, option_map}
pub use Rattle.std.specs.Result.{result_ok}
pub use Rattle.std.specs.Str.{IsUtf8}
pub use Rattle.uuid.proofs.RoundTrips.{parses_hyphenated}
pub use Rattle.uuid.specs.Text.{lower, parsed}
