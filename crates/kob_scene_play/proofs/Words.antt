-- The names that the lemmas cite, passed on from one place.
pub use Rattle.kob_inbox.specs.Run.{State}
pub use Rattle.kob_inbox.specs.Tick.{Ticks, point_of}
pub use Rattle.kob_inbox.specs.declared.fetcher.Subscription.{Subscription}
pub use Rattle.kob_inbox.specs.declared.tick.Tick.{Tick}
pub use Rattle.kob_connections.specs.Calls.{ArePassedOn, IsJournaled, Journals, PassesCallsOn, served_in}
pub use Rattle.kob_router.specs.declared.line.Loss.{Loss}
pub use Rattle.kob_outbox.specs.Contents.{Contents, id_text, first_bad, without_sent, after_record, is_recorded, next_seq}
pub use Rattle.kob_outbox.specs.declared.change.Change.{Change}
pub use Rattle.kob_outbox.specs.declared.event.OutboxEvent.{OutboxEvent}
pub use Rattle.kob_outbox.specs.declared.fault.OutboxFault.{OutboxFault}
pub use Rattle.kob_outbox.specs.declared.fault.RecordFault.{RecordFault}
pub use Rattle.kob_outbox.specs.declared.fields.Column.{Column}
pub use Rattle.kob_delivery.specs.View.{ArePrivate, IsBreach}
pub use Rattle.kob_delivery.specs.declared.premises.Breach.{Breach}
pub use Rattle.kob_router.specs.Line.{AreServed, Served, one_more}
pub use Rattle.kob_router.specs.Run.{Hand}
pub use Rattle.kob_router.specs.Run.Move.{Recorded}
pub use Rattle.kob_router.specs.Tick.{IsFirst, hand_of}
pub use Rattle.kob_router.specs.declared.line.Call.{Call}
pub use Rattle.kob_scene_play.specs.Stages.{line_of, IsOpened, declared_consumer, declared_service, named_consumer, named_service}
pub use Rattle.kob_scene_play.specs.Laws.{IsAnswered, IsCoverage, IsLaw, law_text}
pub use Rattle.kob_scene_play.specs.declared.law.Coverage.{Coverage}
pub use Rattle.kob_delivery_check.specs.Printed.{check_text}
pub use Rattle.kob_scene_play.specs.Checks.{IsChecked, IsFound}
pub use Rattle.kob_scene_play.specs.Steps.{BeginsConsumer, BeginsRun, BeginsService, Tells, Writes, AllGoOn, AreTicks, EndsRun, IsConsumerStep, IsServiceStep, IsTold, Records, Consumer, Does, IsConsumerTick, IsOwnTick, IsRouterTick, IsSameConsumer, IsServiceTick, LosesFirst, Service, IsConsumerChange, IsPrinted, IsReadOnce, IsServiceChange, IsSameService, consumer_goes_on, consumer_line, service_line, idle_in_row, idle_with, left_after, recorded_after, service_goes_on}
pub use Rattle.kob_scene_play.specs.Scenes.{ArePlayed, EndsAs, EndsScene, EndsSteps, IsRead, IsReady, IsServed, IsShown, IsStep, IsConsumerBeginning, IsWritten, Leaves, OthersStay, IsRunBeginning, IsServiceBeginning, Show, StopsIn, WritesSteps, show_of}
pub use Rattle.kob_scene_play.specs.Forms.{fault_shown, shown_by, shown_text, stopped_shown}
pub use Rattle.kob_scene_play.specs.declared.form.Form.{Form}
pub use Rattle.kob_scene_play.specs.declared.form.Shown.{Shown}
pub use Rattle.kob_scene_play.specs.declared.consumer_steps.Left.{Left}
pub use Rattle.kob_scene_play.specs.declared.fault.PlayFault.{PlayFault}
pub use Rattle.kob_scene_play.specs.declared.stage.PlayedConsumer.{PlayedConsumer}
pub use Rattle.kob_scene_play.specs.declared.stage.PlayedService.{PlayedService}
pub use Rattle.kob_scene_play.specs.declared.stage.Stage.{Stage}
pub use Rattle.kob_scene_play.specs.declared.text.Ended.{Ended}
pub use Rattle.kob_scene_text.specs.Scenes.{HasLines, MayRead, seen}
pub use Rattle.kob_scene_text.specs.Reading.{scene_fault_text}
pub use Rattle.kob_scene_text.specs.declared.fault.SceneFault.{SceneFault}
pub use Rattle.kob_scene_text.specs.declared.scene.ConsumerStep.{ConsumerStep}
pub use Rattle.kob_scene_text.specs.declared.scene.Scene.{Scene}
pub use Rattle.kob_scene_text.specs.declared.scene.ServiceStep.{ServiceStep}
pub use Rattle.kob_scene_text.specs.declared.scene.Step.{Step}
pub use Rattle.kob_shared.specs.declared.journal.Entry.{Entry}
pub use Rattle.std.proofs.Common.{Bool, List, [], ap, append-nil, append_assoc, arith, codes, drop, false, inl, inr, length, map, refl, rules, set, subst, suc, sym, take, true, zero, ℕ, ◌++◌, ◌+◌, ◌<◌, ◌∙◌, ◌∷◌, ◌≡◌, ◌≤◌, get_or, ◌||◌}
pub use Rattle.std.proofs.KnownBytes.{Appends-trans}
pub use Rattle.std.proofs.lemmas.List.{flat_map_more, length-take-le, take-append-drop, take_all, take_more, map-append}
pub use Rattle.kob_script.specs.Printed.{stopped_text}
pub use Rattle.kob_shared.specs.Journals.{Record}
pub use Rattle.std.proofs.lemmas.Option.{get_or_from_slice_get, none-some, slice_get_read}
pub use Rattle.std.specs.Fmt.{decimal}
pub use Rattle.std.specs.Io.KnownBytes.{Appends}
pub use Rattle.std.specs.List.{enumerate_from, flat_map}
pub use Rattle.std.specs.Option.{is_some, option_and_then}
pub use Rattle.std.specs.Prelude.{Err, IfErr, IfOk, IsErrOf, IsTrue, MatchOption, None, Ok, OnErr, OnOk, Option, Result, Some, option_map, slice_get}
pub use Rattle.std.specs.Vec.Iter.{into_iter_items}
