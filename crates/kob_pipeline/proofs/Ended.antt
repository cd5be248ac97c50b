-- How many workers there are, and what is left where the journal is what was noted.
use Rattle.kob_pipeline.proofs.Words.{All, AllByRecursion, AllZip, Binding, Bool, EachIsAnswered, Follows, HasEnded, IsAnswered, IsAsNoted, IsEnd, IsFullOnlyPast, IsLeft, IsLegal, IsNamedWithin, IsPipeline, IsWhole, List, NamesOneOf, Noted, PipelineEnd, Plan, Planned, Settings, Some, WorkerEnd, [], arith, cond, events_in, fold, length, length-append, length-map, map, nat_tests, notes_of, opened_by, planned_as, planned_workers, recursion_from_All, settings_of, state_of, told_in, workers_planned, ℕ, ◌++◌, ◌+◌, ◌∷◌, ◌≡◌, ◌≤◌}
use Rattle.kob_rights.specs.declared.event.Event.{Event}
use Rattle.kob_shared.specs.Journals.{Record}
use Rattle.kob_shared.specs.declared.work.Done.{Done}
use Rattle.kob_shared.proofs.Fleets.{begins_with}
use Rattle.kob_shared.proofs.Journals.{opened_again}
use Rattle.kob_pipeline.specs.declared.worker.Worker.{Worker}
use Rattle.kob_authorizer.specs.Creation.{with_new, create_fault, limit_fault}
use Rattle.kob_authorizer.specs.declared.fault.CreateFault.TheVariants.{TooMany}
use Rattle.kob_authorizer.proofs.Creating.{fault_by_count}
use Rattle.kob_shared.specs.declared.fleet_stop.FleetStop.{FleetStop}

-- how many workers there are
pub workers_counted : (plan : Plan) (workers : List Worker) → map planned_as workers ≡ planned_workers plan
    → length workers ≡ workers_planned plan
workers_counted plan workers same = grind (arith, nat_tests, length-map, length-append)

all_ended : (workers : List Worker) (done : List (Done WorkerEnd)) → AllByRecursion IsWhole done
    → AllZip (λ w d. IsLeft (planned_as w) d.notes d.end) workers done
    → AllZip (λ w d. HasEnded w d.notes d.end) (map planned_as workers) done
all_ended [] [] kept all = tt
all_ended (w ∷ workers) (d ∷ done) kept all = grind (arith, nat_tests, all_ended workers done kept.1 all.1)
all_ended _ _ kept all = absurd all

all_answered : (done : List (Done WorkerEnd)) → AllByRecursion IsWhole done
    → EachIsAnswered (events_in (map (λ d. d.notes) done)) (told_in (map (λ d. d.notes) done))
all_answered [] kept = tt
all_answered (d ∷ done) kept = (kept.0.1, all_answered done kept.1)

-- all notes have a receipt for each event
pub each_answered : (first : Noted) (done : List (Done WorkerEnd)) → IsAnswered (length first.events) first.told
    → All IsWhole done → EachIsAnswered (events_in (notes_of first done)) (told_in (notes_of first done))
each_answered first done answered kept = (answered, all_answered done (recursion_from_All IsWhole done kept))

-- the journal is what was noted
pub ended : (opening : Settings) (first : Noted) (workers : List Worker) (done : List (Done WorkerEnd))
    (found : Record) (end : PipelineEnd)
    → IsLegal (opened_by found.opening) found.journal found.broker
    → (found.opening ≡ opening) × IsAsNoted (notes_of first done) found → Follows 0 first.told
    → AllZip (λ w d. IsLeft (planned_as w) d.notes d.end) workers done
    → IsAnswered (length first.events) first.told → All IsWhole done
    → state_of end.broker ≡ found.broker → end.journal ≡ found.journal → end.first ≡ first → end.done.items ≡ done
    → IsEnd (opened_by opening) first.events (map planned_as workers) end
ended opening first workers done found end legal noted follows each answered kept broker journal same all = grind (arith, nat_tests, each_answered, begins_with, all_ended, recursion_from_All)

-- so it is of a plan
pub as_planned : (opening : Settings) (plan : Plan) (events : List Event) (planned : List Planned) (end : PipelineEnd)
    → opening ≡ settings_of (opened_by plan.settings) → events ≡ plan.first → planned ≡ planned_workers plan
    → IsEnd (opened_by opening) events planned end → IsPipeline plan end
as_planned opening plan events planned end stored first workers is = grind (arith, nat_tests, opened_again)

-- Few opening bindings pass no limit.

one_more : (known : Bool) (fresh : List Binding) (b : Binding)
    → length (cond known fresh (fresh ++ b ∷ [])) ≤ length fresh + 1
one_more known fresh b = grind (arith, nat_tests, length-append fresh (b ∷ []))

few_new : (fresh bs : List Binding) → length (fold (with_new []) fresh bs) ≤ length fresh + length bs
few_new fresh [] = omega arith
few_new fresh (b ∷ bs) = grind (arith, nat_tests, few_new (with_new [] fresh b) bs, one_more)

few_pass : (count next : ℕ) → count ≤ 100000 → limit_fault count next ≡ Some TooMany → ⊥
few_pass count next few is = grind (arith, nat_tests, few, is)

pub few_open : (bs : List Binding) → length bs ≤ 100000 → create_fault [] 1 bs ≡ Some TooMany → ⊥
few_open bs few is = grind (arith, nat_tests, few_new, few_pass, fault_by_count)

-- The worker that a fault of a pipeline names.

-- a fleet of no more workers names one of them, and not worker 0 where its events fit
pub named_fleet : (low high limit count : ℕ) (s : FleetStop) → low ≤ high → IsNamedWithin low s
    → IsFullOnlyPast limit count s → count ≤ limit → NamesOneOf high s
named_fleet low high limit count s less named full fits = grind (arith, nat_tests)
