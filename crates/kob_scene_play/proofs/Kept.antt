-- What a record answered.
use Rattle.kob_scene_play.proofs.Words.{Change, Column, Does, Err, IfOk, IsErrOf, IsTrue, List, None, Ok, OnErr, OnOk, OutboxEvent, RecordFault, Recorded, Records, Result, Service, Some, first_bad, id_text, is_recorded, next_seq, refl, ℕ, ◌≡◌}
use Rattle.kob_outbox.specs.Contents.{first_bad_of_change}
use Rattle.kob_outbox.specs.declared.fault.RecordFault.TheVariants as faults
use Rattle.kob_scene_play.specs.Steps.{Crashes, IsPrinted, IsServiceChange, Tells, crashed, hides}
use Rattle.kob_scene_text.specs.PrintedRows.{recorded_text}
use Rattle.kob_scene_text.specs.declared.scene.Recording.TheVariants.{Late, Whole}
use Rattle.kob_scene_text.specs.declared.scene.ServiceStep.TheVariants as service_steps

-- what a record answered, by its clauses
pub records : (change : Change) (event : OutboxEvent) (old new : Service) (result : Result ℕ RecordFault)
    → IfOk result (λ seq. seq ≡ next_seq old.outbox) → OnOk result (Does (Recorded change event) old new)
    → OnErr result (new ≡ old)
    → ((column : Column) → IsErrOf result (faults.BadField column) → first_bad change event ≡ Some column)
    → (IsErrOf result faults.DuplicateId → IsTrue (is_recorded old.outbox.ids (id_text event.id)))
    → Records change event old new result
records change event old new (Ok seq) value ok err bad duplicate = (ok, value)
records change event old new (Err (faults.BadField column)) value ok err bad duplicate = (err, bad column refl)
records change event old new (Err faults.DuplicateId) value ok err bad duplicate = (err, duplicate refl)
records change event old new (Err (faults.Memory e)) value ok err bad duplicate = err
records change event old new (Err faults.Store) value ok err bad duplicate = err

-- what a record answered that crashed, by its clauses
pub crashes : (change : Change) (event : OutboxEvent) (old new : Service) (result : Result (Unit {0}) RecordFault)
    → OnOk result (new ≡ crashed change event old) → OnOk result (first_bad_of_change change ≡ None)
    → OnErr result (new ≡ old)
    → ((column : Column) → IsErrOf result (faults.BadField column) → first_bad_of_change change ≡ Some column)
    → (IsErrOf result faults.DuplicateId → ⊥) → Crashes change event old new result
crashes change event old new (Ok done) ok good err bad duplicate = (ok, good)
crashes change event old new (Err (faults.BadField column)) ok good err bad duplicate = (err, bad column refl)
crashes change event old new (Err faults.DuplicateId) ok good err bad duplicate = duplicate refl
crashes change event old new (Err (faults.Memory e)) ok good err bad duplicate = err
crashes change event old new (Err faults.Store) ok good err bad duplicate = err

-- what was recorded is printed
pub recorded_whole : {E : Type 0} (result : Result (Unit {0}) E) (change : Change) (event : OutboxEvent)
    (old new : Service) (answer : Result ℕ RecordFault) (told then_told : ℕ) (held now : List ℕ)
    → Records change event old new answer
    → OnOk result (Tells (IsPrinted (recorded_text answer) told then_told) held now)
    → OnOk result (Tells (IsServiceChange (service_steps.Record change event Whole) old new told then_told) held now)
recorded_whole (Ok done) change event old new answer told then_told held now recorded (text, printed, is) =
    (text, (answer, recorded, printed), is)
recorded_whole (Err fault) change event old new answer told then_told held now recorded printed = tt

-- what was recorded is hidden, and printed
pub recorded_late : {E : Type 0} (result : Result (Unit {0}) E) (change : Change) (event : OutboxEvent)
    (old mid new : Service) (answer : Result ℕ RecordFault) (told then_told : ℕ) (held now : List ℕ)
    → Records change event old mid answer → new ≡ hides answer mid
    → OnOk result (Tells (IsPrinted (recorded_text answer) told then_told) held now)
    → OnOk result (Tells (IsServiceChange (service_steps.Record change event Late) old new told then_told) held now)
recorded_late (Ok done) change event old mid new answer told then_told held now recorded hidden (text, printed, is) =
    (text, (answer, mid, recorded, hidden, printed), is)
recorded_late (Err fault) change event old mid new answer told then_told held now recorded hidden printed = tt
