-- What the workers of a fleet left, and how it may fail.
use Rattle.std.specs.Prelude.{◌≡◌, ℕ, ◌+◌, ◌<◌, ◌≤◌, List, ◌∷◌, length, map, Some, slice_get, take, Result, Ok, Err, IfOk}
use Rattle.std.specs.List.{AllZip, enumerate_from}
use Rattle.kob_shared.specs.Journals.{Record, entry_limit, Noted, Event, Receipt, Settings, CallFault}
use Rattle.kob_shared.specs.declared.compare.Difference.{Difference}
use Rattle.kob_shared.specs.declared.fleet_stop.FleetStop.{FleetStop}
use Rattle.kob_shared.specs.declared.fleet_stop.FleetStop.TheVariants.{Memory, Stale, Full}
use Rattle.kob_shared.specs.declared.work.Done.{Done}
use Rattle.kob_shared.specs.declared.fleet_fault.FleetFault.{FleetFault}
use Rattle.kob_shared.specs.declared.fleet_fault.FleetFault.TheVariants.{TooManyWorkers, JournalFull, Stopped, Torn}
use Rattle.kob_shared.specs.declared.faults.CallFault.TheVariants as calls
use Rattle.kob_shared.specs.Fleets.{IsAnswered, entries_told, IsTornAt, IsWorkerWithin, EachIsAnswered, IsKept}

-- the notes of all workers, worker 0's first
abbrev pub notes_of : {E : Type 0} → Noted → List (Done E) → List Noted
notes_of {E} first done = first ∷ map (λ (d : Done E). d.notes) done

abbrev pub events_in : List Noted → List (List Event)
events_in notes = map (λ (n : Noted). n.events) notes

abbrev pub told_in : List Noted → List (List Receipt)
told_in notes = map (λ (n : Noted). n.told) notes

-- the journal is what the workers noted
abbrev pub IsAsNoted : List Noted → Record → Type 0
IsAsNoted notes found = IsKept (events_in notes) (told_in notes) found.journal

-- the journal isn't what the workers noted from this opening on: it is torn there
abbrev pub IsTear : Settings → List Noted → Record → Difference → Type 0
IsTear opening notes found d =
    IsTornAt opening (events_in notes) (told_in notes) found d.worker d.place

-- the transcript has the receipts of the notes, one for each event, at rising places
abbrev pub IsTaken : Noted → List Receipt → Type 0
IsTaken noted told = (told ≡ noted.told) × IsAnswered (length noted.events) told

-- what each worker leaves, unless it fails, is as its kind of work says. Workers count from 1
abbrev pub EachResultKeeps : {W E : Type 0} → (W → ℕ → Noted → E → Type 0) → List W
    → List (Result (Done E) CallFault) → Type 0
EachResultKeeps {W} {E} keeps works results =
    AllZip (λ (w : ℕ × W) r. IfOk r (λ (d : Done E). keeps w.1 w.0 d.notes d.end))
    (enumerate_from 1 works) results

abbrev pub EachKeeps : {W E : Type 0} → (W → ℕ → Noted → E → Type 0) → List W → List (Done E) → Type 0
EachKeeps {W} {E} keeps works done =
    AllZip (λ (w : ℕ × W) (d : Done E). keeps w.1 w.0 d.notes d.end) (enumerate_from 1 works) done

-- what a worker's fault is for its fleet
abbrev pub as_of_worker : ℕ → CallFault → FleetStop
as_of_worker worker (calls.Memory refused) = Memory refused
as_of_worker worker (calls.Stale length) = Stale worker length
as_of_worker worker calls.JournalFull = Full worker

-- the worker is one of worker 0 and so many more, and worker 0 is not stale
abbrev pub IsNamedWithin : ℕ → FleetStop → Type 0
IsNamedWithin count (Stale worker length) = IsWorkerWithin count worker
IsNamedWithin count (Full worker) = worker ≤ count
IsNamedWithin count stop = Unit {0}

-- a worker that is named is one of so many, and not worker 0
abbrev pub NamesOneOf : ℕ → FleetStop → Type 0
NamesOneOf count (Stale worker length) = IsWorkerWithin count worker
NamesOneOf count (Full worker) = IsWorkerWithin count worker
NamesOneOf count stop = Unit {0}

-- worker 0 finds a journal of at most so many entries full only where it has more events
abbrev pub IsFullOnlyPast : ℕ → ℕ → FleetStop → Type 0
IsFullOnlyPast limit count (Full worker) = worker ≡ 0 → limit < count
IsFullOnlyPast limit count stop = Unit {0}

-- the journal has what worker 0 noted alone, from this opening on, and takes as many as one may
pub record HasBegun (settings : Settings) (first : Noted) (found : Record) : Type 0 where
  pub opening : found.opening ≡ settings
  pub limit : found.limit ≡ entry_limit
  pub journal : found.journal ≡ entries_told 0 first.events first.told

-- the result at this place is this fault, and all before it are no faults
pub record IsFirstFault {T : Type 0} (results : List (Result T CallFault)) (k : ℕ)
    (fault : CallFault) : Type 0 where
  pub told : List T
  pub before : take k results ≡ map Ok told
  pub here : slice_get results k ≡ Some (Err fault)

-- the fleet's fault is that of the first result that is a fault, as its worker's. Workers count from 1
abbrev pub NamesFirstFault : {T : Type 0} → List (Result T CallFault) → FleetStop → Type 0
NamesFirstFault results stop = (k : ℕ) × (fault : CallFault)
    × (stop ≡ as_of_worker (k + 1) fault) × IsFirstFault results k fault

-- the journal that is given back is torn there, and each transcript has a receipt for each event
abbrev pub IsTornOnlyWhere : Settings → List (List Event) → FleetFault → Type 0
IsTornOnlyWhere opening asked (Torn worker place found told) =
    EachIsAnswered asked told.items × IsTornAt opening asked told.items found worker place
IsTornOnlyWhere opening asked fault = Unit {0}

-- a fault that comes after the counts were found to fit
abbrev pub IsLater : FleetFault → Type 0
IsLater TooManyWorkers = ⊥
IsLater JournalFull = ⊥
IsLater fault = Unit {0}

-- a worker that is named is one of so many, and not worker 0, whose events fit
abbrev pub NamesWorkerWithin : ℕ → FleetFault → Type 0
NamesWorkerWithin count (Stopped stop) = NamesOneOf count stop
NamesWorkerWithin count fault = Unit {0}
