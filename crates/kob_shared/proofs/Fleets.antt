-- The results of threads that were joined.
use Rattle.kob_shared.proofs.Words.{AllByRecursion, AllZip, BeginsWith, CallFault, Difference, Done, EachIsAnswered, Entry, Err, Event, FleetStop, Follows, IfOk, IfSome, IsAnswered, IsAsNoted, IsDifference, IsFirstDifference, IsFirstFault, IsFleet, IsFullOnlyPast, IsKept, IsLegal, IsNamedWithin, IsTaken, IsTear, IsTornAt, List, NamesFirstFault, NamesOneOf, Noted, Ok, Receipt, Record, Result, Retained, Script, Settings, Some, State, [], all_zipped_more, ap, arith, asked_of_all, claims, claims_of, entries_asked, entry, event_by, events_in, events_of_script, get_or, get_or-map, get_or_from_slice_get, if◌then◌else◌, length, length-append, length-map, map, map-append, mine, mine_from, nat_lt, nat_tests, notes_of, opened_by, refl, slice_get, slice_get-get_or, slice_get-map, slice_get_within, subst, suc, suc-eq-add-one, sum_by, sym, take, told_in, vec_len, zero, ℕ, ◌++◌, ◌+◌, ◌<◌, ◌∙◌, ◌∷◌, ◌≡◌, ◌≤◌}
use Rattle.std.specs.PromisedHandle.{KeepsEach}
use Rattle.std.specs.List.{enumerate_from}
use Rattle.std.proofs.Common.{add_comm, get_or, subst, sym, ◌∙◌, ◌<◌}
use Rattle.std.proofs.lemmas.List.FromFn.{get_or-enumerate_from}
use Rattle.std.specs.declared.thread.PromisedHandle.{PromisedHandle}
use Rattle.std.proofs.Math.Seq.{take-append_seam, get_or-append_seam}
use Rattle.kob_shared.proofs.Claims.{mine_from_stands, length_claims, all_zip_at}
use Rattle.std.proofs.lemmas.List.Sums.{sum_by-cons}
use Rattle.std.proofs.lemmas.List.Elements.{recursion_from_All}
use Rattle.std.specs.declared.thread.Promise as Promise

-- each result fits what its thread was started for
pub all_zip_joined : {S T P : Type 0} (g : Promise.Ghosts P T) (Q : S → PromisedHandle T P → Type 0)
    (R : S → T → Type 0)
    → ((s : S) (h : PromisedHandle T P) (r : T) → Q s h → g.kept_by h.promise r → R s r)
    → (ss : List S) (hs : List (PromisedHandle T P)) (rs : List T) → length rs ≡ length hs → AllZip Q ss hs → (n : ℕ)
    → n ≡ length hs → KeepsEach g n hs rs → AllZip R ss rs
all_zip_joined g Q R fits [] [] [] len all n is kept = tt
all_zip_joined g Q R fits [] [] (r ∷ rs) len all n is kept = absurd (omega arith)
all_zip_joined g Q R fits [] (h ∷ hs) rs len all n is kept = absurd all
all_zip_joined g Q R fits (s ∷ ss) [] rs len all n is kept = absurd all
all_zip_joined g Q R fits (s ∷ ss) (h ∷ hs) [] len all n is kept = absurd (omega arith)
all_zip_joined {S} {T} {P} g Q R fits (s ∷ ss) (h ∷ hs) (r ∷ rs) len all n is kept =
    let first = (kept 0 r (omega arith)).1 in
    let same : first.handle ≡ h = first.handle_is in
    let rest = all_zip_joined g Q R fits ss hs rs (omega arith) all.1 (length hs) refl
    (λ i d below. let at = (kept (suc i) d (omega arith)).1 in
    (refl, record { handle = at.handle; handle_is = at.handle_is; kept = at.kept })) in
    (fits s h r all.0 (rw same at first.kept), rest)

-- a numbered work, and what a thread was started for
abbrev pub IsOf : {W : Type 0} → ℕ × W → W × ℕ → Type 0
IsOf w started = (started.0 ≡ w.1) × (started.1 ≡ w.0)

pub kept_of : {W : Type 0} (K : W → ℕ → Type 0) (w : ℕ × W) (started : W × ℕ) → IsOf w started
    → K started.0 started.1 → K w.1 w.0
kept_of K w started is kept = subst (λ n. K w.1 n) is.1 (subst (λ v. K v started.1) is.0 kept)

-- the work at a place has the number after it
pub numbered_at : {W : Type 0} (works : List W) (i : ℕ) (work : W) → i < length works → work ≡ get_or works i work
    → (i + 1, work) ≡ get_or (enumerate_from 1 works) i (i + 1, work)
numbered_at works i work within is =
    (λ k. (add_comm i 1 k, is k)) ∙ sym (get_or-enumerate_from 1 works i (i + 1, work) within)

-- what holds of each numbered work, whatever its number, holds of each work
pub unnumbered : {W D : Type 0} (R : W → D → Type 0) (n : ℕ) (works : List W) (done : List D)
    → AllZip (λ w d. R w.1 d) (enumerate_from n works) done → AllZip R works done
unnumbered R n [] [] each = tt
unnumbered R n [] (d ∷ ds) each = absurd each
unnumbered R n (w ∷ ws) [] each = absurd each
unnumbered R n (w ∷ ws) (d ∷ ds) each = (each.0, unnumbered R (n + 1) ws ds each.1)

-- The worker that a fault of a fleet names.

pub named_more : (low high : ℕ) (f : FleetStop) → low ≤ high → IsNamedWithin low f → IsNamedWithin high f
named_more low high f less named = grind (arith, nat_tests)

pub within_more : (low high : ℕ) (f : FleetStop) → low ≤ high → NamesOneOf low f → NamesOneOf high f
within_more low high f less named = grind (arith, nat_tests)

-- the first fault of the workers' results is that of one of them, and not worker 0's
pub within_first : {T : Type 0} (results : List (Result T CallFault)) (f : FleetStop) → NamesFirstFault results f
    → NamesOneOf (length results) f
within_first results f named = grind (arith, nat_tests, slice_get_within)

pub full_at : {limit other : ℕ} {count more : ℕ} (f : FleetStop) → limit ≡ other → count ≡ more
    → IsFullOnlyPast limit count f → IsFullOnlyPast other more f
full_at f same counted full = grind (arith, nat_tests)

-- a fault that names none or a later worker than worker 0
pub named_within : (count : ℕ) (f : FleetStop) → NamesOneOf count f → IsNamedWithin count f
named_within count f named = grind (arith, nat_tests)

pub full_within : (limit events count : ℕ) (f : FleetStop) → NamesOneOf count f
    → IsFullOnlyPast limit events f
full_within limit events count f named = grind (arith, nat_tests)

-- the fault that comes right after these results
pub first_fault : {T : Type 0} (told : List T) (before rest results : List (Result T CallFault)) (k : ℕ)
    (fault : CallFault)
    → map Ok told ≡ before → k ≡ length told → results ≡ before ++ Err fault ∷ rest → IsFirstFault results k fault
first_fault {T} told before rest results k fault gathered count ends =
    let whole : results ≡ map Ok told ++ Err fault ∷ rest = ends ∙ ap (λ xs. xs ++ Err fault ∷ rest) (sym gathered) in
    let place : k ≡ length (map Ok told) = count ∙ sym (length-map told Ok) in
    record {
      told = told;
      before = rw (whole, place) (take-append_seam (map Ok told) (Err fault ∷ rest));
      here =
          rw (whole, place)
          (slice_get-get_or (map Ok told ++ Err fault ∷ rest) (length (map Ok told)) (Err fault)
          (omega (arith, length-append (map Ok told) (Err fault ∷ rest)))
          ∙ ap Some (get_or-append_seam (map Ok told) (Err fault) rest (Err fault)));
    }

-- What all workers noted, beside the journal.

read_note : {B : Type 0} (f : Noted → List B) (notes : List Noted) (w : ℕ) (n : Noted) → slice_get notes w ≡ Some n
    → get_or (map f notes) w [] ≡ f n
read_note f notes w n is =
    get_or-map f notes w n [] (slice_get_within notes w n is) ∙ ap f (get_or_from_slice_get notes w n n is)

-- what a worker claims is what it noted
claims_noted : (notes : List Noted) (w : ℕ) (n : Noted) → slice_get notes w ≡ Some n
    → claims_of (events_in notes) (told_in notes) w ≡ claims w n.events n.told
claims_noted notes w n is = grind (arith, nat_tests, read_note)

note_at : {E : Type 0} (first : Noted) (done : List (Done E)) (k : ℕ) (one : Done E) → slice_get done k ≡ Some one
    → slice_get (notes_of first done) (k + 1) ≡ Some one.notes
note_at {E} first done k one is = cc (suc-eq-add-one k, slice_get-map (λ (d : Done E). d.notes) done k)

-- what worker k + 1 claims
pub claims_done : {E : Type 0} (first : Noted) (done : List (Done E)) (k : ℕ) (one : Done E)
    → slice_get done k ≡ Some one
    → claims_of (events_in (notes_of first done)) (told_in (notes_of first done)) (k + 1)
    ≡ claims (k + 1) one.notes.events one.notes.told
claims_done first done k one is = claims_noted (notes_of first done) (k + 1) one.notes (note_at first done k one is)

-- one worker more agrees
pub mine_done : {E : Type 0} (first : Noted) (done : List (Done E)) (k : ℕ) (one : Done E) (journal : List Entry)
    → slice_get done k ≡ Some one
    → ((w : ℕ) → w < k + 1 → mine w journal
    ≡ claims_of (events_in (notes_of first done)) (told_in (notes_of first done)) w)
    → mine (k + 1) journal ≡ claims (k + 1) one.notes.events one.notes.told
    → (w : ℕ) → w < (k + 1) + 1 → mine w journal
    ≡ claims_of (events_in (notes_of first done)) (told_in (notes_of first done)) w
mine_done first done k one journal is before here w within = grind (arith, nat_tests, claims_done)

pub differ_done : {E : Type 0} (first : Noted) (done : List (Done E)) (k : ℕ) (one : Done E) (journal : List Entry)
    (place : ℕ) → slice_get done k ≡ Some one
    → ((w : ℕ) → w < k + 1 → mine w journal
    ≡ claims_of (events_in (notes_of first done)) (told_in (notes_of first done)) w)
    → IsFirstDifference (k + 1) journal (claims (k + 1) one.notes.events one.notes.told) place
    → IsDifference (events_in (notes_of first done)) (told_in (notes_of first done)) journal (k + 1) place
differ_done first done k one journal place is before differs = grind (arith, nat_tests, claims_done)

pub length_events : {E : Type 0} (first : Noted) (done : List (Done E))
    → length (events_in (notes_of first done)) ≡ length done + 1
length_events {E} first done = grind (arith, nat_tests, length-map)

-- what all left, once no result is a fault
pub kept_done : {W D : Type 0} (R : W → D → Type 0) (works : List W) (results : List (Result D CallFault))
    (done : List D)
    → AllZip (λ w r. IfOk r (R w)) works results → map Ok done ≡ results → AllZip R works done
kept_done R [] [] [] each all = tt
kept_done R [] [] (d ∷ ds) each all = absurd (cc)
kept_done R (w ∷ ws) (r ∷ rs) [] each all = absurd (cc)
kept_done R (w ∷ ws) (r ∷ rs) (d ∷ ds) each all =
    let here : r ≡ Ok d = let a = all in cc in
    let rest : map Ok ds ≡ rs = let a = all in cc in
    (rw here at each.0, kept_done R ws rs ds each.1 rest)
kept_done R _ _ done each all = absurd each

scripted : {E : Type 0} (scripts : List Script) (done : List (Done E))
    → AllZip (λ (s : Script) (d : Done E). d.notes.events ≡ events_of_script s) scripts done
    → events_in (map (λ (d : Done E). d.notes) done) ≡ map events_of_script scripts
scripted [] [] each = refl
scripted (s ∷ ss) (d ∷ ds) each = let here = each.0 in let rest = scripted ss ds each.1 in (λ i. here i ∷ rest i)
scripted _ _ each = absurd each

-- the events that the workers of scripts noted
pub asked_scripts : {E : Type 0} (first : Noted) (scripts : List Script) (done : List (Done E))
    → AllZip (λ (s : Script) (d : Done E). d.notes.events ≡ events_of_script s) scripts done
    → events_in (notes_of first done) ≡ asked_of_all first.events scripts
asked_scripts first scripts done each = ap (λ rest. first.events ∷ rest) (scripted scripts done each)

-- transcripts that were taken from notes
pub told_taken : (notes : List Noted) (transcripts : List (List Receipt)) → AllZip IsTaken notes transcripts
    → (transcripts ≡ told_in notes) × EachIsAnswered (events_in notes) transcripts
told_taken [] [] each = (refl, tt)
told_taken (n ∷ ns) (t ∷ ts) each = grind (arith, nat_tests, told_taken ns ts each.1)
told_taken _ _ each = absurd each

-- one transcript more
pub taken_more : {E : Type 0} (first : Noted) (before : List (Done E)) (one : Done E)
    (transcripts : List (List Receipt)) (told : List Receipt)
    → AllZip IsTaken (notes_of first before) transcripts → IsTaken one.notes told
    → AllZip IsTaken (notes_of first (before ++ one ∷ [])) (transcripts ++ told ∷ [])
taken_more {E} first before one transcripts told all here = grind (arith, nat_tests, map-append, all_zipped_more)

-- The first entries of a journal.

all_zip_prefix : {A B : Type 0} (R : A → B → Type 0) (es : List A) (xs : List B)
    → ((k : ℕ) (e : A) → slice_get es k ≡ Some e → (x : B) × (slice_get xs k ≡ Some x) × R e x)
    → AllZip R es (take (length es) xs)
all_zip_prefix R [] xs at = tt
all_zip_prefix R (e ∷ es) [] at = let x = at 0 e refl in let none = x.1 in absurd (cc)
all_zip_prefix R (e ∷ es) (y ∷ xs) at =
    let first = at 0 e refl in
    let same : y ≡ first.0 = let s = first.1 in cc in
    (rw same first.2, all_zip_prefix R es xs (λ k d is. at (suc k) d is))

-- the claims of consecutive places
claims_follow : (worker place : ℕ) (es : List Event) (rs : List Receipt) → length rs ≡ length es → Follows place rs
    → (k : ℕ) (e : Event) → slice_get es k ≡ Some e
    → (r : Receipt) × (slice_get (claims worker es rs) k ≡ Some (place + k, entry worker e r.reply))
claims_follow worker place [] rs same follows k e is = absurd (cc)
claims_follow worker place (x ∷ es) [] same follows k e is = absurd (omega arith)
claims_follow worker place (x ∷ es) (r ∷ rs) same follows zero e is =
    let one : x ≡ e = cc in let here : r.place ≡ place + 0 = omega (arith, follows.0) in
    (r, (λ i. Some (here i, entry worker (one i) r.reply)))
claims_follow worker place (x ∷ es) (r ∷ rs) same follows (suc k) e is = grind (arith, nat_tests, claims_follow worker (place + 1) es rs (omega arith) follows.1 k e is)

pub begins_with : (first : List Event) (told : List Receipt) (journal : List Entry) → length told ≡ length first
    → Follows 0 told → mine 0 journal ≡ claims 0 first told → BeginsWith first journal
begins_with first told journal same follows kept =
    grind (arith, nat_tests, all_zip_prefix (λ e x. (x.worker ≡ 0) × (x.event ≡ e)) first journal stands)
  where
    stands : (k : ℕ) (e : Event) → slice_get first k ≡ Some e
        → (x : Entry) × (slice_get journal k ≡ Some x) × ((x.worker ≡ 0) × (x.event ≡ e))
    stands k e is =
        let (r, claim) = claims_follow 0 0 first told same follows k e is in
        let at = mine_from_stands 0 0 journal k (0 + k, entry 0 e r.reply) (ap (λ cs. slice_get cs k) kept ∙ claim) in
        let here : at.0 ≡ k = omega (arith, at.1) in
        (entry 0 e r.reply, ap (slice_get journal) (sym here) ∙ at.2, (refl, refl))

-- How many entries a journal has, by its workers.

-- how many entries are of workers below n
abbrev below : ℕ → List Entry → ℕ
below n [] = 0
below n (x ∷ xs) = if nat_lt x.worker n then suc (below n xs) else below n xs

below_none : (xs : List Entry) → below 0 xs ≡ 0
below_none [] = refl
below_none (x ∷ xs) = grind (arith, nat_tests, below_none xs)

below_all : (n : ℕ) (xs : List Entry) → AllByRecursion (λ x. x.worker < n) xs → below n xs ≡ length xs
below_all n [] known = refl
below_all n (x ∷ xs) known = grind (arith, nat_tests, below_all n xs known.1, known.0)

-- one worker more
below_more : (place n : ℕ) (xs : List Entry) → below (suc n) xs ≡ below n xs + length (mine_from place n xs)
below_more place n [] = refl
below_more place n (x ∷ xs) = grind (arith, nat_tests, below_more (place + 1) n xs)

-- workers from n on, each with as many entries as its list has elements
below_lists : {X : Type 0} (n high : ℕ) (xs : List Entry) (lists : List (List X)) → high ≡ n + length lists
    → ((w m : ℕ) → w < length lists → m ≡ n + w → length (mine m xs) ≡ length (get_or lists w []))
    → below high xs ≡ below n xs + sum_by length lists
below_lists n high xs [] is each = let same : high ≡ n = omega (arith, is) in rw same (omega arith)
below_lists n high xs (l ∷ lists) is each =
    let rest = below_lists (suc n) high xs lists (omega (arith, is))
    (λ w m low at. each (suc w) m (omega (arith, low)) (omega (arith, at))) in
    omega (arith, rest, below_more 0 n xs, each 0 n (omega arith) (omega arith), sum_by-cons length l lists)

sum_by_scripts : (scripts : List Script) → sum_by length (map events_of_script scripts)
    ≡ sum_by (λ s. vec_len s.requests) scripts
sum_by_scripts [] = refl
sum_by_scripts (s ∷ ss) =
    let rest = sum_by_scripts ss in
    let here : length (events_of_script s) ≡ vec_len s.requests =
    length-map s.requests.items (event_by s.principal s.host) ∙ sym s.requests.ok.0 in
    sum_by-cons length (events_of_script s) (map events_of_script ss) ∙ (λ i. here i + rest i)
    ∙ sym (sum_by-cons (λ (x : Script). vec_len x.requests) s ss)

-- there are as many entries as events
pub length_kept : (first : List Event) (scripts : List Script) (told : List (List Receipt)) (journal : List Entry)
    → EachIsAnswered (asked_of_all first scripts) told → IsKept (asked_of_all first scripts) told journal
    → length journal ≡ entries_asked first scripts
length_kept first scripts told journal each kept =
    let asked : List (List Event) = asked_of_all first scripts in
    let all = below_all (length asked) journal (recursion_from_All _ journal kept.known) in
    let workers = below_lists 0 (length asked) journal asked (omega arith) (λ w m low is.
    let at = all_zip_at (λ (es : List Event) rs. IsAnswered (length es) rs) asked told w [] [] each low in
    let same : m ≡ w = omega (arith, is) in
    ap (λ k. length (mine k journal)) same ∙ ap length (kept.mine w low)
    ∙ length_claims w (get_or asked w []) (get_or told w []) (sym at.counted)
    ∙ at.counted) in
    omega (
      arith,
      all,
      workers,
      below_none journal,
      sum_by-cons length first (map events_of_script scripts),
      sum_by_scripts scripts,
    )

-- What a fleet leaves.

pub fleet_of : (opening : State Retained) (first : List Event) (scripts : List Script) (journal : List Entry)
    (now : State Retained) (told : List (List Receipt)) → IsLegal opening journal now
    → EachIsAnswered (asked_of_all first scripts) told → IfSome (slice_get told 0) (Follows 0)
    → IsKept (asked_of_all first scripts) told journal → IsFleet opening first scripts journal now told
fleet_of opening first scripts journal now told legal each begun kept = grind (arith, nat_tests, begins_with, length_kept)

-- what a fleet of scripts leaves, where its journal is what was noted
pub scripts_end : {E : Type 0} (opening : Settings) (first : Noted) (scripts : List Script) (done : List (Done E))
    (found : Record) (told : List (List Receipt))
    → IsLegal (opened_by found.opening) found.journal found.broker
    → (found.opening ≡ opening) × IsAsNoted (notes_of first done) found → Follows 0 first.told
    → AllZip (λ (s : Script) (d : Done E). d.notes.events ≡ events_of_script s) scripts done
    → AllZip IsTaken (notes_of first done) told
    → IsFleet (opened_by opening) first.events scripts found.journal found.broker told
scripts_end {E} opening first scripts done found told legal kept follows each taken =
    let same = told_taken (notes_of first done) told taken in
    let asked = asked_scripts first scripts done each in
    fleet_of (opened_by opening) first.events scripts found.journal found.broker told
    (subst (λ o. IsLegal (opened_by o) found.journal found.broker) kept.0 legal)
    (subst (λ es. EachIsAnswered es told) asked same.1)
    (subst (λ ts. IfSome (slice_get ts 0) (Follows 0)) (sym same.0) follows)
    (subst (λ es. IsKept es told found.journal) asked
    (subst (λ ts. IsKept (events_in (notes_of first done)) ts found.journal) (sym same.0) kept.1))

-- where it is torn
pub scripts_torn : {E : Type 0} (opening : Settings) (first : Noted) (scripts : List Script) (done : List (Done E))
    (found : Record) (told : List (List Receipt)) (d : Difference)
    → IsTear opening (notes_of first done) found d
    → AllZip (λ (s : Script) (d : Done E). d.notes.events ≡ events_of_script s) scripts done
    → AllZip IsTaken (notes_of first done) told
    → EachIsAnswered (asked_of_all first.events scripts) told
    × IsTornAt opening (asked_of_all first.events scripts) told found d.worker d.place
scripts_torn {E} opening first scripts done found told d tear each taken = grind (arith, nat_tests, told_taken (notes_of first done) told taken, asked_scripts first scripts done each)
