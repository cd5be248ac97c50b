-- New bindings, and the serials that they get.
use Rattle.kob_authorizer.proofs.Words.{Binding, IsRising, List, Option, Some, [], arith, enumerate_from, length, length-enumerate_from, nat_tests, serial_of, ℕ, ◌++◌, ◌+◌, ◌<◌, ◌∷◌, ◌≡◌, ◌≤◌, Added, Creates, None, OnlyAdds, add_one, ap, append-nil, append_assoc, cond, create_fault, created, creation, false, fold, fold-append, is_known, is_some, length-append, limit_fault, new_bindings, refl, same_binding, same_binding_decides, option_or, min-le_left, serials_in, sym, true, with_binding, with_new, All, AllPairs-filter, AreDistinct, BindingFilter, all_pairs_push, bindings_left, is_equal, not, takes, ◌∙◌, ◌≢◌, AreInForce, Contains, Contains-append_left, Contains-push, Bool, is_among}
use Rattle.kob_authorizer.proofs.Entries.{rising_enumerate_from, enumerate_from_push, rising_append, enumerate_from_append, place_among, serial_in_force, serial_of_append, serial_of_append_none, serial_of_append_some, moved_some, all_of, first_serial_found, none_is, first_is}
use Rattle.kob_authorizer.specs.Candidates.{is_again}
use Rattle.kob_authorizer.specs.Creation.{addition}
use Rattle.std.specs.List.{position_or_len}

-- the place among bindings and one more behind them
place_with_last : (bindings : List Binding) (last b : Binding)
    → serial_of (enumerate_from 0 (bindings ++ last ∷ [])) b
    ≡ option_or (serial_of (enumerate_from 0 bindings) b)
    (cond (same_binding last b) (Some (length bindings)) None)
place_with_last bindings last b = grind (arith, nat_tests, enumerate_from_push, serial_of_append)

-- Adding bindings at once is adding them one after another.

-- the entries, and fresh bindings under the serials from n on
abbrev grown : ℕ → List (ℕ × Binding) → List Binding → List (ℕ × Binding)
grown n entries fresh = entries ++ enumerate_from n fresh

-- a binding is known exactly where it has a serial among the entries and the fresh ones
known_has_serial : (n : ℕ) (entries : List (ℕ × Binding)) (fresh : List Binding) (b : Binding)
    → is_some (serial_of (grown n entries fresh) b) ≡ is_known entries fresh b
known_has_serial n entries fresh b = grind (arith, nat_tests, serial_of_append, serial_in_force, place_among)

-- the new bindings so far stay at the front
fresh_extends : (entries : List (ℕ × Binding)) (fresh bs : List Binding)
    → (more : List Binding) × (fold (with_new entries) fresh bs ≡ fresh ++ more)
fresh_extends entries fresh [] = ([], sym (append-nil fresh))
fresh_extends entries fresh (b ∷ bs) =
    elim (is_known entries fresh b) as (λ t. (more : List Binding)
    × (fold (with_new entries) (cond t fresh (fresh ++ b ∷ [])) bs ≡ fresh ++ more)) [
      | true ↦ fresh_extends entries fresh bs
      | false ↦ grind (arith, nat_tests, fresh_extends entries (fresh ++ b ∷ []) bs, append_assoc)
    ]

-- a serial that was given stays given
serial_stays : (n : ℕ) (entries : List (ℕ × Binding)) (fresh bs : List Binding) (b : Binding) (serial : ℕ)
    → Some serial ≡ serial_of (grown n entries fresh) b
    → Some serial ≡ serial_of (grown n entries (fold (with_new entries) fresh bs)) b
serial_stays n entries fresh bs b serial given =
    let extends = fresh_extends entries fresh bs in
    grind (arith, nat_tests, append_assoc, enumerate_from_append, serial_of_append_some)

-- the state after fresh bindings, with the serials answered so far
abbrev reached : ℕ → List (ℕ × Binding) → List Binding → List ℕ → Added
reached n entries fresh serials = record { entries = grown n entries fresh; next = n + length fresh; serials = serials }

-- one more serial in front of the others
one_more : (n : ℕ) (entries : List (ℕ × Binding)) (all : List Binding) (serials : List ℕ) (b : Binding)
    (bs : List Binding) (serial : ℕ) → Some serial ≡ serial_of (grown n entries all) b
    → (serials ++ serial ∷ []) ++ serials_in (grown n entries all) bs
    ≡ serials ++ serials_in (grown n entries all) (b ∷ bs)
one_more n entries all serials b bs serial given = grind (arith, nat_tests, append_assoc)

-- a new binding gets the serial that comes next
new_serial : (n : ℕ) (entries : List (ℕ × Binding)) (fresh : List Binding) (b : Binding)
    → None ≡ serial_of (grown n entries fresh) b
    → Some (n + length fresh) ≡ serial_of (grown n entries fresh ++ (n + length fresh, b) ∷ []) b
new_serial n entries fresh b none = grind (arith, nat_tests, same_binding_decides, serial_of_append_none)

-- the entries with one more fresh binding
grown_push : (n : ℕ) (entries : List (ℕ × Binding)) (fresh : List Binding) (b : Binding)
    → grown n entries fresh ++ (n + length fresh, b) ∷ [] ≡ grown n entries (fresh ++ b ∷ [])
grown_push n entries fresh b = grind (arith, nat_tests, append_assoc, enumerate_from_push)

abbrev state : List (ℕ × Binding) → ℕ → List ℕ → Added
state entries next serials = record { entries = entries; next = next; serials = serials }

-- a binding that is not there is put last, and has its place
put_last : (fresh : List Binding) (b : Binding) → None ≡ serial_of (enumerate_from 0 fresh) b
    → (fresh ++ b ∷ [] ≡ with_new [] fresh b)
    × (Some (length fresh) ≡ serial_of (enumerate_from 0 (fresh ++ b ∷ [])) b)
put_last fresh b none =
    let unknown = place_among 0 fresh b in let decides = (same_binding_decides b b).1 refl in
    grind (arith, nat_tests, place_with_last fresh b b)

-- the place of the first equal one is its serial, if serials begin with n
found_place : (n : ℕ) (b : Binding) (xs : List Binding) → is_among xs b ≡ true
    → Some (n + position_or_len (is_again b) xs) ≡ serial_of (enumerate_from n xs) b
found_place n b [] among = absurd (cc)
found_place n b (x ∷ xs) among = grind (arith, nat_tests, found_place (n + 1) b xs)

-- where none is equal, the place is behind all
no_place : (b : Binding) (xs : List Binding) → is_among xs b ≡ false
    → position_or_len (is_again b) xs ≡ length xs
no_place b [] among = refl
no_place b (x ∷ xs) among = grind (arith, nat_tests, no_place b xs)

-- the place of a binding is its serial, once it is among the others
place_in : (fresh : List Binding) (b : Binding) (among : Bool) → is_among fresh b ≡ among
    → Some (position_or_len (is_again b) fresh) ≡ serial_of (enumerate_from 0 (with_new [] fresh b)) b
place_in fresh b true among = let place = found_place 0 b fresh among in grind (arith, nat_tests)
place_in fresh b false among =
    let place = no_place b fresh among in let unknown = place_among 0 fresh b in
    grind (arith, nat_tests, put_last fresh b)

pub place_is : (fresh : List Binding) (b : Binding)
    → Some (position_or_len (is_again b) fresh) ≡ serial_of (enumerate_from 0 (with_new [] fresh b)) b
place_is fresh b = place_in fresh b (is_among fresh b) refl

-- one alone has the first place
pub first_place : (b : Binding) → Some 0 ≡ serial_of ((0, b) ∷ []) b
first_place b = let decides = (same_binding_decides b b).1 refl in grind (arith, nat_tests)

pub ruleset putting = (place_is, first_place)

-- one that is in force is not put
pub known_in_force : (entries : List (ℕ × Binding)) (fresh : List Binding) (b : Binding) (serial : ℕ)
    → Some serial ≡ serial_of entries b → fresh ≡ with_new entries fresh b
known_in_force entries fresh b serial found = let known = serial_in_force entries b in grind (arith, nat_tests)

-- one that is not is put where it is not among the fresh ones
pub new_where_unknown : (entries : List (ℕ × Binding)) (fresh : List Binding) (b : Binding)
    → None ≡ serial_of entries b → with_new [] fresh b ≡ with_new entries fresh b
new_where_unknown entries fresh b none = let unknown = serial_in_force entries b in grind (arith, nat_tests)

-- what the serial of a binding is found by
pub ruleset finding =
    (known_in_force, new_where_unknown, serial_of_append_some, serial_of_append_none, moved_some, min-le_left)

-- a binding is put among the fresh ones where it is not known yet, and gets its serial there
one_step : (n : ℕ) (entries : List (ℕ × Binding)) (fresh : List Binding) (serials : List ℕ) (b : Binding)
    (o : Option ℕ) → o ≡ serial_of (grown n entries fresh) b
    → (serial : ℕ) × ((with_binding o (reached n entries fresh serials) b
    ≡ reached n entries (with_new entries fresh b) (serials ++ serial ∷ []))
    × (Some serial ≡ serial_of (grown n entries (with_new entries fresh b)) b))
one_step n entries fresh serials b (Some serial) is =
    let known = known_has_serial n entries fresh b in (serial, grind (arith, nat_tests))
one_step n entries fresh serials b None is =
    let known = known_has_serial n entries fresh b in let given = new_serial n entries fresh b is in
    let pushed = grown_push n entries fresh b in let longer = length-append fresh (b ∷ []) in
    (n + length fresh, grind (arith, nat_tests))

in_turn_from : (n : ℕ) (entries : List (ℕ × Binding)) (bs fresh : List Binding) (serials : List ℕ)
    → fold add_one (reached n entries fresh serials) bs
    ≡ reached n entries (fold (with_new entries) fresh bs)
    (serials ++ serials_in (grown n entries (fold (with_new entries) fresh bs)) bs)
in_turn_from n entries [] fresh serials = ap (λ all. reached n entries fresh all) (sym (append-nil serials))
in_turn_from n entries (b ∷ bs) fresh serials =
    let (serial, (step, given)) = one_step n entries fresh serials b (serial_of (grown n entries fresh) b) refl in
    let now = with_new entries fresh b in let rest = in_turn_from n entries bs now (serials ++ serial ∷ []) in
    let stays = serial_stays n entries now bs b serial given in grind (arith, nat_tests, one_more)

-- one more binding has one more serial
pub serials_push : (n : ℕ) (entries : List (ℕ × Binding)) (done : List Binding) (b : Binding) (serial : ℕ)
    → Some serial ≡ serial_of (grown n entries (with_new entries (new_bindings entries done) b)) b
    → serials_in (grown n entries (new_bindings entries done)) done ++ serial ∷ []
    ≡ serials_in (grown n entries (with_new entries (new_bindings entries done) b)) (done ++ b ∷ [])
serials_push n entries done b serial is =
    let fresh = new_bindings entries done in let given = serials_in (grown n entries fresh) done in
    let step = one_step n entries fresh given b (serial_of (grown n entries fresh) b) refl in
    let before = in_turn_from n entries done [] [] in let after = in_turn_from n entries (done ++ b ∷ []) [] [] in
    grind (arith, nat_tests, fold-append)

-- with one more binding there are as many new ones, or more
pub new_count : (entries : List (ℕ × Binding)) (fresh : List Binding) (b : Binding)
    → length fresh ≤ length (with_new entries fresh b)
new_count entries fresh b = grind (arith, nat_tests, length-append)

-- adding one after another gives what adding at once gives
pub in_turn_at_once : (entries : List (ℕ × Binding)) (next : ℕ) (bindings : List Binding)
    → addition entries next bindings ≡ created entries next (creation entries next bindings)
in_turn_at_once entries next bindings =
    grind (arith, nat_tests, length-enumerate_from, append-nil entries, in_turn_from next entries bindings [] [])

-- what is found first and then numbered is a creation of the bindings
pub creation_creates : (entries : List (ℕ × Binding)) (next : ℕ) (bindings : List Binding)
    → Creates entries next bindings (creation entries next bindings)
creation_creates entries next bindings = in_turn_at_once entries next bindings

-- the limit that is passed, by the number of new bindings
pub fault_by_count : (entries : List (ℕ × Binding)) (next : ℕ) (bindings : List Binding)
    → create_fault entries next bindings ≡ limit_fault (length entries + length (new_bindings entries bindings))
    (next + length (new_bindings entries bindings))
fault_by_count entries next bindings = grind (arith, nat_tests, length-enumerate_from, length-append, in_turn_at_once)

-- adding bindings keeps the serials rising
pub added_rises : (entries : List (ℕ × Binding)) (next : ℕ) (bindings : List Binding) → IsRising 1 entries next
    → IsRising 1 (addition entries next bindings).entries (addition entries next bindings).next
added_rises entries next bindings rising =
    grind (arith, nat_tests, in_turn_at_once, rising_append, rising_enumerate_from)

-- adding bindings leaves the entries and gives serials from the next one on
pub only_adds : (entries : List (ℕ × Binding)) (next : ℕ) (bindings : List Binding)
    → OnlyAdds entries next (addition entries next bindings)
only_adds entries next bindings = grind (arith, nat_tests, rising_enumerate_from, in_turn_at_once)

-- what a creation is prepared by
pub ruleset creating = (creation_creates, fault_by_count, length-enumerate_from, rising_enumerate_from)

-- What keeps the bindings in force distinct.

-- no entry has an equal binding
abbrev NoneEqual : Binding → List (ℕ × Binding) → Type 0
NoneEqual binding entries = All (λ (entry : ℕ × Binding). entry.1 ≢ binding) entries

-- a binding without a serial is equal to none
none_equal : (entries : List (ℕ × Binding)) (binding : Binding) → serial_of entries binding ≡ None
    → NoneEqual binding entries
none_equal entries binding none = all_of (λ entry. entry.1 ≢ binding) entries (λ entry there equal.
    none_is (is_equal binding) entries (first_serial_found (is_equal binding) entries ∙ none) entry there
    ((same_binding_decides entry.1 binding).1 equal))

step_distinct : (so_far : Added) (binding : Binding) (o : Option ℕ) → serial_of so_far.entries binding ≡ o
    → AreDistinct so_far.entries → AreDistinct (with_binding o so_far binding).entries
step_distinct so_far binding (Some serial) is distinct = distinct
step_distinct so_far binding None is distinct =
    all_pairs_push (λ (one two : ℕ × Binding). one.1 ≢ two.1) so_far.entries (so_far.next, binding) distinct
    (none_equal so_far.entries binding is)

fold_distinct : (bindings : List Binding) (so_far : Added) → AreDistinct so_far.entries
    → AreDistinct (fold add_one so_far bindings).entries
fold_distinct [] so_far distinct = distinct
fold_distinct (binding ∷ bindings) so_far distinct =
    fold_distinct bindings (add_one so_far binding)
    (step_distinct so_far binding (serial_of so_far.entries binding) refl distinct)

-- adding bindings keeps those in force distinct
pub added_distinct : (entries : List (ℕ × Binding)) (next : ℕ) (bindings : List Binding) → AreDistinct entries
    → AreDistinct (addition entries next bindings).entries
added_distinct entries next bindings = fold_distinct bindings (record { entries = entries; next = next; serials = [] })

-- and so does deleting some
pub removed_distinct : (entries : List (ℕ × Binding)) (wanted : BindingFilter) → AreDistinct entries
    → AreDistinct (bindings_left wanted entries)
removed_distinct entries wanted =
    AllPairs-filter (λ (one two : ℕ × Binding). one.1 ≢ two.1)
    (λ (entry : ℕ × Binding). not (takes wanted entry.1)) entries

-- What was created is in force under the serials that were answered.

-- a binding whose serial is found is in force under it
found_in_force : (entries : List (ℕ × Binding)) (binding : Binding) (serial : ℕ)
    → serial_of entries binding ≡ Some serial → Contains entries (serial, binding)
found_in_force entries binding serial found =
    let it = first_is (is_equal binding) entries serial (first_serial_found (is_equal binding) entries ∙ found) in
    grind (arith, nat_tests, same_binding_decides)

-- what is in force stays so when more entries are put last
still_in_force : (entries more : List (ℕ × Binding)) (bindings : List Binding) (serials : List ℕ)
    → AreInForce entries bindings serials → AreInForce (entries ++ more) bindings serials
still_in_force entries more [] [] all = tt
still_in_force entries more [] (serial ∷ serials) all = all
still_in_force entries more (binding ∷ bindings) [] all = all
still_in_force entries more (binding ∷ bindings) (serial ∷ serials) all =
    (Contains-append_left entries more (serial, binding) all.0, still_in_force entries more bindings serials all.1)

-- one more binding, with its serial
one_more_in_force : (entries : List (ℕ × Binding)) (bindings : List Binding) (serials : List ℕ) (binding : Binding)
    (serial : ℕ) → AreInForce entries bindings serials → Contains entries (serial, binding)
    → AreInForce entries (bindings ++ binding ∷ []) (serials ++ serial ∷ [])
one_more_in_force entries [] [] binding serial all there = (there, tt)
one_more_in_force entries [] (s ∷ serials) binding serial all there = absurd all
one_more_in_force entries (b ∷ bindings) [] binding serial all there = absurd all
one_more_in_force entries (b ∷ bindings) (s ∷ serials) binding serial all there =
    (all.0, one_more_in_force entries bindings serials binding serial all.1 there)

step_in_force : (so_far : Added) (before : List Binding) (binding : Binding) (o : Option ℕ)
    → serial_of so_far.entries binding ≡ o → AreInForce so_far.entries before so_far.serials
    → AreInForce (with_binding o so_far binding).entries (before ++ binding ∷ [])
    (with_binding o so_far binding).serials
step_in_force so_far before binding (Some serial) is all = grind (arith, nat_tests, one_more_in_force, found_in_force)
step_in_force so_far before binding None is all =
    let still = still_in_force so_far.entries ((so_far.next, binding) ∷ []) before so_far.serials all in
    grind (arith, nat_tests, one_more_in_force, Contains-push so_far.entries (so_far.next, binding))

all_in_force : (bindings : List Binding) (so_far : Added) (before : List Binding)
    → AreInForce so_far.entries before so_far.serials
    → AreInForce (fold add_one so_far bindings).entries (before ++ bindings) (fold add_one so_far bindings).serials
all_in_force [] so_far before all = grind (arith, nat_tests, append-nil)
all_in_force (binding ∷ bindings) so_far before all =
    let step = step_in_force so_far before binding (serial_of so_far.entries binding) refl all in
    let rest = all_in_force bindings (add_one so_far binding) (before ++ binding ∷ []) step in
    grind (arith, nat_tests, append_assoc)

-- after a creation each of its bindings is in force under the serial answered for it
pub created_in_force : (entries : List (ℕ × Binding)) (next : ℕ) (bindings : List Binding)
    → AreInForce (addition entries next bindings).entries bindings (addition entries next bindings).serials
created_in_force entries next bindings =
    all_in_force bindings (record { entries = entries; next = next; serials = [] }) [] tt
