-- What creating bindings does to the list in force, and the limits on bindings and serials.
use Rattle.std.specs.Prelude.{ℕ, ◌≡◌, ◌≢◌, ◌≤◌, AllPairs, Contains, List, [], ◌∷◌, ◌++◌, ◌+◌, length, Option, Some, None, ⊤, nat_lt, if◌then◌else◌, Bool, ◌||◌, map}
use Rattle.std.specs.List.{find, fold, enumerate_from, filter_map, list_any}
use Rattle.std.specs.Option.{option_map}
use Rattle.kob_names.specs.Binding.{same_binding, Binding}
use Rattle.kob_authorizer.specs.Decide.{Contents, IsRising, State}
use Rattle.kob_authorizer.specs.declared.fault.CreateFault.{CreateFault}
use Rattle.kob_authorizer.specs.declared.fault.CreateFault.TheVariants.{TooMany, SerialsSpent}

-- the most bindings that are in force at once
abbrev pub binding_limit : ℕ
binding_limit = 100000

-- every serial is below this
abbrev pub serial_limit : ℕ
serial_limit = 18446744073709551615

-- the bindings in force and the next serial after an addition, and the serials returned
pub record Added : Type 0 where
  pub entries : List (ℕ × Binding)
  pub next : ℕ
  pub serials : List ℕ

-- what a creation puts in force, and the serials that it answers
pub record Creation : Type 0 where
  pub fresh : List (ℕ × Binding)
  pub serials : List ℕ

-- the serial of the first entry with an equal binding
abbrev pub serial_of : List (ℕ × Binding) → Binding → Option ℕ
serial_of entries binding =
    option_map (λ (entry : ℕ × Binding). entry.0)
    (find (λ (entry : ℕ × Binding). same_binding entry.1 binding) entries)

-- a binding in force gets its serial again; another is put last under the next serial
abbrev pub with_binding : Option ℕ → Added → Binding → Added
with_binding (Some serial) so_far binding =
    record so_far { serials = so_far.serials ++ serial ∷ [] }
with_binding None so_far binding = record {
  entries = so_far.entries ++ (so_far.next, binding) ∷ [];
  next = so_far.next + 1;
  serials = so_far.serials ++ so_far.next ∷ [];
}

-- one more binding is added
abbrev pub add_one : Added → Binding → Added
add_one so_far binding = with_binding (serial_of so_far.entries binding) so_far binding

-- the bindings are added one after another
abbrev pub addition : List (ℕ × Binding) → ℕ → List Binding → Added
addition entries next bindings =
    fold add_one (record { entries = entries; next = next; serials = [] }) bindings

-- each of the bindings is in force under the serial beside it
abbrev pub AreInForce : List (ℕ × Binding) → List Binding → List ℕ → Type 0
AreInForce entries [] [] = ⊤
AreInForce entries (binding ∷ bindings) (serial ∷ serials) =
    Contains entries (serial, binding) × AreInForce entries bindings serials
AreInForce entries [] (serial ∷ serials) = ⊥
AreInForce entries (binding ∷ bindings) [] = ⊥

-- what was in force stays, and the entries put last have serials that were not given before
pub record OnlyAdds (entries : List (ℕ × Binding)) (next : ℕ) (after : Added) : Type 0 where
  pub fresh : List (ℕ × Binding)
  pub kept : after.entries ≡ entries ++ fresh
  pub numbered : IsRising next fresh after.next

-- no two bindings in force are equal
abbrev pub AreDistinct : List (ℕ × Binding) → Type 0
AreDistinct entries = AllPairs (λ (one two : ℕ × Binding). one.1 ≢ two.1) entries

-- the fresh entries are put last, and these serials answered
abbrev pub created : List (ℕ × Binding) → ℕ → Creation → Added
created entries next made = record {
  entries = entries ++ made.fresh;
  next = next + length made.fresh;
  serials = made.serials;
}

-- the creation does what adding the bindings does
abbrev pub Creates : List (ℕ × Binding) → ℕ → List Binding → Creation → Type 0
Creates entries next bindings made = addition entries next bindings ≡ created entries next made

-- the fresh entries are put last
abbrev pub with_creation : Contents → Creation → Contents
with_creation contents made =
    record contents {
      entries = contents.entries ++ made.fresh;
      next = contents.next + length made.fresh;
    }

-- the creation can be carried out: it has room, passes no limit, and its serials come next
pub record CanCreate (made : Creation) (state : State) : Type 0 where
  pub room : length made.fresh ≤ state.room
  pub count : length state.contents.entries + length made.fresh ≤ binding_limit
  pub serials : state.contents.next + length made.fresh ≤ serial_limit
  pub numbered : IsRising state.contents.next made.fresh (state.contents.next + length made.fresh)

-- the limit that so many bindings and this next serial pass
abbrev pub limit_fault : ℕ → ℕ → Option CreateFault
limit_fault in_force next =
    if nat_lt binding_limit in_force then Some TooMany
    else (if nat_lt serial_limit next then Some SerialsSpent
    else None)

-- the limit that would be passed if the bindings were added
abbrev pub create_fault : List (ℕ × Binding) → ℕ → List Binding → Option CreateFault
create_fault entries next bindings =
    let after : Added = addition entries next bindings in
    limit_fault (length after.entries) after.next

-- How bindings are added at once: the new ones are found first, then numbered.

-- an equal binding is in force
abbrev pub is_in_force : List (ℕ × Binding) → Binding → Bool
is_in_force entries binding =
    list_any (λ (entry : ℕ × Binding). same_binding entry.1 binding) entries

-- an equal binding is in the list
abbrev pub is_among : List Binding → Binding → Bool
is_among bindings binding = list_any (λ other. same_binding other binding) bindings

-- an equal binding is in force, or among the new ones
abbrev pub is_known : List (ℕ × Binding) → List Binding → Binding → Bool
is_known entries fresh binding = is_in_force entries binding || is_among fresh binding

-- the new bindings, with this one put last where it is not known yet
abbrev pub with_new : List (ℕ × Binding) → List Binding → Binding → List Binding
with_new entries fresh binding =
    if is_known entries fresh binding then fresh else (fresh ++ binding ∷ [])

-- one binding alone, or several
abbrev pub alone_or : Option Binding → List Binding → List Binding
alone_or None several = several
alone_or (Some alone) several = alone ∷ []

-- the bindings to which none in force is equal, each once, in order
abbrev pub new_bindings : List (ℕ × Binding) → List Binding → List Binding
new_bindings entries bindings = fold (with_new entries) [] bindings

-- the serials of the entries that are equal to the bindings, in their order
abbrev pub serials_in : List (ℕ × Binding) → List Binding → List ℕ
serials_in entries bindings = filter_map (serial_of entries) bindings

-- new bindings get the next serials, and each binding that under which it is in force then
abbrev pub creation : List (ℕ × Binding) → ℕ → List Binding → Creation
creation entries next bindings =
    let fresh : List (ℕ × Binding) = enumerate_from next (new_bindings entries bindings) in
    record { fresh = fresh; serials = serials_in (entries ++ fresh) bindings }

-- the bindings without their serials
abbrev pub bindings_of : List (ℕ × Binding) → List Binding
bindings_of entries = map (λ (entry : ℕ × Binding). entry.1) entries
