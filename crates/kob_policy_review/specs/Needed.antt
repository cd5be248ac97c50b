-- The bindings without which an answer changes.
use Rattle.std.specs.Prelude.{Bool, true, false, List, [], ◌∷◌, ℕ, Option, Some, None, if◌then◌else◌, flat_map, map}
use Rattle.std.specs.List.{filter}
use Rattle.std.specs.Option.{option_to_list}
use Rattle.kob_names.specs.Binding.{Binding}
use Rattle.kob_names.specs.declared.kinds.Operation.{Operation}
use Rattle.kob_names.specs.declared.kinds.Permission.{Permission}
use Rattle.kob_names.specs.declared.kinds.Permission.TheVariants.{Allow, Deny}
use Rattle.kob_authorizer.specs.Decide.{Contents, is_super}
use Rattle.kob_policy_review.specs.Classes.{hosts_named, is_for, is_met, is_on, operations, principals_named, targets_named}
use Rattle.kob_policy_review.specs.declared.class.Target.{Target}

-- the serials of the entries that are met
abbrev pub met : Permission → Option (List ℕ) → Operation → List (ℕ × Binding) → List ℕ
met permission host operation entries =
    map (λ (entry : ℕ × Binding). entry.0) (filter (is_met permission host operation) entries)

-- the only deny where something is allowed, and the only allow where nothing is denied
abbrev pub only_one : List ℕ → List ℕ → Option ℕ
only_one [] (allow ∷ []) = Some allow
only_one (deny ∷ []) (allow ∷ more) = Some deny
only_one denies allows = None

-- what closes is not needed where it allows
abbrev pub unless_allowed : ℕ → List ℕ → Option ℕ
unless_allowed closing (allow ∷ more) = None
unless_allowed closing [] = Some closing

-- the binding that is needed for one answer, where one may close what is else open to everyone
abbrev pub needed_for : Option ℕ → List ℕ → List ℕ → Option ℕ
needed_for (Some closing) denies allows = unless_allowed closing allows
needed_for None denies allows = only_one denies allows

-- the binding that alone matches, where what none matches is open to everyone
abbrev pub closing : Bool → List (ℕ × Binding) → Option ℕ
closing true (entry ∷ []) = Some entry.0
closing everyone entries = None

unfoldable pub needed_to : Option ℕ → List (ℕ × Binding) → Option (List ℕ) → Operation → List ℕ
needed_to alone asking host operation =
    option_to_list
    (needed_for alone (met Deny host operation asking) (met Allow host operation asking))

unfoldable pub needed_from : Option ℕ → List (ℕ × Binding) → Option (List ℕ) → List ℕ
needed_from alone asking host = flat_map (needed_to alone asking host) operations

abbrev pub is_super_party : List (List ℕ) → Option (List ℕ) → Bool
is_super_party supers (Some principal) = is_super supers principal
is_super_party supers None = false

-- those that are needed for what a principal asks, of the bindings for it and for all
unfoldable pub needed_among : List (List ℕ) → Option ℕ → List (ℕ × Binding) → Option (List ℕ)
    → List ℕ
needed_among supers alone asking principal =
    if is_super_party supers principal then []
    else flat_map (needed_from alone asking) (hosts_named asking)

-- only bindings for the principal, or for all, count
unfoldable pub needed_by : List (List ℕ) → Bool → List (ℕ × Binding) → Option (List ℕ) → List ℕ
needed_by supers everyone matching principal =
    needed_among supers (closing everyone matching) (filter (is_for principal) matching) principal

-- those that are needed on some names: only bindings whose patterns match these count
unfoldable pub needed_on : Contents → Target → List ℕ
needed_on rules target =
    let matching : List (ℕ × Binding) = filter (is_on target) rules.entries in
    flat_map (needed_by rules.supers rules.everyone matching) (principals_named matching)

-- the serials of the bindings that are needed, each at least once
unfoldable pub needed : Contents → List ℕ
needed rules = flat_map (needed_on rules) (targets_named rules.entries)
