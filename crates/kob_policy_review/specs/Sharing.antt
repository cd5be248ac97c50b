-- On which of the names below a prefix something is granted, by the bindings of who asks.
use Rattle.std.specs.Prelude.{Bool, List, [], ℕ, ◌&&◌, ◌||◌, not, Option, map, if◌then◌else◌}
use Rattle.std.specs.List.{filter, list_all, list_any}
use Rattle.kob_names.specs.Binding.{Binding}
use Rattle.kob_names.specs.declared.kinds.Operation.{Operation}
use Rattle.kob_names.specs.declared.kinds.Permission.TheVariants.{Allow, Deny}
use Rattle.kob_names.specs.declared.kinds.ResourceKind.{ResourceKind}
use Rattle.kob_authorizer.specs.Decide.{Contents}
use Rattle.kob_policy_review.specs.Below.{at_prefix, is_below, is_met_on, place_on, share_of, targets_below, yes_at}
use Rattle.kob_policy_review.specs.Classes.{hosts_named, is_for, is_met, is_on, target_of}
use Rattle.kob_policy_review.specs.Needed.{is_super_party}
use Rattle.kob_policy_review.specs.declared.named_below.Place.{Place}
use Rattle.kob_policy_review.specs.declared.below.Reach.{Reach}
use Rattle.kob_policy_review.specs.declared.class.Target.{Target}

-- of the names below a prefix that a binding is on, those that the fewest others are on: all names
-- that begin with the prefix, or those that its pattern takes first
abbrev pub first_of : Target → ℕ × Binding → Target
first_of first entry = if is_on first entry then first else target_of entry

-- the binding is on some of the names below the prefix
abbrev pub is_near : Target → ResourceKind → List ℕ → ℕ × Binding → Bool
is_near first resource prefix entry =
    is_below resource prefix (first_of first entry) && is_on (first_of first entry) entry

-- the names that a prefixed pattern of the prefix takes first, all names below it, and whether some
-- of these are open to everyone
pub record NamesBelow : Type 0 where
  pub first : Target
  pub places : List Place
  pub opened : Bool

abbrev pub is_opened : Place → Bool
is_opened place = place.opened

abbrev pub names_by_places : Target → List Place → NamesBelow
names_by_places first places =
    record { first = first; places = places; opened = list_any is_opened places }

abbrev pub names_below : Contents → ResourceKind → List ℕ → NamesBelow
names_below rules resource prefix =
    names_by_places (at_prefix resource prefix)
    (map (place_on rules) (targets_below rules.entries resource prefix))

-- the binding allows it on names on which none denies it
abbrev pub allows_some : Target → Option (List ℕ) → Operation → List (ℕ × Binding) → ℕ × Binding
    → Bool
allows_some first host operation asking entry =
    is_met Allow host operation entry
    && not (list_any (is_met_on (first_of first entry) Deny host operation) asking)

abbrev pub some_yes : NamesBelow → List (ℕ × Binding) → Option (List ℕ) → Operation → Bool
some_yes names asking host operation =
    names.opened || list_any (allows_some names.first host operation asking) asking

-- each deny is on some of the names; an allow on those that begin with the prefix is on all
abbrev pub all_yes : NamesBelow → List (ℕ × Binding) → Option (List ℕ) → Operation → Bool
all_yes names asking host operation =
    not (list_any (is_met Deny host operation) asking)
    && (list_any (is_met_on names.first Allow host operation) asking
    || list_all (yes_at asking host operation) names.places)

unfoldable pub reach_near : NamesBelow → List (ℕ × Binding) → Operation → Option (List ℕ)
    → Option (List ℕ) → Reach
reach_near names asking operation principal host = record {
  principal = principal;
  host = host;
  share = share_of (some_yes names asking host operation) (all_yes names asking host operation);
}

unfoldable pub reaches_near : List (List ℕ) → NamesBelow → List (ℕ × Binding) → Operation
    → Option (List ℕ) → List Reach
reaches_near supers names near operation principal =
    if is_super_party supers principal then []
    else map (reach_near names (filter (is_for principal) near) operation principal)
    (hosts_named (filter (is_for principal) near))
