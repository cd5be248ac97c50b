-- Who may do something on the names that begin with a prefix.
use Rattle.std.specs.Prelude.{◌≡◌, Bool, true, false, ◌||◌, ◌&&◌, not, List, [], ℕ, Option, Some, nat_eq, Contains, codes, flat_map, fold, map, if◌then◌else◌}
use Rattle.std.specs.List.{filter, list_all, list_any, starts_with}
use Rattle.kob_names.specs.Binding.{Binding}
use Rattle.kob_names.specs.Same.{same_resource}
use Rattle.kob_names.specs.declared.kinds.Operation.{Operation}
use Rattle.kob_names.specs.declared.kinds.PatternKind.TheVariants.{Prefixed}
use Rattle.kob_names.specs.declared.kinds.Permission.{Permission}
use Rattle.kob_names.specs.declared.kinds.Permission.TheVariants.{Allow, Deny}
use Rattle.kob_names.specs.declared.kinds.ResourceKind.{ResourceKind}
use Rattle.kob_names.specs.declared.kinds.ResourceKind.TheVariants.{Cluster}
use Rattle.kob_authorizer.specs.Decide.{Contents, is_super, question_of}
use Rattle.kob_policy_review.specs.Alike.{is_yes}
use Rattle.kob_policy_review.specs.Classes.{covers_party, hosts_named, is_for, is_met, is_on, open_targets, principals_named, target_by, with_target, with_target_of}
use Rattle.kob_policy_review.specs.Finding.{text_of}
use Rattle.kob_policy_review.specs.Needed.{is_super_party}
use Rattle.kob_policy_review.specs.declared.named_below.Place.{Place}
use Rattle.kob_policy_review.specs.declared.below.Reach.{Reach}
use Rattle.kob_policy_review.specs.declared.below.Share.{Share}
use Rattle.kob_policy_review.specs.declared.below.Share.TheVariants.{Nothing, Part, Everything}
use Rattle.kob_policy_review.specs.declared.class.Target.{Target}

-- the names that a prefixed pattern takes first
abbrev pub at_prefix : ResourceKind → List ℕ → Target
at_prefix resource prefix = target_by resource (record { kind = Prefixed; name = prefix })

-- the names of the target begin with the prefix
abbrev pub is_below : ResourceKind → List ℕ → Target → Bool
is_below resource prefix target =
    same_resource target.resource resource && starts_with nat_eq (text_of target.names) prefix

-- the names that begin with a prefix, as the entries distinguish them
abbrev pub targets_below : List (ℕ × Binding) → ResourceKind → List ℕ → List Target
targets_below entries resource prefix =
    filter (is_below resource prefix)
    (fold with_target_of (with_target open_targets (at_prefix resource prefix)) entries)

abbrev pub is_on_one : List Target → ℕ × Binding → Bool
is_on_one targets entry = list_any (λ target. is_on target entry) targets

-- the bindings on those names
abbrev pub near_below : Contents → ResourceKind → List ℕ → List (ℕ × Binding)
near_below rules resource prefix =
    filter (is_on_one (targets_below rules.entries resource prefix)) rules.entries

-- names, and whether they are open to everyone
abbrev pub place_on : Contents → Target → Place
place_on rules target = record {
  target = target;
  opened = rules.everyone && not (list_any (is_on target) rules.entries);
}

-- one of the bindings is on the names, and is met
abbrev pub is_met_on : Target → Permission → Option (List ℕ) → Operation → ℕ × Binding → Bool
is_met_on target permission host operation entry =
    is_on target entry && is_met permission host operation entry

-- the answer on a place to one who is no super user
abbrev pub yes_at : List (ℕ × Binding) → Option (List ℕ) → Operation → Place → Bool
yes_at asking host operation place =
    not (list_any (is_met_on place.target Deny host operation) asking)
    && (list_any (is_met_on place.target Allow host operation) asking || place.opened)

-- of whether it is granted on some, and on all
abbrev pub share_of : Bool → Bool → Share
share_of false all = Nothing
share_of true false = Part
share_of true true = Everything

unfoldable pub reach_from : List Place → List (ℕ × Binding) → Operation → Option (List ℕ)
    → Option (List ℕ) → Reach
reach_from places asking operation principal host = record {
  principal = principal;
  host = host;
  share = share_of (list_any (yes_at asking host operation) places)
      (list_all (yes_at asking host operation) places);
}

unfoldable pub reaches_by : List (List ℕ) → List Place → List (ℕ × Binding) → Operation
    → Option (List ℕ) → List Reach
reaches_by supers places near operation principal =
    if is_super_party supers principal then []
    else map (reach_from places (filter (is_for principal) near) operation principal)
    (hosts_named (filter (is_for principal) near))

unfoldable pub reaches_below : Contents → Operation → ResourceKind → List ℕ → List Reach
reaches_below rules operation resource prefix =
    let near : List (ℕ × Binding) = near_below rules resource prefix in
    flat_map (reaches_by rules.supers
    (map (place_on rules) (targets_below rules.entries resource prefix)) near operation)
    (principals_named near)

-- What the list says.

-- a name that begins with the prefix; the cluster has one name
pub record BeginsWith (resource : ResourceKind) (prefix name : List ℕ) : Type 0 where
  pub begins : starts_with nat_eq name prefix ≡ true
  pub only : resource ≡ Cluster → name ≡ codes "kafka-cluster"

abbrev pub IsGrantedOn : Contents → Operation → ResourceKind → List ℕ → List ℕ → List ℕ → Type 0
IsGrantedOn rules operation resource principal host name =
    is_yes rules (question_of principal host operation resource name) ≡ true

abbrev pub IsGrantedOnSome : Contents → Operation → ResourceKind → List ℕ → List ℕ → List ℕ → Type 0
IsGrantedOnSome rules operation resource prefix principal host =
    (name : List ℕ) × (BeginsWith resource prefix name
    × IsGrantedOn rules operation resource principal host name)

abbrev pub IsGrantedOnAll : Contents → Operation → ResourceKind → List ℕ → List ℕ → List ℕ → Type 0
IsGrantedOnAll rules operation resource prefix principal host =
    (name : List ℕ) → BeginsWith resource prefix name
    → IsGrantedOn rules operation resource principal host name

-- what a share says of whether it is granted on some, and on all
abbrev pub Means : Share → Type 0 → Type 0 → Type 0
Means Nothing OnSome OnAll = ¬ OnSome
Means Part OnSome OnAll = OnSome × ¬ OnAll
Means Everything OnSome OnAll = OnSome × OnAll

-- the bindings on those names cover the principal and the host as they cover those of the class
pub record IsAsker (rules : Contents) (resource : ResourceKind) (prefix : List ℕ) (one : Reach)
    (principal host : List ℕ) : Type 0 where
  pub who : (entry : ℕ × Binding) → Contains (near_below rules resource prefix) entry
      → is_for one.principal entry ≡ is_for (Some principal) entry
  pub hosts : (entry : ℕ × Binding) → Contains (near_below rules resource prefix) entry
      → is_for one.principal entry ≡ true
      → covers_party (codes "*") entry.1.host one.host
      ≡ covers_party (codes "*") entry.1.host (Some host)

-- Each share is that of every principal and host of its class, and all are of a class, but for
-- super users, to whom all is granted.
pub record ListsReaches (rules : Contents) (operation : Operation) (resource : ResourceKind)
    (prefix : List ℕ) (found : List Reach) : Type 0 where
  pub exact : (one : Reach) (principal host : List ℕ) → Contains found one
      → is_super rules.supers principal ≡ false
      → IsAsker rules resource prefix one principal host
      → Means one.share (IsGrantedOnSome rules operation resource prefix principal host)
      (IsGrantedOnAll rules operation resource prefix principal host)
  pub all : (principal host : List ℕ) → is_super rules.supers principal ≡ false
      → (one : Reach) × (Contains found one × IsAsker rules resource prefix one principal host)
