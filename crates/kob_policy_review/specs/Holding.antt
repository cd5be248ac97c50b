-- What is granted to one principal, by the names that its bindings distinguish.
use Rattle.std.specs.Prelude.{◌≡◌, Bool, true, false, ◌||◌, ◌&&◌, List, [], ◌∷◌, ℕ, Option, Some, None, Contains, codes, flat_map, map}
use Rattle.std.specs.List.{filter, list_any}
use Rattle.kob_names.specs.Binding.{Binding}
use Rattle.kob_names.specs.Same.{same_operation}
use Rattle.kob_names.specs.declared.kinds.Operation.{Operation}
use Rattle.kob_authorizer.specs.Decide.{Contents, Question, is_match, is_super, is_unmatched}
use Rattle.kob_policy_review.specs.Alike.{IsAskable, is_yes}
use Rattle.kob_policy_review.specs.Classes.{covers_party, hosts_named, is_for, is_on, operations, targets_named}
use Rattle.kob_policy_review.specs.Difference.{SpeaksOf, yes_to}
use Rattle.kob_policy_review.specs.declared.class.Target.{Target}
use Rattle.kob_policy_review.specs.declared.holding.Holding.{Holding}

-- the bindings that cover the principal, whatever the host
abbrev pub own_entries : Contents → List ℕ → List (ℕ × Binding)
own_entries rules principal = filter (is_for (Some principal)) rules.entries

-- the operations that some binding allows and none denies
unfoldable pub holding_from : Target → List (ℕ × Binding) → Option (List ℕ) → Holding
holding_from target asking host = record {
  host = host;
  target = target;
  operations = filter (yes_to false asking host) operations;
}

-- the host that is asked about, or each that counts
abbrev pub hosts_asked : Option (List ℕ) → List (ℕ × Binding) → List (Option (List ℕ))
hosts_asked (Some host) asking = Some host ∷ []
hosts_asked None asking = hosts_named asking

unfoldable pub holdings_on : Contents → List ℕ → Option (List ℕ) → Target → List Holding
holdings_on rules principal host target =
    let asking : List (ℕ × Binding) =
    filter (is_for (Some principal)) (filter (is_on target) rules.entries) in
    map (holding_from target asking) (hosts_asked host asking)

-- what is granted on each name that the principal's bindings distinguish
unfoldable pub holdings_of : Contents → List ℕ → Option (List ℕ) → List Holding
holdings_of rules principal host =
    flat_map (holdings_on rules principal host) (targets_named (own_entries rules principal))

-- no binding matches the name, and such names are open to everyone
abbrev pub is_open_to_all : Contents → Question → Bool
is_open_to_all rules question = rules.everyone && is_unmatched rules.entries question

-- the operation is listed there
abbrev pub is_held : Operation → Holding → Bool
is_held operation one = list_any (same_operation operation) one.operations

-- The principal asks; its bindings match the name that is asked for as they match the names of the
-- class, and they cover the host that asks as they cover the hosts of the class.
pub record IsOf (rules : Contents) (principal : List ℕ) (one : Holding) (question : Question)
    : Type 0 where
  pub asked : question.principal ≡ principal
  pub names : (entry : ℕ × Binding) → Contains (own_entries rules principal) entry
      → is_on one.target entry ≡ is_match question entry
  pub hosts : (entry : ℕ × Binding) → Contains (own_entries rules principal) entry
      → is_on one.target entry ≡ true
      → covers_party (codes "*") entry.1.host one.host
      ≡ covers_party (codes "*") entry.1.host (Some question.host)

-- Of one who is no super user: a right on the names of a class is listed exactly if it is granted
-- on each of them, names apart that are open to everyone; and each question is of a class.
pub record ListsHoldings (rules : Contents) (principal : List ℕ) (host : Option (List ℕ))
    (found : List Holding) : Type 0 where
  pub exact : (one : Holding) (question : Question) → Contains found one → IsAskable question
      → is_super rules.supers principal ≡ false → IsOf rules principal one question
      → is_yes rules question ≡ (is_held question.operation one || is_open_to_all rules question)
  pub all : (question : Question) → question.principal ≡ principal → IsAskable question
      → SpeaksOf question.host host
      → (one : Holding) × (Contains found one × IsOf rules principal one question)
