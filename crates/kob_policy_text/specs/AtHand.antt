-- What bindings name, in the order in which it is first named.
use Rattle.std.specs.Prelude.{Bool, not, ◌&&◌, ℕ, List, [], ◌∷◌, ◌++◌, fold, codes, if◌then◌else◌}
use Rattle.std.specs.List.{list_any}
use Rattle.kob_names.specs.Binding.{Binding}
use Rattle.kob_names.specs.Same.{same_pattern_kind, same_resource, same_text}
use Rattle.kob_names.specs.declared.kinds.PatternKind.TheVariants.{Literal}
use Rattle.kob_names.specs.declared.kinds.ResourceKind.{ResourceKind}
use Rattle.kob_names.specs.declared.kinds.ResourceKind.TheVariants.{Topic}

abbrev pub is_known : List (List ℕ) → List ℕ → Bool
is_known texts text = list_any (same_text text) texts

abbrev pub with_text : List (List ℕ) → List ℕ → List (List ℕ)
with_text texts text = if is_known texts text then texts else (texts ++ text ∷ [])

-- the texts in the order in which they first stand there
abbrev pub each_once : List (List ℕ) → List (List ℕ)
each_once texts = fold with_text [] texts

abbrev pub with_principal : List (List ℕ) → Binding → List (List ℕ)
with_principal known binding = with_text known binding.principal

-- no binding names a principal that asks as `User:*`: it asks as all others do
abbrev pub principals_at_hand : List Binding → List (List ℕ)
principals_at_hand bindings = fold with_principal (codes "User:*" ∷ []) bindings

abbrev pub with_host : List (List ℕ) → Binding → List (List ℕ)
with_host known binding = with_text known binding.host

-- a pattern's name, on a kind of resource
abbrev pub with_name : ResourceKind → List (List ℕ) → Binding → List (List ℕ)
with_name resource known binding =
    if same_resource binding.resource resource then with_text known binding.pattern.name else known

-- the pattern takes one topic alone
abbrev pub is_one_topic : Binding → Bool
is_one_topic binding =
    same_resource binding.resource Topic && (same_pattern_kind binding.pattern.kind Literal
    && not (same_text binding.pattern.name (codes "*")))

abbrev pub with_topic : List (List ℕ) → Binding → List (List ℕ)
with_topic known binding =
    if is_one_topic binding then with_text known binding.pattern.name else known

abbrev pub principals_named : List Binding → List (List ℕ)
principals_named bindings = fold with_principal [] bindings

abbrev pub hosts_named : List Binding → List (List ℕ)
hosts_named bindings = fold with_host [] bindings

abbrev pub names_named : ResourceKind → List Binding → List (List ℕ)
names_named resource bindings = fold (with_name resource) [] bindings

abbrev pub topics_named : List Binding → List (List ℕ)
topics_named bindings = fold with_topic [] bindings
