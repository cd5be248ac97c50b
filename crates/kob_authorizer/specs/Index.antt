-- The trees beside the list of bindings, and what is found by the serials in them.
use Rattle.std.specs.Prelude.{List, ◌∷◌, ◌++◌, ℕ, ◌≡◌, Bool, true, false, ◌&&◌, map, Option, None, Some, min, ◌==◌, codes, if◌then◌else◌, []}
use Rattle.kob_names.specs.Binding.{Binding, same_binding}
use Rattle.kob_names.specs.declared.kinds.ResourceKind.{ResourceKind}
use Rattle.kob_names.specs.declared.kinds.ResourceKind.TheVariants.{Topic, Group, Cluster, TransactionalId}
use Rattle.kob_names.specs.declared.kinds.PatternKind.{PatternKind}
use Rattle.kob_names.specs.declared.kinds.PatternKind.TheVariants.{Literal, Prefixed}
use Rattle.kob_names.specs.declared.kinds.Permission.TheVariants.{Allow, Deny}
use Rattle.kob_names.specs.declared.pattern.Pattern.{Pattern}
use Rattle.kob_names.specs.declared.filter.BindingFilter.{BindingFilter}
use Rattle.kob_names.specs.declared.filter.FilterPattern.{FilterPattern}
use Rattle.std.specs.List.{filter, fold, find, list_any, reduce}
use Rattle.kob_names.specs.Same.{same_text, same_resource}
use Rattle.kob_prefix_tree.specs.Held.{Addition, serials_of, Held, serials_along, PrefixMap, held, added, removed, removed_all}
use Rattle.kob_authorizer.specs.declared.index.Index.{Index}
use Rattle.kob_authorizer.specs.declared.index.Leaf.{Leaf}
use Rattle.kob_authorizer.specs.declared.patterns.Patterns.{Patterns}
use Rattle.kob_authorizer.specs.declared.hits.Hits.{Hits}
use Rattle.kob_authorizer.specs.Decide.{IsRising, is_hit, Question}
use Rattle.kob_prefix_tree.specs.declared.kind.PatternKind as of_tree
use Rattle.kob_prefix_tree.specs.declared.kind.PatternKind.TheVariants as in_tree
use Rattle.std.specs.FinMap as finite
use Rattle.kob_names.specs.declared.filter.FilterPattern.TheVariants as named

-- the byte of a kind of resource
abbrev pub kind_byte : ResourceKind → ℕ
kind_byte Topic = 0
kind_byte Group = 1
kind_byte Cluster = 2
kind_byte TransactionalId = 3

-- kind of resource, principal, host and name, with a byte between them that is in no text
unfoldable pub binding_key : Binding → List ℕ
binding_key binding =
    kind_byte binding.resource
    ∷ (binding.principal ++ 255 ∷ (binding.host ++ 255 ∷ binding.pattern.name))

-- Where the serials of bindings are in trees.

-- a key of a tree, and one of its two lists
pub record Place : Type 0 where
  pub kind : of_tree.PatternKind
  pub key : List ℕ

-- the list of a tree that is for this kind of pattern
abbrev pub kind_in_tree : PatternKind → of_tree.PatternKind
kind_in_tree Literal = in_tree.Literal
kind_in_tree Prefixed = in_tree.Prefixed

abbrev pub same_kind : of_tree.PatternKind → of_tree.PatternKind → Bool
same_kind in_tree.Literal in_tree.Literal = true
same_kind in_tree.Prefixed in_tree.Prefixed = true
same_kind one other = false

-- among the patterns a binding stands at its pattern's name
abbrev pub pattern_place : Binding → Place
pattern_place binding =
    record { kind = kind_in_tree binding.pattern.kind; key = binding.pattern.name }

-- among the keys it stands at its own, in the list of its pattern's kind
abbrev pub key_place : Binding → Place
key_place binding = record { kind = kind_in_tree binding.pattern.kind; key = binding_key binding }

-- the serial of an entry on its way to its place
abbrev pub addition : (Binding → Place) → ℕ × Binding → Addition
addition place entry =
    record { key = (place entry.1).key; kind = (place entry.1).kind; serial = entry.0 }

-- the serial is put last at its place
abbrev pub with_addition : PrefixMap → Addition → PrefixMap
with_addition tree added_one = added tree added_one.key added_one.kind added_one.serial

-- the serial is taken away from its place
abbrev pub without_addition : PrefixMap → Addition → PrefixMap
without_addition tree taken_one = removed tree taken_one.key taken_one.kind taken_one.serial

-- it is this place
abbrev pub is_place : of_tree.PatternKind → List ℕ → Place → Bool
is_place kind key place = same_kind place.kind kind && same_text place.key key

-- the serials of the entries that stand at this place, in order
abbrev pub serials_at : (Binding → Place) → List (ℕ × Binding) → of_tree.PatternKind → List ℕ
    → List ℕ
serials_at place entries kind key =
    map (λ (entry : ℕ × Binding). entry.0)
    (filter (λ (entry : ℕ × Binding). is_place kind key (place entry.1)) entries)

-- the tree holds exactly the serials of the entries, each at its place, in order
abbrev pub IsIndex : (Binding → Place) → PrefixMap → List (ℕ × Binding) → Type 0
IsIndex place tree entries =
    (kind : of_tree.PatternKind) (key : List ℕ) → serials_of kind (held tree key)
    ≡ serials_at place entries kind key

-- the tree of the patterns on one kind of resource
abbrev pub tree_of : Patterns → ResourceKind → PrefixMap
tree_of patterns Topic = patterns.topics
tree_of patterns Group = patterns.groups
tree_of patterns Cluster = patterns.cluster
tree_of patterns TransactionalId = patterns.transactional_ids

-- the tree of one kind of resource is another
abbrev pub with_tree : Patterns → ResourceKind → PrefixMap → Patterns
with_tree patterns Topic tree = record patterns { topics = tree }
with_tree patterns Group tree = record patterns { groups = tree }
with_tree patterns Cluster tree = record patterns { cluster = tree }
with_tree patterns TransactionalId tree = record patterns { transactional_ids = tree }

-- no pattern leads to a serial
abbrev pub no_patterns : Patterns
no_patterns = record {
  topics = finite.empty;
  groups = finite.empty;
  cluster = finite.empty;
  transactional_ids = finite.empty;
}

-- one more serial stands among the patterns on a kind of resource
abbrev pub with_pattern : Patterns → ResourceKind → Addition → Patterns
with_pattern patterns resource added_one =
    with_tree patterns resource (with_addition (tree_of patterns resource) added_one)

-- one more entry stands at its pattern
abbrev pub with_entry : Patterns → ℕ × Binding → Patterns
with_entry patterns entry = with_pattern patterns entry.1.resource (addition pattern_place entry)

-- the patterns of some entries alone
abbrev pub patterns_of : List (ℕ × Binding) → Patterns
patterns_of entries = fold with_entry no_patterns entries

-- nothing is indexed
abbrev pub empty_index : Index
empty_index = record { patterns = no_patterns; keys = finite.empty }

-- what an entry puts into the trees
abbrev pub leaf_of : ℕ × Binding → Leaf
leaf_of entry = record {
  resource = entry.1.resource;
  pattern = addition pattern_place entry;
  key = addition key_place entry;
}

-- one more entry is indexed
abbrev pub with_leaf : Index → Leaf → Index
with_leaf index leaf = record {
  patterns = with_pattern index.patterns leaf.resource leaf.pattern;
  keys = with_addition index.keys leaf.key;
}

-- the entries on one kind of resource
abbrev pub entries_on : ResourceKind → List (ℕ × Binding) → List (ℕ × Binding)
entries_on resource entries =
    filter (λ (entry : ℕ × Binding). same_resource entry.1.resource resource) entries

-- the trees hold exactly the serials of the entries, by pattern, each in that of its resource
abbrev pub ArePatternsOf : Patterns → List (ℕ × Binding) → Type 0
ArePatternsOf patterns entries =
    (resource : ResourceKind)
    → IsIndex pattern_place (tree_of patterns resource) (entries_on resource entries)

-- the trees hold exactly the serials of the entries, by the pattern and by the key
pub record Indexes (index : Index) (entries : List (ℕ × Binding)) : Type 0 where
  pub patterns : ArePatternsOf index.patterns entries
  pub keys : IsIndex key_place index.keys entries

-- nothing is found
abbrev pub no_hits : Hits
no_hits = record { deny = None; allow = None }

-- the lesser serial, where there are two
abbrev pub lesser : Option ℕ → Option ℕ → Option ℕ
lesser None other = other
lesser (Some one) None = Some one
lesser (Some one) (Some other) = Some (min one other)

-- the lesser serial of each permission
abbrev pub lesser_hits : Hits → Hits → Hits
lesser_hits one other =
    record { deny = lesser one.deny other.deny; allow = lesser one.allow other.allow }

-- What is found by serials that the trees gave.

-- the serials rise
abbrev pub AreRising : List (ℕ × Binding) → Type 0
AreRising entries = (high : ℕ) × IsRising 0 entries high

-- the entry with this serial
abbrev pub entry_at : List (ℕ × Binding) → ℕ → Option (ℕ × Binding)
entry_at entries serial = find (λ (entry : ℕ × Binding). entry.0 == serial) entries

-- the serials of the patterns that match a name: those along it, and those of the literal `*`
abbrev pub matching_serials : (List ℕ → Held) → List ℕ → List ℕ
matching_serials held_at name =
    serials_along held_at name ++ serials_of (kind_in_tree Literal) (held_at (codes "*"))

-- what stands at the keys that begin with a text and the byte behind it
abbrev pub behind : List ℕ → (List ℕ → Held) → List ℕ → Held
behind text held_at key = held_at (text ++ 255 ∷ key)

-- among the keys of one principal: the serials from the host that asks and from every host
abbrev pub serials_from : (List ℕ → Held) → Question → List ℕ
serials_from held_at question =
    matching_serials (behind question.host held_at) question.name
    ++ matching_serials (behind (codes "*") held_at) question.name

-- what stands at the keys of one kind of resource
abbrev pub keys_on : ResourceKind → (List ℕ → Held) → List ℕ → Held
keys_on resource held_at key = held_at (kind_byte resource ∷ key)

-- on the kind of resource that is asked for: the serials of who asks, and those of `User:*`
abbrev pub serials_for : PrefixMap → Question → List ℕ
serials_for keys question =
    serials_from (behind question.principal (keys_on question.resource (held keys))) question
    ++ serials_from (behind (codes "User:*") (keys_on question.resource (held keys))) question

-- an entry with this serial passes the test
abbrev pub passes_at : (ℕ × Binding → Bool) → List (ℕ × Binding) → ℕ → Bool
passes_at test entries serial =
    list_any (λ (entry : ℕ × Binding). (entry.0 == serial) && test entry) entries

-- the least of these serials whose entry passes the test
abbrev pub least_passing : (ℕ × Binding → Bool) → List (ℕ × Binding) → List ℕ → Option ℕ
least_passing test entries serials = reduce min (filter (passes_at test entries) serials)

-- the least of these serials whose entries are denies that hit, and the least of such allows
abbrev pub least_hits : List (ℕ × Binding) → Question → List ℕ → Hits
least_hits entries question serials = record {
  deny = least_passing (is_hit Deny question) entries serials;
  allow = least_passing (is_hit Allow question) entries serials;
}

-- the entry's binding is equal
abbrev pub is_equal : Binding → ℕ × Binding → Bool
is_equal binding entry = same_binding entry.1 binding

-- What a deletion takes out of the trees of the patterns: from each place once, and all at once.

-- a pattern on a kind of resource, and the serials that go from its place
pub record Removal : Type 0 where
  pub resource : ResourceKind
  pub pattern : Pattern
  pub serials : List ℕ

-- the serials that stand among the patterns where this entry does
abbrev pub serials_beside : Patterns → ℕ × Binding → List ℕ
serials_beside patterns entry =
    serials_of (kind_in_tree entry.1.pattern.kind)
    (held (tree_of patterns entry.1.resource) entry.1.pattern.name)

-- the first of the serials is this one
abbrev pub begins_with : List ℕ → ℕ → Bool
begins_with [] serial = false
begins_with (first ∷ rest) serial = first == serial

-- no other entry stands before this one where it does
abbrev pub is_first_there : Patterns → ℕ × Binding → Bool
is_first_there patterns entry = begins_with (serials_beside patterns entry) entry.0

-- all that stands where this entry does
abbrev pub removal_of : Patterns → ℕ × Binding → Removal
removal_of patterns entry = record {
  resource = entry.1.resource;
  pattern = entry.1.pattern;
  serials = serials_beside patterns entry;
}

-- a place is named where its first entry is met
abbrev pub with_removal : Patterns → List Removal → ℕ × Binding → List Removal
with_removal patterns so_far entry =
    if is_first_there patterns entry then so_far ++ removal_of patterns entry ∷ [] else so_far

-- all that goes with these entries, each place once
abbrev pub removals_of : List (ℕ × Binding) → List Removal
removals_of taken = fold (with_removal (patterns_of taken)) [] taken

-- the serials stand there no more
abbrev pub without_removal : Patterns → Removal → Patterns
without_removal patterns removal =
    with_tree patterns removal.resource (removed_all (tree_of patterns removal.resource)
    removal.pattern.name (kind_in_tree removal.pattern.kind) removal.serials)

-- the serials at the pattern that a filter names, where it names one on one kind of resource
abbrev pub listed_at : Patterns → FilterPattern → Option ResourceKind → Option (List ℕ) → Option (List ℕ)
listed_at patterns named.Literal (Some resource) (Some name) =
    Some (serials_of in_tree.Literal (held (tree_of patterns resource) name))
listed_at patterns named.Prefixed (Some resource) (Some name) =
    Some (serials_of in_tree.Prefixed (held (tree_of patterns resource) name))
listed_at patterns pattern resource name = None

abbrev pub listed_by : Patterns → BindingFilter → Option (List ℕ)
listed_by patterns wanted = listed_at patterns wanted.pattern wanted.resource wanted.name
