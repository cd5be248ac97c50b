-- What a key holds; the tree as a finite map from keys to it, and what is read along a name.
use Rattle.std.specs.Prelude.{Contains, ℕ, Bool, false, ◌==◌, if◌then◌else◌, List, [], ◌∷◌, ◌+◌, nat_eq, length, ◌++◌, ◌≡◌, ◌≢◌, ◌≤◌, map, unwrap_or}
use Rattle.std.specs.List.{list_any, flat_map}
use Rattle.kob_prefix_tree.specs.declared.kind.PatternKind.{PatternKind}
use Rattle.kob_prefix_tree.specs.declared.kind.PatternKind.TheVariants.{Literal, Prefixed}
use Rattle.std.specs.Ordering.{nat_cmp}
use Rattle.std.specs.Cmp.Lexicographic.{slice_cmp}
use Rattle.std.specs.FinMap as map

-- xs less these numbers, in one pass: each is taken out once, behind the one before it
abbrev pub without_in_turn : List ℕ → List ℕ → List ℕ
without_in_turn ys [] = []
without_in_turn [] (x ∷ xs) = x ∷ xs
without_in_turn (y ∷ ys) (x ∷ xs) =
    if x == y then without_in_turn ys xs else x ∷ without_in_turn (y ∷ ys) xs

-- whether such a pass takes any out
abbrev pub has_in_turn : List ℕ → List ℕ → Bool
has_in_turn [] xs = false
has_in_turn (y ∷ ys) xs = list_any (λ x. x == y) xs

-- the literal serials, and the prefixed ones
abbrev pub Held : Type 0
Held = List ℕ × List ℕ

-- no serial of either kind
abbrev pub nothing : Held
nothing = ([], [])

-- whether no serial is there
abbrev pub is_nothing : Held → Bool
is_nothing held = nat_eq (length held.0 + length held.1) 0

-- the serials of one kind
abbrev pub serials_of : PatternKind → Held → List ℕ
serials_of Literal held = held.0
serials_of Prefixed held = held.1

-- the serial put last in the list of its kind
abbrev pub with_serial : PatternKind → ℕ → Held → Held
with_serial Literal serial held = (held.0 ++ serial ∷ [], held.1)
with_serial Prefixed serial held = (held.0, held.1 ++ serial ∷ [])

-- whether it is there
abbrev pub has_serial : PatternKind → ℕ → Held → Bool
has_serial kind serial held = list_any (λ x. x == serial) (serials_of kind held)

-- these serials taken out of the list of their kind, in one pass
abbrev pub without_serials : PatternKind → List ℕ → Held → Held
without_serials Literal serials held = (without_in_turn serials held.0, held.1)
without_serials Prefixed serials held = (held.0, without_in_turn serials held.1)

-- whether any of them is taken out
abbrev pub has_serials : PatternKind → List ℕ → Held → Bool
has_serials kind serials held = has_in_turn serials (serials_of kind held)

-- the beginnings of a name, the shortest first
abbrev pub prefixes : List ℕ → List (List ℕ)
prefixes [] = [] ∷ []
prefixes (byte ∷ name) = [] ∷ map (λ prefix. byte ∷ prefix) (prefixes name)

-- how far two texts agree
abbrev pub common_length : List ℕ → List ℕ → ℕ
common_length [] key = 0
common_length (x ∷ name) [] = 0
common_length (x ∷ name) (y ∷ key) = if x == y then 1 + common_length name key else 0

module _ (held : List ℕ → Held) (name : List ℕ) where
  -- the prefixed serials of the keys with which the name begins, and then its literal ones
  abbrev pub serials_along : List ℕ
  serials_along =
      flat_map (λ prefix. serials_of Prefixed (held prefix)) (prefixes name)
      ++ serials_of Literal (held name)

  -- n is the length of the longest beginning of the name that begins a key in use, or 0
  pub record IsLongestInUse (n : ℕ) : Type 0 where
    pub reached : n ≢ 0 → (key : List ℕ) × ((held key ≢ nothing) × (common_length name key ≡ n))
    pub longest : (key : List ℕ) → held key ≢ nothing → common_length name key ≤ n

-- keys in use, each with what it holds
abbrev pub PrefixMap : Type 0
PrefixMap = map.FinMap (slice_cmp nat_cmp) Held

-- what stands at a key
abbrev pub held : PrefixMap → List ℕ → Held
held m key = unwrap_or (map.get m key) nothing

-- the map after the serial is put last in the list of its kind
abbrev pub added : PrefixMap → List ℕ → PatternKind → ℕ → PrefixMap
added m key kind serial = map.insert m key (with_serial kind serial (held m key))

-- the map after these serials are taken out, in one pass. A key that then holds nothing goes
abbrev pub removed_all : PrefixMap → List ℕ → PatternKind → List ℕ → PrefixMap
removed_all m key kind serials =
    let left = without_serials kind serials (held m key) in
    if is_nothing left then map.remove m key else map.insert m key left

-- the map after the serial is taken out
abbrev pub removed : PrefixMap → List ℕ → PatternKind → ℕ → PrefixMap
removed m key kind serial = removed_all m key kind (serial ∷ [])

-- the prefixed serials of the keys with which the name begins, and then its literal ones
abbrev pub walk_of : PrefixMap → List ℕ → List ℕ
walk_of m name = serials_along (held m) name

-- the serial stands at some key, in one of its two lists
abbrev pub IsHeld : (List ℕ → Held) → ℕ → Type 0
IsHeld held_at serial =
    (key : List ℕ) × ((kind : PatternKind) × Contains (serials_of kind (held_at key)) serial)

-- one more than the length of the longest beginning of the name that begins a key in use
abbrev pub IsLevels : PrefixMap → List ℕ → ℕ → Type 0
IsLevels m name levels = (n : ℕ) × ((levels ≡ 1 + n) × IsLongestInUse (held m) name n)

-- a serial, the key that it goes to, and in which of the key's lists
pub record Addition : Type 0 where
  pub key : List ℕ
  pub kind : PatternKind
  pub serial : ℕ
