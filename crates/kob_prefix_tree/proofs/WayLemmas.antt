-- Siblings, when one is changed, taken out or put in.
use Rattle.kob_prefix_tree.proofs.Words.{Contents, IsNeat, List, None, Some, Trie, [], ap, arith, bare, cond, eq-eqb, refl, sibling, siblings, sym, value_at, void, without, ℕ, ◌∷◌, ◌≡◌, ◌≢◌, ChangedAt, Held, Option, behind_one, held_in, led_by, nat_tests, nothing, unwrap_or, ◌++◌, ◌∙◌, Literal, PatternKind, Prefixed, Tree, false, has_serials, leaf, length, node, serials_of, trie_of, true≢false, without_serials, ◌==◌, Bool, Decides, Entries, IsLongestInUse, PrefixMap, added, behind, bytes_eq-Decides, entries_below, entries_in, eq_by_cmp, find, held, is_eq-slice_cmp, is_nothing, nat_cmp, nat_cmp-IsAntisymmetric, nat_list_cmp_total, nil_from_length, option_or, removed_all, slice_cmp, slice_cmp-IsAntisymmetric, subst, true, with_serial, IsWay, and-true, is_bare, kept_behind, unwound, with_child}
use Rattle.kob_prefix_tree.specs.declared.siblings.Item.{Item}
use Rattle.std.specs.FinMap as map

module _ {A : Type 0} where
  pub at_first : (byte : ℕ) (v : A) (xs : List (ℕ × A)) → value_at byte ((byte, v) ∷ xs) ≡ Some v
  at_first byte v xs = ap (λ b. cond b (Some v) (value_at byte xs)) (eq-eqb byte byte refl)

  pub some_not_none : (v : A) → Some v ≢ None
  some_not_none v e = cc

  pub at_without_other : (byte other : ℕ) (xs : List (ℕ × A)) → other ≢ byte
      → value_at other (without byte xs) ≡ value_at other xs
  at_without_other byte other [] ne = refl
  at_without_other byte other (x ∷ xs) ne = grind (arith, at_without_other byte other xs ne)

-- neat siblings, as a list
abbrev pub AllNeat : List (ℕ × Contents) → Type 0
AllNeat [] = Unit {0}
AllNeat (s ∷ ss) = (value_at s.0 ss ≡ None) × ((s.1 ≢ bare) × (IsNeat s.1.1 × AllNeat ss))

pub neat_list : (t : Trie) → IsNeat t → AllNeat (siblings t)
neat_list void neat = tt
neat_list (sibling first h below after) neat = (neat.0, (neat.1.0, (neat.1.1.0, neat_list after neat.1.1.1)))

pub neat_tree : (t : Trie) → AllNeat (siblings t) → IsNeat t
neat_tree void neat = tt
neat_tree (sibling first h below after) neat = (neat.0, (neat.1.0, (neat.1.1.0, neat_tree after neat.1.1.1)))

pub neat_without : (byte : ℕ) (ss : List (ℕ × Contents)) → AllNeat ss → AllNeat (without byte ss)
neat_without byte [] neat = tt
neat_without byte (s ∷ ss) neat = grind (arith, neat_without byte ss neat.1.1.1, at_without_other)

-- the sibling taken out is gone
pub at_without : (byte : ℕ) (ss : List (ℕ × Contents)) → AllNeat ss → value_at byte (without byte ss) ≡ None
at_without byte [] neat = refl
at_without byte (s ∷ ss) neat = grind (arith, at_without byte ss neat.1.1.1)

pub neat_at : (byte : ℕ) (v : Contents) (ss : List (ℕ × Contents)) → AllNeat ss → value_at byte ss ≡ Some v
    → (v ≢ bare) × IsNeat v.1
neat_at byte v [] neat is = absurd (some_not_none v (sym is))
neat_at byte v (s ∷ ss) neat is = grind (arith, neat_at byte v ss neat.1.1.1)

-- A place of the tree whose contents change at one key.

-- the serials of the place itself
pub changed_here : (f : Held → Held) (h : Held) (t : Trie) → IsNeat t → ChangedAt [] f (h, t) (f h, t)
changed_here f h t neat = record {
  neat = neat;
  at = refl;
  elsewhere = λ other. elim other as (λ k. k ≢ [] → held_in k (f h, t) ≡ held_in k (h, t)) [
    | [] ↦ λ ne. absurd (ne refl)
    | byte ∷ key ↦ λ ne. refl
  ];
}

pub held_in_bare : (key : List ℕ) → held_in key bare ≡ nothing
held_in_bare [] = refl
held_in_bare (byte ∷ key) = refl

-- what stood behind a byte, or nothing
pub held_behind : (o : Option Contents) (key : List ℕ) → held_in key (unwrap_or o bare) ≡ behind_one (held_in key) o
held_behind o key = grind (arith, nat_tests, held_in_bare)

module _ (f : Held → Held) (byte : ℕ) (rest : List ℕ) (h : Held) (t t' : Trie) where
  changed_below : IsNeat t' → behind_one (held_in rest) (value_at byte (siblings t'))
      ≡ f (behind_one (held_in rest) (value_at byte (siblings t)))
      → ((key : List ℕ) → key ≢ rest → behind_one (held_in key) (value_at byte (siblings t'))
      ≡ behind_one (held_in key) (value_at byte (siblings t)))
      → ((b : ℕ) → b ≢ byte → value_at b (siblings t') ≡ value_at b (siblings t))
      → ChangedAt (byte ∷ rest) f (h, t) (h, t')
  changed_below neat at beside others = record {
    neat = neat;
    at = at;
    elsewhere = λ other. elim other as (λ k. k ≢ byte ∷ rest → held_in k (h, t') ≡ held_in k (h, t)) [
      | [] ↦ λ ne. refl
      | b ∷ key ↦ λ ne. grind (arith, nat_tests, beside key, others b)
    ];
  }

  module _ {c d : Contents} (neat : IsNeat t) (was : c ≡ unwrap_or (value_at byte (siblings t)) bare)
      (done : ChangedAt rest f c d) where
    pub had : (key : List ℕ) → held_in key c ≡ behind_one (held_in key) (value_at byte (siblings t))
    had key = ap (held_in key) was ∙ held_behind (value_at byte (siblings t)) key

    -- d stands behind the byte now
    pub stands : IsNeat t' → value_at byte (siblings t') ≡ Some d
        → ((b : ℕ) → b ≢ byte → value_at b (siblings t') ≡ value_at b (siblings t))
        → ChangedAt (byte ∷ rest) f (h, t) (h, t')
    stands neat' is others = grind (arith, changed_below, had)

    pub linked_front : value_at byte (siblings t) ≡ None → d ≢ bare → siblings t' ≡ (byte, d) ∷ siblings t
        → ChangedAt (byte ∷ rest) f (h, t) (h, t')
    linked_front none some is = grind (arith, stands, neat_tree, neat_list)

    pub taken_out : d ≡ bare → siblings t' ≡ without byte (siblings t) → ChangedAt (byte ∷ rest) f (h, t) (h, t')
    taken_out none is =
        grind (arith, at_without, neat_list, held_in_bare, changed_below, neat_tree, neat_without, at_without_other)

-- what was put in where nothing was, behind more bytes
pub behind_tail : (f : Held → Held) (tail rest : List ℕ) {d : Contents} → ChangedAt rest f bare d → d ≢ bare
    → ChangedAt (tail ++ rest) f bare (led_by tail d) × (led_by tail d ≢ bare)
behind_tail f [] rest done some = (done, some)
behind_tail f (byte ∷ tail) rest {d} done some =
    let (inner, kept) = behind_tail f tail rest done some in
    (linked_front f byte (tail ++ rest) nothing void (led_by (byte ∷ tail) d).1 tt refl inner refl kept refl, grind arith)

-- A place from which some bytes alone lead on.

-- behind no byte is the place itself
pub behind_none : (tail : List ℕ) (c : Contents) → length tail ≡ 0 → led_by tail c ≡ c
behind_none [] c e = refl
behind_none (x ∷ tail) c e = absurd (omega arith)

-- before the last of them nothing stands
pub none_before : (kind : PatternKind) (tail : List ℕ) (c : Contents) → length tail == 0 ≡ false
    → [] ≡ serials_of kind (led_by tail c).0
none_before kind [] c e = absurd (true≢false e)
none_before Literal (x ∷ tail) c e = refl
none_before Prefixed (x ∷ tail) c e = refl

pub tail_of_bare : (tail : List ℕ) (c : Contents) → led_by tail c ≡ bare → tail ≡ []
tail_of_bare [] c e = refl
tail_of_bare (x ∷ tail) c e = let e' : (led_by (x ∷ tail) c).1 ≡ void = ap (λ (y : Contents). y.1) e in cc

pub none_taken : (kind : PatternKind) (serials : List ℕ) → nothing ≡ without_serials kind serials nothing
none_taken kind serials = grind (arith, nat_tests)

pub none_found : (kind : PatternKind) (serials : List ℕ) → false ≡ has_serials kind serials nothing
none_found kind serials = grind (arith, nat_tests)

pub no_nodes : (t : Tree Item) → trie_of t ≡ void → t ≡ leaf
no_nodes leaf e = refl
no_nodes (node item heap c below n after) e = cc

pub ruleset nothing_behind = (tail_of_bare, no_nodes)

-- The tree as a finite map, before and after a change.

pub is_nothing_true : (h : Held) → is_nothing h ≡ true → h ≡ nothing
is_nothing_true h e = grind (arith, nat_tests, nil_from_length)

some_behind : (xs : List ℕ) (x : ℕ) → xs ++ x ∷ [] ≢ []
some_behind [] x e = cc
some_behind (y ∷ xs) x e = cc

-- a key in whose list a serial was put holds something
pub with_some : (kind : PatternKind) (serial : ℕ) (h : Held) → with_serial kind serial h ≢ nothing
with_some kind serial h e = grind (arith, nat_tests, some_behind)

abbrev pub bytes : List ℕ → List ℕ → Bool
bytes x y = eq_by_cmp (slice_cmp nat_cmp) x y

pub bytes_decide : (x y : List ℕ) → Decides (bytes x y) (x ≡ y)
bytes_decide x y = subst (λ b. Decides b (x ≡ y)) (sym (is_eq-slice_cmp x y)) (bytes_eq-Decides x y)

abbrev found : List ℕ → Entries → Option Held
found key es = find (slice_cmp nat_cmp) key es

-- what a map keeps of it
abbrev kept : Held → Option Held
kept held = cond (is_nothing held) None (Some held)

found_append : (key : List ℕ) (es fs : Entries) → found key (es ++ fs) ≡ option_or (found key es) (found key fs)
found_append key [] fs = refl
found_append key (e ∷ es) fs = grind (arith, found_append key es fs)

found_behind_empty : (byte : ℕ) (es : Entries) → found [] (behind byte es) ≡ None
found_behind_empty byte [] = refl
found_behind_empty byte (e ∷ es) = found_behind_empty byte es

found_behind : (a b : ℕ) (key : List ℕ) (es : Entries)
    → found (a ∷ key) (behind b es) ≡ cond (b == a) (found key es) None
found_behind a b key [] = grind (arith, nat_tests)
found_behind a b key (e ∷ es) = grind (arith, nat_tests, found_behind a b key es)

found_below_empty : (t : Trie) → found [] (entries_below t) ≡ None
found_below_empty void = refl
found_below_empty (sibling byte h below after) =
    grind (arith, found_below_empty after, found_append, found_behind_empty)

abbrev found_at : List ℕ → Option Contents → Option Held
found_at key None = None
found_at key (Some c) = found key (entries_in c)

found_below : (byte : ℕ) (key : List ℕ) (t : Trie) → IsNeat t
    → found (byte ∷ key) (entries_below t) ≡ found_at key (value_at byte (siblings t))
found_below byte key void neat = refl
found_below byte key (sibling first h below after) neat =
    grind (arith, nat_tests, found_below byte key after neat.1.1.1, found_append, found_behind)

found_in_place : (key : List ℕ) (c : Contents) → IsNeat c.1 → found key (entries_in c) ≡ kept (held_in key c)
found_in_place [] c neat = grind (arith, found_append, found_below_empty)
found_in_place (byte ∷ key) c neat =
    grind (arith, found_in_place key, found_append, found_below byte key c.1 neat, neat_at, neat_list)

-- the map of a place
abbrev pub map_at : Contents → PrefixMap
map_at c = map.from_entries (entries_in c)

get_at : (c : Contents) (key : List ℕ) → IsNeat c.1 → map.get (map_at c) key ≡ kept (held_in key c)
get_at c key neat = map.get-from_entries nat_list_cmp_total (entries_in c) key ∙ found_in_place key c neat

pub held_of_map : (key : List ℕ) (c : Contents) → IsNeat c.1 → held (map_at c) key ≡ held_in key c
held_of_map key c neat = grind (arith, get_at, is_nothing_true)

pub held_everywhere : (c : Contents) → IsNeat c.1 → (λ key. held_in key c) ≡ held (map_at c)
held_everywhere c neat = sym (λ i key. held_of_map key c neat i)

pub longest_of_place : (c : Contents) (name : List ℕ) (n : ℕ) → IsNeat c.1
    → IsLongestInUse (λ key. held_in key c) name n → IsLongestInUse (held (map_at c)) name n
longest_of_place c name n neat longest = subst (λ f. IsLongestInUse f name n) (held_everywhere c neat) longest

is_map : (c : Contents) (m : PrefixMap) → IsNeat c.1 → ((key : List ℕ) → map.get m key ≡ kept (held_in key c))
    → map_at c ≡ m
is_map c m neat is = map.same_map nat_list_cmp_total (slice_cmp-IsAntisymmetric nat_cmp-IsAntisymmetric) (map_at c) m
    (λ key. get_at c key neat ∙ sym (is key))

module _ (old new : Contents) (key : List ℕ) (neat : IsNeat old.1) where
  module _ (f : Held → Held) (done : ChangedAt key f old new) where
    left_get : (k : List ℕ) → map.get (cond (is_nothing (f (held (map_at old) key))) (map.remove (map_at old) key)
        (map.insert (map_at old) key (f (held (map_at old) key)))) k ≡ kept (held_in k new)
    left_get k =
        let gone = map.get-remove nat_list_cmp_total (map_at old) key k in
        let put = map.get-insert nat_list_cmp_total (map_at old) key in
        grind (arith, done.at, done.elsewhere k, bytes_decide k key, get_at old k neat, held_of_map key old neat)

    left_of : map_at new ≡ cond (is_nothing (f (held (map_at old) key))) (map.remove (map_at old) key)
        (map.insert (map_at old) key (f (held (map_at old) key)))
    left_of = is_map new _ done.neat left_get

  pub same_of : ChangedAt key (λ held. held) old new → map_at new ≡ map_at old
  same_of done = is_map new (map_at old) done.neat (λ k. grind (arith, get_at, bytes_decide k key, done.at, done.elsewhere k))

  module _ (kind : PatternKind) where
    pub added_of : (serial : ℕ) → ChangedAt key (with_serial kind serial) old new
        → map_at new ≡ added (map_at old) key kind serial
    added_of serial done =
        grind (arith, left_of (with_serial kind serial) done, with_some kind serial (held (map_at old) key), is_nothing_true)

    pub removed_all_of : (serials : List ℕ) → ChangedAt key (without_serials kind serials) old new
        → map_at new ≡ removed_all (map_at old) key kind serials
    removed_all_of serials done = left_of (without_serials kind serials) done

-- what a removal is proved by
pub ruleset removing = (held_of_map, removed_all_of)

-- The way down to one place and up again: what is done there is done to the whole.

-- a place where a serial was put is not bare
pub some_put : (kind : PatternKind) (serial : ℕ) (key : List ℕ) (h : Held) {c : Contents}
    → held_in key c ≡ with_serial kind serial h → c ≢ bare
some_put kind serial key h put none = grind (arith, with_some, held_in_bare)

pub bare_when : (c : Contents) → is_bare c ≡ true → c ≡ bare
bare_when c e = grind (arith, nat_tests, and-true, is_nothing_true)

-- a child that is not bare stands in front
pub child_put : (byte : ℕ) (c : Contents) (t : Trie) → c ≢ bare → with_child byte c t ≡ sibling byte c.0 c.1 t
child_put byte c t some = grind (arith, bare_when)

pub kept_some : (tail : List ℕ) (c : Contents) → c ≢ bare → kept_behind tail c ≡ led_by tail c
kept_some tail c some = grind (arith, bare_when)

pub kept_here : (c : Contents) → kept_behind [] c ≡ c
kept_here c = grind (arith, bare_when)

pub neat_inside : (tail : List ℕ) (c : Contents) → IsNeat (led_by tail c).1 → IsNeat c.1
neat_inside [] c neat = neat
neat_inside (x ∷ tail) c neat = neat_inside tail c neat.1.1.0

pub held_inside : (tail key : List ℕ) (c : Contents) → held_in key c ≡ held_in (tail ++ key) (led_by tail c)
held_inside [] key c = refl
held_inside (x ∷ tail) key c = grind (arith, held_inside tail key c)

-- one more byte that alone leads on
one_behind : (x : ℕ) (tail : List ℕ) (d : Contents)
    → (nothing, with_child x (kept_behind tail d) void) ≡ kept_behind (x ∷ tail) d
one_behind x tail d = grind (arith, child_put, tail_of_bare)

module _ (f : Held → Held) where
  -- what is done below a byte, whose node was taken out and comes back in front
  pub below_byte : (byte : ℕ) (rest : List ℕ) (h : Held) (t t' : Trie) (c d : Contents) → IsNeat t
      → value_at byte (siblings t) ≡ Some c → siblings t' ≡ without byte (siblings t)
      → ChangedAt rest f c d → ChangedAt (byte ∷ rest) f (h, t) (h, with_child byte d t')
  below_byte byte rest h t t' c d neat there is done =
      let was : c ≡ unwrap_or (value_at byte (siblings t)) bare = ap (λ o. unwrap_or o bare) (sym there) in
      let some = stands f byte rest h t (sibling byte d.0 d.1 t') neat was done in
      let none = taken_out f byte rest h t t' neat was done in
      grind (arith, nat_tests, bare_when, at_without, neat_list, neat_tree, neat_without, at_first, at_without_other)

  -- what is done behind bytes that alone lead on
  pub through : (tail key : List ℕ) (c d : Contents) → IsNeat (led_by tail c).1 → ChangedAt key f c d
      → ChangedAt (tail ++ key) f (led_by tail c) (kept_behind tail d)
  through [] key c d neat done = grind (arith, kept_here)
  through (x ∷ tail) key c d neat done =
      let one = one_behind x tail d in let behind = through tail key c d neat.1.1.0 done in
      let below = below_byte x (tail ++ key) nothing (led_by (x ∷ tail) c).1 void (led_by tail c) (kept_behind tail
      d) neat in
      grind (arith, nat_tests)

  -- the same, where something stays
  pub done_behind : (tail key : List ℕ) (c d : Contents) → IsNeat (led_by tail c).1 → ChangedAt key f c d → d ≢ bare
      → ChangedAt (tail ++ key) f (led_by tail c) (led_by tail d)
  done_behind tail key c d neat done some = grind (arith, kept_some, through tail key c d neat done)

-- the way goes on by one node
module _ (tail : List ℕ) (byte : ℕ) (h : Held) (t t' : Trie) {c : Contents} {above above' : Tree Item}
    (there : value_at byte (siblings t) ≡ Some c) (is : siblings t' ≡ without byte (siblings t))
    (on : (d : Contents) → unwound above' d ≡ unwound above (kept_behind tail (h, with_child byte d t'))) where
  pub goes_on : (rest key : List ℕ) (root : Contents)
      → IsWay above (tail ++ byte ∷ rest) key root (led_by tail (h, t)) → IsWay above' rest key root c
  goes_on rest key root way = record {
    neat = grind (arith, neat_at, neat_list, neat_inside tail (h, t) way.neat);
    held = grind (arith, held_inside tail (byte ∷ rest) (h, t), way.held);
    changed = λ f d done. grind (
      arith,
      on,
      way.changed f (kept_behind tail (h, with_child byte d t')),
      through f tail (byte ∷ rest) (h, t) (h, with_child byte d t') way.neat,
      below_byte f byte rest h t t' c d (neat_inside tail (h, t) way.neat) there is done,
    );
  }

-- no way yet
pub starts : (key : List ℕ) (root : Contents) → IsNeat root.1 → IsWay leaf key key root root
starts key root neat = record { neat = neat; held = refl; changed = λ f after done. done }

-- a way through places that keep nothing but the next one
module _ (key tail tail' rest : List ℕ) (byte : ℕ) (h : Held) (t : Trie) (above above' : Tree Item)
    (none : (h, t) ≡ bare)
    (on : (d : Contents) → unwound above' d ≡ unwound above (kept_behind tail (h, with_child byte d t))) where
  pub along_on : ((f : Held → Held) (c : Contents) → ChangedAt (byte ∷ (tail' ++ rest)) f bare c → c ≢ bare
      → ChangedAt key f bare (unwound above (led_by tail c)))
      → (f : Held → Held) (c : Contents) → ChangedAt rest f bare c → c ≢ bare
      → ChangedAt key f bare (unwound above' (led_by tail' c))
  along_on before f c done some =
      let came = before f (led_by (byte ∷ tail') c) in let tail_done = behind_tail f tail' rest done some in
      let byte_done = behind_tail f (byte ∷ tail') rest done some in grind (arith, none, on, child_put, kept_some)

-- one serial alone
pub put_alone : (kind : PatternKind) (serial : ℕ) {h h' : Held} {t t' : Trie} → (h, t) ≡ bare
    → h' ≡ with_serial kind serial h → t' ≡ t → ChangedAt [] (with_serial kind serial) bare (h', t')
put_alone kind serial {h} {h'} {t} {t'} none is same =
    grind (arith, none, is, same, changed_here (with_serial kind serial) nothing void tt)

pub ruleset neat_children = (behind_none, neat_at, neat_list)
