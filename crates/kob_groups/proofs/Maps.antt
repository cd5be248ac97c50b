-- What a map shows whose values are seen by a part of them: the same for groups and for topics.
use Rattle.kob_groups.proofs.Words.{Bool, IsEquivalence, List, None, OnErr, Result, Some, [], ap, arith, cases_Bool, cond, filter, insert_entry, is_some, lookup, lookup-map_values, map, map_filter, nat_tests, not, refl, remove_entry, removed_others, set_value, set_value_mapped, set_value_same, some_mapped, unwrap_or, ◌++◌, ◌∙◌, ◌∷◌, ◌≡◌, AreFilled, Option, Ordered, equal_names, false, is_among, is_pair, length, length-append, lookup-set_value, lookup_without, nat_list_eq_equiv, nil_from_length, none_of, one_name, same_text, subst, sym, ℕ, ◌&&◌, ◌<◌, ◌||◌, commits_in, commits_of, groups_in, has_group, length-map, name_is, offsets_in, offsets_on, option_map, stands_there, true, without_group, common_steps, Groups, committed_at, has_commits, nat_eq, place_of}
use Rattle.kob_groups.specs.declared.commits.Commits.{Commits as CommitsKept}

module _ {K X : Type 0} (same : K → K → Bool) where
  -- a write of a key that is there is an insertion
  pub written_inserted : (entries : List (K × X)) (key : K) (old x : X) → lookup (same key) entries ≡ Some old
      → set_value (same key) entries x ≡ insert_entry same entries key x
  written_inserted [] key old x found = cc
  written_inserted (entry ∷ entries) key old x found = grind (arith, nat_tests, written_inserted entries key old x)

  -- a key that is not there is put last
  pub inserted_new : (entries : List (K × X)) (key : K) (x : X) → lookup (same key) entries ≡ None
      → entries ++ (key, x) ∷ [] ≡ insert_entry same entries key x
  inserted_new [] key x none = refl
  inserted_new (entry ∷ entries) key x none = grind (arith, nat_tests, inserted_new entries key x)

-- what is found after a key was put in
pub found_inserted : {K X : Type 0} {same : K → K → Bool} → IsEquivalence same → (entries : List (K × X)) (key q : K) (x : X)
    → lookup (same q) (insert_entry same entries key x) ≡ cond (same key q) (Some x) (lookup (same q) entries)
found_inserted laws [] key q x = rw (laws.symm q key) refl
found_inserted {same = same} laws (e ∷ es) key q x =
    grind (arith, nat_tests, cases_Bool, found_inserted laws es key q x)

module _ {K X Y : Type 0} (part : X → Y) where
  abbrev pub seen : List (K × X) → List (K × Y)
  seen entries = map (λ entry. (entry.0, part entry.1)) entries

  pub seen_some : (test : K → Bool) (entries : List (K × X)) (x : X) (none : Y) → lookup test entries ≡ Some x
      → unwrap_or (lookup test (seen entries)) none ≡ part x
  seen_some test entries x none found = grind (arith, nat_tests, unwrap_or, lookup-map_values)

  pub seen_none : (test : K → Bool) (entries : List (K × X)) (none : Y) → lookup test entries ≡ None
      → unwrap_or (lookup test (seen entries)) none ≡ none
  seen_none test entries none absent = grind (arith, nat_tests, unwrap_or, lookup-map_values)

  -- whether a key is there
  pub seen_has : (test : K → Bool) (entries : List (K × X))
      → is_some (lookup test (seen entries)) ≡ is_some (lookup test entries)
  seen_has test entries = ap is_some (lookup-map_values part test entries) ∙ some_mapped part (lookup test entries)

  -- a value that is put in
  pub seen_inserted : (same : K → K → Bool) (entries : List (K × X)) (key : K) (x : X)
      → seen (insert_entry same entries key x) ≡ insert_entry same (seen entries) key (part x)
  seen_inserted same [] key x = refl
  seen_inserted same (entry ∷ entries) key x = grind (arith, nat_tests, seen_inserted same entries key x)

  -- a value that is changed
  pub seen_changed : (same : K → K → Bool) (entries : List (K × X)) (key : K) (old final : X) (none : Y)
      (change : Y → Y) → lookup (same key) entries ≡ Some old → part final ≡ change (part old)
      → seen (set_value (same key) entries final)
      ≡ insert_entry same (seen entries) key (change (unwrap_or (lookup (same key) (seen entries)) none))
  seen_changed same entries key old final none change found changed =
      grind (arith, nat_tests, written_inserted, seen_inserted, seen_some)

  -- a value that is put in for a key that is absent
  pub seen_put : (same : K → K → Bool) (entries : List (K × X)) (key : K) (final : X) (none : Y) (change : Y → Y)
      → lookup (same key) entries ≡ None → part final ≡ change none
      → seen (entries ++ (key, final) ∷ [])
      ≡ insert_entry same (seen entries) key (change (unwrap_or (lookup (same key) (seen entries)) none))
  seen_put same entries key final none change absent changed =
      let new = inserted_new same entries key final absent in
      grind (arith, nat_tests, seen_inserted, unwrap_or, lookup-map_values)

  -- a value that is written and seen as before
  pub seen_written : (test : K → Bool) (entries : List (K × X)) (old x : X) → lookup test entries ≡ Some old
      → part x ≡ part old → seen (set_value test entries x) ≡ seen entries
  seen_written test entries old x found same =
      grind (arith, nat_tests, set_value_mapped, set_value_same, lookup-map_values)

  -- a key that is taken out, of which there was no other
  pub seen_removed : (test : K → Bool) (entries : List (K × X)) → lookup test (remove_entry test entries) ≡ None
      → seen (remove_entry test entries) ≡ filter (λ entry. not (test entry.0)) (seen entries)
  seen_removed test entries gone =
      ap seen (removed_others test entries gone)
      ∙ map_filter (λ (entry : K × X). (entry.0, part entry.1)) (λ (entry : K × Y). not (test entry.0)) entries

-- what holds after any error
pub on_err : {T E P : Type 0} (r : Result T E) → P → OnErr r P
on_err r p = grind (arith, nat_tests)

-- What the lists of names hold after a change.

module _ {X : Type 0} where
  -- at a name the entry is another one, or none
  abbrev pub ChangesAt : List ℕ → Option X → List (List ℕ × X) → List (List ℕ × X) → Type 0
  ChangesAt name after old new =
      (q : List ℕ) → lookup (same_text q) new ≡ cond (same_text name q) after (lookup (same_text q) old)

  pub changes_written : (name : List ℕ) (old x : X) (es : List (List ℕ × X)) → lookup (same_text name) es ≡ Some old
      → ChangesAt name (Some x) es (set_value (same_text name) es x)
  changes_written name old x es found q =
      lookup-set_value nat_list_eq_equiv (same_text name) (one_name name) q x es (ap is_some found)

  pub changes_pushed : (name : List ℕ) (x : X) (es : List (List ℕ × X)) → lookup (same_text name) es ≡ None
      → ChangesAt name (Some x) es (es ++ (name, x) ∷ [])
  changes_pushed name x es none q =
      ap (lookup (same_text q)) (inserted_new same_text es name x none) ∙ found_inserted nat_list_eq_equiv es name q x

  changes_removed : (name : List ℕ) (es : List (List ℕ × X))
      → lookup (same_text name) (remove_entry (same_text name) es) ≡ None
      → ChangesAt name None es (remove_entry (same_text name) es)
  changes_removed name es gone q =
      ap (lookup (same_text q)) (removed_others (same_text name) es gone) ∙ lookup_without name q es

  pub changes_to : (name : List ℕ) (x : X) (es new : List (List ℕ × X)) → new ≡ es ++ (name, x) ∷ []
      → lookup (same_text name) es ≡ None → ChangesAt name (Some x) es new
  changes_to name x es new is none = subst (ChangesAt name (Some x) es) (sym is) (changes_pushed name x es none)

  pub changes_taken : (name : List ℕ) (es left : List (List ℕ × X)) → left ≡ remove_entry (same_text name) es
      → lookup (same_text name) left ≡ None → ChangesAt name None es left
  changes_taken name es left is gone = grind (arith, nat_tests, changes_removed)

  pub changes_twice : (name : List ℕ) (first second : Option X) (es fs gs : List (List ℕ × X))
      → ChangesAt name first es fs → ChangesAt name second fs gs → ChangesAt name second es gs
  changes_twice name first second es fs gs one two q = grind (arith, nat_tests)

pub among_less : {Y : Type 0} (group : List ℕ) (old new : List (List ℕ × Y)) → ChangesAt group None old new
    → (g : List ℕ) → is_some (lookup (same_text g) new) ≡ (is_some (lookup (same_text g) old) && not (same_text group g))
among_less {Y} group old new changes g = grind (arith, nat_tests, is_some)

abbrev pub NameLists : Type 0 → Type 0
NameLists V = List (List ℕ × Ordered V)

module _ {V : Type 0} where
  pub filled_changed : (topic : List ℕ) (names : Ordered V) (old new : NameLists V) → ChangesAt topic (Some names) old new
      → 0 < length names.entries → AreFilled old → AreFilled new
  filled_changed topic names old new changes some filled t found at = grind (arith, nat_tests)

  pub filled_without : (topic : List ℕ) (old new : NameLists V) → ChangesAt topic None old new
      → AreFilled old → AreFilled new
  filled_without topic old new changes filled t found at = grind (arith, nat_tests)

  -- one more group on a topic
  pub listed_put : (topic group : List ℕ) (names : Ordered V) (old new : NameLists V) → ChangesAt topic (Some names) old new
      → ((g : List ℕ) → is_some (lookup (same_text g) names.entries)
      ≡ (same_text group g || is_among g (lookup (same_text topic) old)))
      → (t g : List ℕ) → is_among g (lookup (same_text t) new)
      ≡ (is_pair topic group t g || is_among g (lookup (same_text t) old))
  listed_put topic group names old new changes more t g = grind (arith, nat_tests, equal_names topic t)

  -- one group less on a topic
  pub listed_left : (topic group : List ℕ) (after : Option (Ordered V)) (old new : NameLists V)
      → ChangesAt topic after old new
      → ((g : List ℕ) → is_among g after ≡ (is_among g (lookup (same_text topic) old) && not (same_text group g)))
      → (t g : List ℕ) → is_among g (lookup (same_text t) new)
      ≡ (is_among g (lookup (same_text t) old) && not (is_pair topic group t g))
  listed_left topic group after old new changes less t g = grind (arith, nat_tests, equal_names topic t)

  -- a list written with the same names
  module _ (topic : List ℕ) (was names : Ordered V) (lists : NameLists V)
      (found : lookup (same_text topic) lists ≡ Some was) (same : names.entries ≡ was.entries)
    where
      pub alike_written : (t g : List ℕ) → is_among g (lookup (same_text t) (set_value (same_text topic) lists names))
          ≡ is_among g (lookup (same_text t) lists)
      alike_written t g =
          grind (arith, nat_tests, changes_written topic was names lists found t, is_some, equal_names topic t)

      pub filled_written : AreFilled lists → AreFilled (set_value (same_text topic) lists names)
      filled_written filled = grind (arith, nat_tests, filled_changed, changes_written)

  -- no names on one topic
  pub none_left : (topic : List ℕ) (old new : NameLists V) → ChangesAt topic None old new
      → (t g : List ℕ) → is_among g (lookup (same_text t) new)
      ≡ (not (same_text topic t) && is_among g (lookup (same_text t) old))
  none_left topic old new changes t g = grind (arith, nat_tests)

-- a name put last among those of a list, which had not got it
module _ {V : Type 0} (group : List ℕ) (value : V) (old new : Ordered V)
    (pushed : new.entries ≡ old.entries ++ (group, value) ∷ [])
  where
    pub one_more_filled : 0 < length new.entries
    one_more_filled = grind (arith, nat_tests, length-append)

    pub pushed_more : is_some (lookup (same_text group) old.entries) ≡ false
        → (g : List ℕ) → is_some (lookup (same_text g) new.entries)
        ≡ (same_text group g || is_some (lookup (same_text g) old.entries))
    pushed_more absent g = grind (arith, nat_tests, changes_pushed, none_of, is_some)

-- a name taken out of those of a list
module _ {V : Type 0} (group : List ℕ) (old new : Ordered V)
    (left : new.entries ≡ remove_entry (same_text group) old.entries)
    (gone : lookup (same_text group) new.entries ≡ None)
  where
    pub taken_less : (g : List ℕ) → is_some (lookup (same_text g) new.entries)
        ≡ (is_some (lookup (same_text g) old.entries) && not (same_text group g))
    taken_less = among_less group old.entries new.entries (changes_taken group old.entries new.entries left gone)

    pub none_is_less : length new.entries ≡ 0
        → (g : List ℕ) → false ≡ (is_some (lookup (same_text g) old.entries) && not (same_text group g))
    none_is_less none g =
        ap (λ es. is_some (lookup (same_text g) es)) (sym (nil_from_length new.entries none)) ∙ taken_less g

-- What is found in what the maps of the groups show.

pub has_found : (name : List ℕ) (entries : List (List ℕ × CommitsKept))
    → has_group name (groups_in entries) ≡ is_some (lookup (same_text name) entries)
has_found name entries = seen_has commits_in (same_text name) entries

pub count_found : (entries : List (List ℕ × CommitsKept)) → length (groups_in entries) ≡ length entries
count_found entries = length-map entries (λ group. (group.0, commits_in group.1))

pub commits_found : (name : List ℕ) (entries : List (List ℕ × CommitsKept))
    → commits_of name (groups_in entries) ≡ unwrap_or (option_map commits_in (lookup (same_text name) entries)) []
commits_found name entries = ap (λ found. unwrap_or found []) (lookup-map_values commits_in (same_text name) entries)

pub offsets_found : (topic : List ℕ) (commits : CommitsKept)
    → offsets_on topic (commits_in commits)
    ≡ unwrap_or (option_map offsets_in (lookup (same_text topic) commits.by_topic.entries)) []
offsets_found topic commits =
    ap (λ found. unwrap_or found []) (lookup-map_values offsets_in (same_text topic) commits.by_topic.entries)

pub topic_found : (topic : List ℕ) (commits : CommitsKept)
    → is_some (lookup (same_text topic) (commits_in commits))
    ≡ is_some (lookup (same_text topic) commits.by_topic.entries)
topic_found topic commits = seen_has offsets_in (same_text topic) commits.by_topic.entries

-- where a group has no commits on the topic
pub uncommitted : (group topic : List ℕ) (partition : ℕ) (groups : Groups)
    → has_commits topic (commits_of group groups) ≡ false → committed_at (place_of group topic partition) groups ≡ None
uncommitted group topic partition groups none =
    ap (λ found. lookup (nat_eq partition) (unwrap_or found []))
    (none_of (lookup (same_text topic) (commits_of group groups)) none)

-- a value written that is seen as before
pub groups_as_before : (name : List ℕ) (entries : List (List ℕ × CommitsKept)) (commits : CommitsKept)
    → option_map commits_in (lookup (same_text name) entries) ≡ Some (commits_in commits)
    → groups_in (set_value (same_text name) entries commits) ≡ groups_in entries
groups_as_before name entries commits same =
    set_value_mapped (same_text name) commits_in entries commits
    ∙ set_value_same (same_text name) (groups_in entries) (commits_in commits)
    (lookup-map_values commits_in (same_text name) entries ∙ same)

-- a value written is found
pub written_found : {X : Type 0} (name : List ℕ) (entries : List (List ℕ × X)) (x : X)
    → is_some (lookup (same_text name) entries) ≡ true
    → lookup (same_text name) (set_value (same_text name) entries x) ≡ Some x
written_found name entries x there =
    lookup-set_value nat_list_eq_equiv (same_text name) (one_name name) name x entries there
    ∙ ap (λ b. cond b (Some x) (lookup (same_text name) entries)) (nat_list_eq_equiv.refl name)

-- a name taken out, of which there was no other
pub groups_removed : (name : List ℕ) (entries : List (List ℕ × CommitsKept))
    → lookup (same_text name) (remove_entry (same_text name) entries) ≡ None
    → groups_in (remove_entry (same_text name) entries) ≡ without_group name (groups_in entries)
groups_removed name entries gone = seen_removed commits_in (same_text name) entries gone

-- what a commit is reserved by
pub ruleset reserving = (commits_found, offsets_found, topic_found, groups_as_before, written_found, name_is, stands_there)

-- what a place in a list is reserved by
pub ruleset reserving_name = (common_steps, alike_written, written_found, is_some)
