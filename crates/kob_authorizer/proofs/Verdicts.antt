-- Whether a binding in force matches a resource, by the test and by what it means.
use Rattle.kob_names.specs.declared.kinds.Operation.TheVariants.{All}
use Rattle.kob_authorizer.specs.Decide.{has_match}
use Rattle.kob_authorizer.proofs.Words.{ap, ◌∙◌, question_of, ArePatternsOf, Binding, Contains, Decides, List, Matches, NoneMatches, Question, SomeMatches, arith, false, is_match, list_any, nat_tests, resource_decides, true, ℕ, ◌≡◌, Allow, Bool, Contains-from_any, Contents, Decides-and, Decides-like, Deny, IsEarliest, IsRising, IsTrue, IsTrueVerdict, None, NoneHits, Option, Permission, Some, both_ways, bytes_eq-Decides, covers, decide, decide_by_bindings, first_serial, hits, is_granted, is_hit, is_super, list_any-from_Contains, matches, nat_list_eq_equiv, not, permission_decides, reaches, refl, unless_open, verdict_of, ◌&&◌, ◌↔◌, ◌≤◌, AreRising, Contains-append_left, Contains-append_right, Decides-eqb, Held, Index, Indexes, IsIndex, Literal, Place, PrefixMap, Prefixed, ResourceKind, along_has_literal, along_has_prefixed, and_from, and_parts, behind, codes, drop, entries_on, filter, held, inl, inr, is_equal, is_place, key_place, keys_on, kind_in_tree, least_passing, length, matches_by, matching_serials, nat_eq, or_cases, pattern_place, same_binding_decides, same_resource, same_text, serial_of, serials_along, serials_for, serials_from, serials_of, starts_is, starts_with, subst, sym, tree_of, ◌++◌, ◌||◌, Verdict, common_steps, Contains-append_cases, [], is_unmatched, ne_eqb, same_kind, walk_of, walk_only, ◌==◌, ◌∷◌}
use Rattle.kob_authorizer.proofs.Entries.{any_passes, each, of_each, passing, first_is, least_is, none_is, first_serial_found, among_mapped, kept_by_filter, at_head, given_by, was_kept}
use Rattle.kob_authorizer.specs.Decide.{Hits}
use Rattle.kob_authorizer.specs.declared.patterns.Patterns.{Patterns}
use Rattle.kob_names.specs.declared.kinds.PatternKind.{PatternKind}
use Rattle.kob_authorizer.proofs.LeastHits.{LeadToAll, least_is_first}
use Rattle.kob_authorizer.specs.Index.{binding_key}
use Rattle.kob_prefix_tree.specs.declared.kind.PatternKind as of_tree

-- the test of a match says whether the binding matches
pub is_match_decides : (question : Question) (entry : ℕ × Binding)
    → Decides (is_match question entry) (Matches question entry)
is_match_decides question entry = grind (arith, nat_tests, resource_decides)

module _ (question : Question) (entries : List (ℕ × Binding)) where
  -- where the test finds one, a binding matches
  pub some_matches : list_any (is_match question) entries ≡ true → SomeMatches question entries
  some_matches found =
      let (entry, (there, passes)) = passing (is_match question) entries found in grind (arith, nat_tests)

  -- and where it finds none, none does
  pub none_matches : list_any (is_match question) entries ≡ false → NoneMatches question entries
  none_matches none = of_each (λ entry. ¬ Matches question entry) entries (λ entry there both.
      grind (arith, nat_tests, any_passes (is_match question) entries entry, is_match_decides question entry))

  -- not both
  pub none_among : (entry : ℕ × Binding) → NoneMatches question entries → Contains entries entry
      → ¬ Matches question entry
  none_among entry none there = each (λ entry. ¬ Matches question entry) entries entry none there

-- What a search among the bindings in force finds.

itself_decides : (b : Bool) → Decides b (IsTrue b)
itself_decides b = ((λ h. h), (λ h. h))

-- the test of a hit says whether the binding hits
pub is_hit_decides : (wanted : Permission) (question : Question) (entry : ℕ × Binding)
    → Decides (is_hit wanted question entry) (Hits wanted question entry)
is_hit_decides wanted question entry =
    Decides-like (is_hit wanted question entry)
    (λ parts. record {
      permission = parts.0;
      resource = parts.1.0;
      name = parts.1.1.0;
      who = parts.1.1.1.0;
      operation = parts.1.1.1.1;
    })
    (λ hit. (hit.permission, (hit.resource, (hit.name, (hit.who, hit.operation)))))
    (Decides-and _ _ (permission_decides entry.1.permission wanted)
    (Decides-and _ _ (resource_decides entry.1.resource question.resource)
    (Decides-and _ _ (itself_decides (matches entry.1.pattern question.name))
    (Decides-and _ _ (itself_decides (covers entry.1 question.principal question.host))
    (itself_decides (reaches wanted entry.1.operation question.operation))))))

-- where no serial is found, no binding hits
none_hits : (wanted : Permission) (question : Question) (entries : List (ℕ × Binding))
    → first_serial (hits entries wanted question) ≡ None → NoneHits wanted question entries
none_hits wanted question entries none =
    of_each (λ entry. ¬ Hits wanted question entry) entries (λ entry there hit.
    none_is (is_hit wanted question) entries none entry there ((is_hit_decides wanted question entry).1 hit))

-- the serial that is found is the earliest
earliest_hit : (wanted : Permission) (question : Question) (entries : List (ℕ × Binding)) (low high serial : ℕ)
    → IsRising low entries high → first_serial (hits entries wanted question) ≡ Some serial
    → IsEarliest wanted question entries serial
earliest_hit wanted question entries low high serial rising found =
    let it = first_is (is_hit wanted question) entries serial found in
    let least = of_each (λ other. Hits wanted question other → serial ≤ other.0) entries (λ other there hit.
    least_is (is_hit wanted question) entries serial found low high rising other there
    ((is_hit_decides wanted question other).1 hit)) in grind (arith, nat_tests, is_hit_decides)

-- the test finds a super user exactly where there is one
pub found_super : (supers : List (List ℕ)) (principal : List ℕ) → is_super supers principal ≡ true
    → Contains supers principal
found_super supers principal found =
    Contains-from_any (λ x y same. (bytes_eq-Decides x y).0 same) principal supers found

no_super : (supers : List (List ℕ)) (principal : List ℕ) → is_super supers principal ≡ false
    → Contains supers principal → ⊥
no_super supers principal none there = let found = list_any-from_Contains nat_list_eq_equiv principal supers there in cc

true_by : (contents : Contents) (question : Question) (b : Bool) (deny allow : Option ℕ) (on found : Bool)
    → IsRising 1 contents.entries contents.next → is_super contents.supers question.principal ≡ b
    → first_serial (hits contents.entries Deny question) ≡ deny
    → first_serial (hits contents.entries Allow question) ≡ allow
    → contents.everyone ≡ on → list_any (is_match question) contents.entries ≡ found
    → IsTrueVerdict contents question (unless_open (on && not found) (verdict_of b deny allow))
true_by contents question b deny allow on found rising s d a o f =
    grind (arith, nat_tests, some_matches, both_ways, none_matches, found_super, no_super, earliest_hit, none_hits)

-- the access decision says what is so
pub true_verdict : (contents : Contents) (question : Question) → IsRising 1 contents.entries contents.next
    → IsTrueVerdict contents question (decide contents question)
true_verdict contents question rising = true_by contents question _ _ _ _ _ rising refl refl refl refl refl

-- with the switch off super users and bindings alone decide
pub by_bindings : (contents : Contents) (question : Question) → contents.everyone ≡ false
    → decide contents question ≡ decide_by_bindings contents.entries contents.supers question
by_bindings contents question off = grind (arith, nat_tests)

-- where no binding hits, no serial is found
no_serial : (wanted : Permission) (question : Question) (entries : List (ℕ × Binding))
    → NoneHits wanted question entries → first_serial (hits entries wanted question) ≡ None
no_serial wanted question entries none =
    let first = first_is (is_hit wanted question) entries in
    grind (arith, nat_tests, each (λ e. ¬ Hits wanted question e) entries, is_hit_decides)

open_where : (question : Question) (entries : List (ℕ × Binding)) (super : Bool) (deny allow : Option ℕ)
    (on found : Bool) → super ≡ false → deny ≡ None → allow ≡ None → on ≡ true
    → list_any (is_match question) entries ≡ found
    → IsTrue (is_granted (unless_open (on && not found) (verdict_of super deny allow))) ↔ NoneMatches question entries
open_where question entries super deny allow on found s d a o f =
    let some = some_matches question entries in let none = none_matches question entries in
    grind (arith, nat_tests, none_among)

-- with the switch on, one of whom no binding speaks is granted exactly what none matches
pub granted_unmatched : (contents : Contents) (question : Question) → IsTrue contents.everyone
    → ¬ Contains contents.supers question.principal → NoneHits Deny question contents.entries
    → NoneHits Allow question contents.entries
    → IsTrue (is_granted (decide contents question)) ↔ NoneMatches question contents.entries
granted_unmatched contents question on stranger deny allow =
    grind (arith, nat_tests, open_where, no_serial, found_super)

-- The serials that the trees give lead to every binding that is sought.

stands_itself : (place : Place) → is_place place.kind place.key place ≡ true
stands_itself place = grind (arith, nat_tests, and_from, bytes_eq-Decides)

-- the serial of an entry is at its place
pub at_its_place : (place : Binding → Place) (m : PrefixMap) (entries : List (ℕ × Binding)) (entry : ℕ × Binding)
    → IsIndex place m entries → Contains entries entry
    → Contains (serials_of (place entry.1).kind (held m (place entry.1).key)) entry.0
at_its_place place m entries entry is there =
    let kind : of_tree.PatternKind = (place entry.1).kind in
    let key : List ℕ = (place entry.1).key in
    let test : ℕ × Binding → Bool = λ e. is_place kind key (place e.1) in
    subst (λ xs. Contains xs entry.0) (sym (is kind key))
    (among_mapped (λ (e : ℕ × Binding). e.0) (filter test entries) entry
    (kept_by_filter test entries entry there (stands_itself (place entry.1))))

-- the serials at a pattern that matches a name are looked up for it
looked_up_by : (held_at : List ℕ → Held) (kind : PatternKind) (key name : List ℕ) (serial : ℕ)
    → matches_by kind key name ≡ true → Contains (serials_of (kind_in_tree kind) (held_at key)) serial
    → Contains (matching_serials held_at name) serial
looked_up_by held_at Literal key name serial matched has =
    let equal = bytes_eq-Decides key name in let star = bytes_eq-Decides key (codes "*") in
    let left = Contains-append_left (serials_along held_at name) (held_at (codes "*")).0 serial in
    let right = Contains-append_right (serials_along held_at name) (held_at (codes "*")).0 serial in
    let along = along_has_literal held_at serial name in
    elim (or_cases (same_text key name) (same_text key (codes "*")) matched) [
      | inl same ↦ grind (arith, nat_tests)
      | inr same ↦ grind (arith, nat_tests)
    ]
looked_up_by held_at Prefixed key name serial matched has =
    let whole = (starts_is Decides-eqb name key (starts_with nat_eq name key) refl).0 matched in
    let left = Contains-append_left (serials_along held_at name) (held_at (codes "*")).0 serial in
    let along = along_has_prefixed held_at serial key (drop (length key) name) in grind (arith, nat_tests)

-- what is given for a text is among what is given for two, of which it is one
among_two : (given : List ℕ → List ℕ) (text one two : List ℕ) (serial : ℕ)
    → (same_text text one || same_text text two) ≡ true → Contains (given text) serial
    → Contains (given one ++ given two) serial
among_two given text one two serial is_one has =
    grind (arith, nat_tests, bytes_eq-Decides, Contains-append_left, Contains-append_right)

-- every binding that matches is looked up
pub matched_up : (patterns : Patterns) (entries : List (ℕ × Binding)) → ArePatternsOf patterns entries
    → (resource : ResourceKind) (name : List ℕ) (entry : ℕ × Binding) → Contains entries entry
    → entry.1.resource ≡ resource → IsTrue (matches entry.1.pattern name)
    → Contains (matching_serials (held (tree_of patterns resource)) name) entry.0
matched_up patterns entries indexed resource name entry there of_kind matched =
    let among = kept_by_filter (λ (e : ℕ × Binding). same_resource e.1.resource resource) entries entry there
    ((resource_decides entry.1.resource resource).1 of_kind) in
    let at = at_its_place pattern_place (tree_of patterns resource) (entries_on resource entries) entry
    (indexed resource) among in
    looked_up_by (held (tree_of patterns resource)) entry.1.pattern.kind entry.1.pattern.name name entry.0 matched at

module _ (index : Index) (entries : List (ℕ × Binding)) (indexed : Indexes index entries) where
  -- every hit is looked up among the keys of who asks and of `User:*`
  hits_looked_up : (permission : Permission) (question : Question)
      → LeadToAll (is_hit permission question) entries (serials_for index.keys question)
  unfolding binding_key
  hits_looked_up permission question entry there is =
      let hit : Hits permission question entry = (is_hit_decides permission question entry).0 is in
      let binding : Binding = entry.1 in
      let covered =
      and_parts (same_text binding.principal question.principal || same_text binding.principal (codes "User:*"))
      (same_text binding.host question.host || same_text binding.host (codes "*")) hit.who in
      let on : List ℕ → Held = keys_on question.resource (held index.keys) in
      let of_principal : List ℕ → List ℕ → Held = λ principal. behind principal on in
      among_two (λ principal. serials_from (of_principal principal) question) binding.principal question.principal
      (codes "User:*") entry.0 covered.0
      (among_two (λ host. matching_serials (behind host (of_principal binding.principal)) question.name) binding.host
      question.host (codes "*") entry.0 covered.1
      (looked_up_by (behind binding.host (of_principal binding.principal)) binding.pattern.kind binding.pattern.name
      question.name entry.0 hit.name
      (subst (λ resource. Contains (serials_of (kind_in_tree binding.pattern.kind)
      (behind binding.host (behind binding.principal (keys_on resource (held index.keys))) binding.pattern.name)) entry.0)
      hit.resource (at_its_place key_place index.keys entries entry indexed.keys there))))

-- so the lesser of the least hits of who asks and of `User:*` is the first hit in force
pub least_hit_is_first : (index : Index) (entries : List (ℕ × Binding)) (permission : Permission) (question : Question)
    → AreRising entries → Indexes index entries
    → least_passing (is_hit permission question) entries (serials_for index.keys question)
    ≡ first_serial (hits entries permission question)
least_hit_is_first index entries permission question rising indexed =
    least_is_first (is_hit permission question) entries (serials_for index.keys question) rising
    (hits_looked_up index entries indexed permission question)

-- every entry with an equal binding is looked up by the key
equals_looked_up : (m : PrefixMap) (entries : List (ℕ × Binding)) (binding : Binding) → IsIndex key_place m entries
    → LeadToAll (is_equal binding) entries (serials_of (key_place binding).kind (held m (key_place binding).key))
equals_looked_up m entries binding indexed entry there is =
    let same = same_binding_decides entry.1 binding in
    let at = at_its_place key_place m entries entry indexed there in grind (arith, nat_tests)

-- so the least serial of the equal ones that were looked up is that of the first equal one
pub least_equal_is_first : (m : PrefixMap) (entries : List (ℕ × Binding)) (binding : Binding) → AreRising entries
    → IsIndex key_place m entries → least_passing (is_equal binding) entries
    (serials_of (key_place binding).kind (held m (key_place binding).key)) ≡ serial_of entries binding
least_equal_is_first m entries binding rising indexed =
    let serials = serials_of (key_place binding).kind (held m (key_place binding).key) in
    let least = least_is_first (is_equal binding) entries serials rising (equals_looked_up m entries binding indexed)
    in
    let found = first_serial_found (is_equal binding) entries in grind (arith, nat_tests)

-- A verdict that is true is the only one.

module _ {question : Question} {entries : List (ℕ × Binding)} where
  lowest : (permission : Permission) (serial other : ℕ) → IsEarliest permission question entries serial
      → IsEarliest permission question entries other → serial ≤ other
  lowest permission serial other one two =
      grind (arith, nat_tests, each (λ entry. Hits permission question entry → serial ≤ entry.0) entries two.entry)

  same_serial : (permission : Permission) (serial other : ℕ) → IsEarliest permission question entries serial
      → IsEarliest permission question entries other → serial ≡ other
  same_serial permission serial other one two =
      omega (arith, lowest permission serial other one two, lowest permission other serial two one)

  none_or_one : (permission : Permission) (serial : ℕ) → NoneHits permission question entries
      → IsEarliest permission question entries serial → ⊥
  none_or_one permission serial none one =
      each (λ entry. ¬ Hits permission question entry) entries one.entry none one.in_force one.hits

  unmatched : (permission : Permission) (serial : ℕ) → NoneMatches question entries
      → IsEarliest permission question entries serial → ⊥
  unmatched permission serial none one = grind (arith, nat_tests, none_among)

pub only_one : (contents : Contents) (question : Question) (one other : Verdict) → IsTrueVerdict contents question one
    → IsTrueVerdict contents question other → one ≡ other
only_one contents question x2 x3 a b = grind (arith, common_steps, same_serial, none_or_one, unmatched, none_among)

-- Where the trees give no serial for a name, no binding matches it, and the other way round.

kind_is : (one two : PatternKind) → same_kind (kind_in_tree one) (kind_in_tree two) ≡ true → one ≡ two
kind_is x0 x1 same = grind (arith, nat_tests)

module _ (index : Index) (entries : List (ℕ × Binding)) (indexed : Indexes index entries) (question : Question) where
  abbrev tree : PrefixMap
  tree = tree_of index.patterns question.resource

  -- a serial at a pattern that matches the name is of a binding that does
  of_match : (kind : PatternKind) (key : List ℕ) (serial : ℕ) → matches_by kind key question.name ≡ true
      → Contains (serials_of (kind_in_tree kind) (held tree key)) serial → SomeMatches question entries
  of_match kind key serial matched has =
      let test : ℕ × Binding → Bool = λ e. is_place (kind_in_tree kind) key (pattern_place e.1) in
      let given = given_by (λ (e : ℕ × Binding). e.0) (filter test (entries_on question.resource entries)) serial
      (subst (λ xs. Contains xs serial) (indexed.patterns question.resource (kind_in_tree kind) key) has) in
      let kept = was_kept test (entries_on question.resource entries) given.0 given.1.0 in
      let in_force =
      was_kept (λ (e : ℕ × Binding). same_resource e.1.resource question.resource) entries given.0 kept.0 in
      grind (arith, nat_tests, resource_decides, and_parts, kind_is, bytes_eq-Decides)

  literal_itself : matches_by Literal question.name question.name ≡ true
  literal_itself = grind (arith, nat_tests, bytes_eq-Decides)

  star : (same : Bool) → (same || same_text (codes "*") (codes "*")) ≡ true
  star x0 = grind (arith, nat_tests, bytes_eq-Decides)

  -- each serial that is given for the name is of a binding that matches it
  of_given : (serial : ℕ) → Contains (matching_serials (held tree) question.name) serial → SomeMatches question entries
  of_given serial has =
      elim (Contains-append_cases (walk_of tree question.name) (held tree (codes "*")).0 serial has) as
      (λ _. SomeMatches question entries) [
        | inl along ↦
            elim (walk_only tree serial question.name along) as (λ _. SomeMatches question entries) [
              | inl beginning ↦
                  of_match Prefixed beginning.0 serial
                  ((starts_is Decides-eqb question.name beginning.0
                  (starts_with nat_eq question.name beginning.0) refl).1 beginning.1.0 (sym beginning.1.1.0))
                  beginning.1.1.1
              | inr literal ↦ of_match Literal question.name serial literal_itself literal
            ]
        | inr all ↦
            of_match Literal (codes "*") serial (star (same_text (codes "*") question.name)) all
      ]

  -- and each binding that matches gives its serial
  given_for : (some : SomeMatches question entries)
      → Contains (matching_serials (held tree) question.name) some.entry.0
  given_for some =
      matched_up index.patterns entries indexed.patterns question.resource question.name some.entry some.in_force some.matches.resource
      some.matches.name

  none_by : (serials : List ℕ) (found : Bool) → matching_serials (held tree) question.name ≡ serials
      → list_any (is_match question) entries ≡ found → (length serials == 0) ≡ not found
  none_by [] false is found = refl
  none_by [] true is found =
      grind (arith, nat_tests, some_matches question entries found, given_for (some_matches question entries found))
  none_by (serial ∷ rest) true is found = grind (arith, nat_tests, ne_eqb)
  none_by (serial ∷ rest) false is found =
      let some = of_given serial (subst (λ xs. Contains xs serial) (sym is) (at_head serial rest)) in
      absurd (none_among question entries some.entry (none_matches question entries found) some.in_force some.matches)

  pub none_given : (length (matching_serials (held tree) question.name) == 0) ≡ is_unmatched entries question
  none_given = grind (arith, nat_tests, none_by)

not_twice : (b : Bool) → not (not b) ≡ b
not_twice true = refl
not_twice false = refl

-- a serial is given for the name if the pattern of a binding takes it
pub some_given : (index : Index) (entries : List (ℕ × Binding)) → Indexes index entries
    → (resource : ResourceKind) (name : List ℕ)
    → not (length (matching_serials (held (tree_of index.patterns resource)) name) == 0)
    ≡ has_match entries resource name
some_given index entries indexed resource name =
    let question = question_of [] [] All resource name in
    ap not (none_given index entries indexed question) ∙ not_twice (list_any (is_match question) entries)
