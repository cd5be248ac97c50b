-- The bindings on a name, as entries change them, and what they decide.
use Rattle.std.proofs.Common.{Bool, IsTrue, List, None, Option, Some, [], ap, append-nil, arith, codes, cond, false, length, not, refl, sym, true, true≢false, ℕ, ◌&&◌, ◌++◌, ◌==◌, ◌||◌, ◌∙◌, ◌∷◌, ◌↔◌, ◌≡◌, ◌⊎◌, inl, inr}
use Rattle.std.proofs.lemmas.Bool.{cases_Bool}
use Rattle.std.proofs.lemmas.Bool.Decides.{nat_tests}
use Rattle.kob_broker.specs.Justice.{access_after, changed_access}
use Rattle.kob_rights.specs.Requests.{write_of}
use Rattle.kob_rights.specs.declared.reply.Reply.{Reply}
use Rattle.kob_rights.specs.declared.reply.Reply.TheVariants.{Denied, Done, Refused}
use Rattle.kob_rights.specs.declared.request.Request.{Request}
use Rattle.std.proofs.lemmas.Slice.Eq.{bytes_eq-Decides}
use Rattle.std.specs.List.{AllByRecursion, filter, fold, list_any}
use Rattle.kob_authorizer.proofs.Entries.{serial_in_force}
use Rattle.kob_authorizer.specs.Creation.{Added, add_one, addition, bindings_of, is_among, is_in_force, serial_of, with_binding}
use Rattle.kob_authorizer.specs.Decide.{Contents, is_hit, question_of}
use Rattle.kob_authorizer.specs.Deletion.{bindings_left}
use Rattle.kob_names.proofs.SameBindings.{same_binding_decides}
use Rattle.kob_names.specs.Binding.{Binding, matches, reaches}
use Rattle.kob_names.specs.Filter.{takes}
use Rattle.kob_names.specs.Same.{same_permission, same_resource, same_text}
use Rattle.kob_names.specs.declared.filter.BindingFilter.{BindingFilter}
use Rattle.kob_names.specs.declared.kinds.Operation.{Operation}
use Rattle.kob_names.specs.declared.kinds.Permission.TheVariants.{Allow}
use Rattle.kob_names.specs.declared.kinds.ResourceKind.{ResourceKind}
use Rattle.kob_delivery.specs.View.{IsReservedFor}
use Rattle.kob_delivery.specs.Reserved.{allows_others, after_done, after_reply, bindings_on, is_on, is_open_to_others, with_created, without_deleted}

-- ---- what a creation and a deletion do to the bindings on a name

two_filters : (p t : Binding → Bool) (entries : List (ℕ × Binding))
    → filter p (bindings_of (filter (λ (entry : ℕ × Binding). not (t entry.1)) entries))
    ≡ filter (λ (binding : Binding). not (t binding)) (filter p (bindings_of entries))
two_filters p t [] = refl
two_filters p t (x ∷ xs) = grind (arith, nat_tests, two_filters p t xs)

module _ (resource : ResourceKind) (name : List ℕ) where
  -- the bindings of some entries that are on the name
  abbrev on : List (ℕ × Binding) → List Binding
  on entries = filter (is_on resource name) (bindings_of entries)

  -- a binding on the name is in force exactly where it is among those on the name
  among : (entries : List (ℕ × Binding)) (b : Binding) → is_on resource name b ≡ true
      → is_among (on entries) b ≡ is_in_force entries b
  among [] b here = refl
  among (x ∷ xs) b here = grind (arith, nat_tests, among xs b here, same_binding_decides x.1 b)

  on_push : (entries : List (ℕ × Binding)) (n : ℕ) (b : Binding)
      → on (entries ++ (n, b) ∷ []) ≡ on entries ++ cond (is_on resource name b) (b ∷ []) []
  on_push [] n b = grind (arith, nat_tests)
  on_push (x ∷ xs) n b = grind (arith, nat_tests, on_push xs n b)

  created_by : (serial : Option ℕ) (a : Added) (b : Binding) → serial ≡ serial_of a.entries b
      → on (with_binding serial a b).entries ≡ with_created resource name (on a.entries) b
  created_by None a b is = grind (arith, nat_tests, on_push a.entries a.next b, among a.entries b, serial_in_force a.entries b, append-nil (on a.entries))
  created_by (Some serial) a b is = grind (arith, nat_tests, among a.entries b, serial_in_force a.entries b)

  created_in_turn : (bindings : List Binding) (a : Added)
      → on (fold add_one a bindings).entries ≡ fold (with_created resource name) (on a.entries) bindings
  created_in_turn [] a = refl
  created_in_turn (b ∷ bs) a =
      created_in_turn bs (add_one a b)
      ∙ ap (λ xs. fold (with_created resource name) xs bs) (created_by (serial_of a.entries b) a b refl)

  pub on_created : (entries : List (ℕ × Binding)) (next : ℕ) (bindings : List Binding)
      → on (addition entries next bindings).entries ≡ fold (with_created resource name) (on entries) bindings
  on_created entries next bindings =
      created_in_turn bindings (record { entries = entries; next = next; serials = [] })

  pub on_deleted : (wanted : BindingFilter) (entries : List (ℕ × Binding))
      → on (bindings_left wanted entries) ≡ without_deleted wanted (on entries)
  on_deleted wanted entries = two_filters (is_on resource name) (takes wanted) entries

  -- what a request that was done does
  done_to : (request : Request) (access : Contents)
      → bindings_on resource name (changed_access (write_of request) access)
      ≡ after_done resource name request (bindings_on resource name access)
  done_to request access = grind (arith, nat_tests, on_created, on_deleted)

  pub replied_to : (reply : Reply) (request : Request) (access : Contents)
      → bindings_on resource name (access_after reply request access)
      ≡ after_reply resource name reply request (bindings_on resource name access)
  replied_to (Done body) request access = done_to request access
  replied_to (Denied code verdicts) request access = refl
  replied_to (Refused code reason) request access = refl

-- ---- what the bindings on a name decide

-- on truth values alone

others_by : (r m p x s o : Bool) → ((r && m) && (p && (x && (s || not o)))) ≡ true → (s ≡ true) ⊎ (o ≡ false)
others_by r m p x s o is = grind (arith, nat_tests)

own_by : (r m p x s o a h : Bool) → ((r && m) && (p && (x && (s || not o)))) ≡ false
    → (p && (r && (m && (((a || s) && h) && x)))) ≡ true → (o ≡ true) × (a ≡ true)
own_by r m p x s o a h none is = grind (arith, nat_tests)

or_left : (a b : Bool) → a ≡ true → (a || b) ≡ true
or_left a b is = grind (arith, nat_tests)

or_right : (a b : Bool) → b ≡ true → (a || b) ≡ true
or_right a b is = grind (arith, nat_tests)

pub neither : (a b : Bool) → (a || b) ≡ false → (a ≡ false) × (b ≡ false)
neither a b is = grind (arith, nat_tests)

pub both_false : (a b : Bool) → a ≡ false → b ≡ false → (a || b) ≡ false
both_false a b first second = grind (arith, nat_tests)

-- over entries

any_passing : (p t : Binding → Bool) (x : ℕ × Binding) (xs : List (ℕ × Binding))
    → list_any t (filter p (bindings_of (x ∷ xs))) ≡ ((p x.1 && t x.1) || list_any t (filter p (bindings_of xs)))
any_passing p t x xs = grind (arith, nat_tests)

none_passes : (p : Binding → Bool) (entries : List (ℕ × Binding))
    → not (list_any (λ (entry : ℕ × Binding). p entry.1) entries) ≡ (length (filter p (bindings_of entries)) == 0)
none_passes p [] = refl
none_passes p (x ∷ xs) = grind (arith, nat_tests, none_passes p xs)

no_shorter : (x : ℕ) (xs : List ℕ) → x ∷ xs ≡ xs → ⊥
no_shorter x xs same = omega (arith, ap length same)

module _ (principal : List ℕ) (operation : Operation) (resource : ResourceKind) (name : List ℕ) where
  -- an allow on the name hits where its principal asks from its host; that of `User:*`, whoever asks
  hit_by : (entry : ℕ × Binding) (who : List ℕ)
      → (is_on resource name entry.1 && allows_others principal operation entry.1) ≡ true
      → (same_text entry.1.principal who || same_text entry.1.principal (codes "User:*")) ≡ true
      → is_hit Allow (question_of who entry.1.host operation resource name) entry ≡ true
  hit_by entry who allows covered = grind (arith, nat_tests, bytes_eq-Decides entry.1.host entry.1.host)

  -- so an allow that hits for this principal alone allows no others
  allows_none : (entry : ℕ × Binding)
      → ((who host : List ℕ) → IsTrue (is_hit Allow (question_of who host operation resource name) entry)
      → who ≡ principal)
      → (is_on resource name entry.1 && allows_others principal operation entry.1) ≡ false
  allows_none entry only =
      let bound = entry.1 in
      elim (cases_Bool (is_on resource name bound && allows_others principal operation bound)) [
        | inr none ↦ none
        | inl allows ↦
            elim (others_by (same_resource bound.resource resource) (matches bound.pattern name)
            (same_permission bound.permission Allow) (reaches Allow bound.operation operation)
            (same_text bound.principal (codes "User:*")) (same_text bound.principal principal) allows) [
              | inl all ↦
                  absurd (no_shorter 0 principal (only (0 ∷ principal) bound.host
                  (hit_by entry (0 ∷ principal) allows (or_right _ _ all))))
              | inr other ↦
                  let same = bytes_eq-Decides bound.principal bound.principal in
                  let is = only bound.principal bound.host (hit_by entry bound.principal allows (or_left _ _ (same.1 refl))) in
                  absurd (true≢false (sym ((bytes_eq-Decides bound.principal principal).1 is) ∙ other))
            ]
      ]

  -- and an allow that allows no others hits for this principal alone
  hits_only : (entry : ℕ × Binding) (who host : List ℕ)
      → (is_on resource name entry.1 && allows_others principal operation entry.1) ≡ false
      → IsTrue (is_hit Allow (question_of who host operation resource name) entry) → who ≡ principal
  hits_only entry who host none hit =
      let bound = entry.1 in
      let (own, asking) = own_by (same_resource bound.resource resource) (matches bound.pattern name)
      (same_permission bound.permission Allow) (reaches Allow bound.operation operation)
      (same_text bound.principal (codes "User:*")) (same_text bound.principal principal)
      (same_text bound.principal who) (same_text bound.host host || same_text bound.host (codes "*")) none hit in
      sym ((bytes_eq-Decides bound.principal who).0 asking) ∙ (bytes_eq-Decides bound.principal principal).0 own

  -- a binding on the name allows others
  abbrev some_allows : List (ℕ × Binding) → Bool
  some_allows entries =
      list_any (allows_others principal operation) (filter (is_on resource name) (bindings_of entries))

  -- an allow that hits is the principal's
  abbrev Only : List ℕ → List ℕ → ℕ × Binding → Type 0
  Only who host entry =
      IsTrue (is_hit Allow (question_of who host operation resource name) entry) → who ≡ principal

  each_hits_only : (entries : List (ℕ × Binding)) (who host : List ℕ) → some_allows entries ≡ false
      → AllByRecursion (Only who host) entries
  each_hits_only [] who host none = tt
  each_hits_only (x ∷ xs) who host none =
      let (first, rest) = neither _ _ (sym (any_passing (is_on resource name) (allows_others principal operation) x xs) ∙ none) in
      (hits_only x who host first, each_hits_only xs who host rest)

  some_allows_none : (entries : List (ℕ × Binding)) → ((who host : List ℕ) → AllByRecursion (Only who host) entries)
      → some_allows entries ≡ false
  some_allows_none [] only = refl
  some_allows_none (x ∷ xs) only =
      any_passing (is_on resource name) (allows_others principal operation) x xs
      ∙ both_false _ _ (allows_none x (λ who host. (only who host).0)) (some_allows_none xs (λ who host. (only who host).1))

  -- the bindings on a name decide whether it is reserved
  pub reserved_if : (access : Contents)
      → is_open_to_others principal operation access.everyone (bindings_on resource name access) ≡ false
      → IsReservedFor principal operation resource name access
  reserved_if access closed =
      let (none, kept) = neither _ _ closed in
      record {
        allowed = λ who host. each_hits_only access.entries who host none;
        closed = λ who host. ap (λ b. access.everyone && b) (none_passes (is_on resource name) access.entries) ∙ kept;
      }

  pub closed_if : (access : Contents) → IsReservedFor principal operation resource name access
      → is_open_to_others principal operation access.everyone (bindings_on resource name access) ≡ false
  closed_if access reserved =
      both_false _ _ (some_allows_none access.entries reserved.allowed)
      (ap (λ b. access.everyone && b) (sym (none_passes (is_on resource name) access.entries)) ∙ reserved.closed [] [])

pub decided : (principal : List ℕ) (operation : Operation) (resource : ResourceKind) (name : List ℕ) (access : Contents)
    → IsReservedFor principal operation resource name access
    ↔ (is_open_to_others principal operation access.everyone (bindings_on resource name access) ≡ false)
decided principal operation resource name access =
    (closed_if principal operation resource name access, reserved_if principal operation resource name access)
