-- What is listed as granted to a principal is what the rules decide.
use Rattle.std.proofs.Common.{Bool, Contains, List, Option, Some, None, true, false, not, codes, map, sym, subst, ap, refl, [], ◌&&◌, ◌||◌, ◌≡◌, ◌≢◌, ◌∙◌, ℕ}
use Rattle.std.proofs.Math.Bool.{and-false}
use Rattle.std.specs.List.{filter, flat_map, list_any}
use Rattle.kob_names.specs.Binding.{Binding, covers, matches, reaches}
use Rattle.kob_names.proofs.SameBindings.{operation_decides}
use Rattle.kob_names.specs.Same.{same_operation, same_permission, same_resource}
use Rattle.kob_names.specs.declared.kinds.Operation.{Operation}
use Rattle.kob_names.specs.declared.kinds.Operation.TheVariants.{All}
use Rattle.kob_names.specs.declared.kinds.Permission.{Permission}
use Rattle.kob_names.specs.declared.kinds.Permission.TheVariants.{Allow, Deny}
use Rattle.kob_authorizer.proofs.Entries.{among_mapped, any_passes, at_head, given_by, kept_by_filter, passing, was_kept}
use Rattle.kob_authorizer.specs.Decide.{Contents, Question, is_hit, is_match, is_super}
use Rattle.kob_policy_review.proofs.Changing.{from_flat, in_flat}
use Rattle.kob_policy_review.proofs.Deciding.{granted, yes_is}
use Rattle.kob_policy_review.proofs.Needing.{asked_there}
use Rattle.kob_policy_review.proofs.Standing.{all_named, any_alike, any_kept, covers_same, hosts_are, on_for, party_for, party_there, target_for, target_there}
use Rattle.kob_policy_review.proofs.Texts.{same_when}
use Rattle.kob_policy_review.specs.Alike.{IsAskable, hosts_of, is_yes}
use Rattle.kob_policy_review.specs.Classes.{covers_party, is_for, is_met, is_on, open_targets, operations, targets_named}
use Rattle.kob_policy_review.specs.Difference.{SpeaksOf, yes_to}
use Rattle.kob_policy_review.specs.Holding.{IsOf, ListsHoldings, holding_from, holdings_of, holdings_on, hosts_asked, is_held, is_open_to_all, own_entries}
use Rattle.kob_policy_review.specs.declared.class.Target.{Target}
use Rattle.kob_policy_review.specs.declared.holding.Holding.{Holding}

-- an operation is among those that pass exactly if it passes
held_is : (test : Operation → Bool) (operation : Operation) → operation ≢ All
    → list_any (same_operation operation) (filter test operations) ≡ test operation
held_is test operation plain = same_when _ _
    (λ some.
    let (other, (there, same)) = passing (same_operation operation) (filter test operations) some in
    subst (λ (o : Operation). test o ≡ true) (sym ((operation_decides operation other).0 same))
    (was_kept test operations other there).1)
    (λ passes.
    any_passes (same_operation operation) (filter test operations) operation
    (kept_by_filter test operations operation (asked_there operation plain) passes)
    ((operation_decides operation operation).1 refl))

hit_bools : (permission resource name who where_from reach on at : Bool) → (who ≡ true → on ≡ (resource && name))
    → (who ≡ true → on ≡ true → at ≡ where_from)
    → (permission && (resource && (name && ((who && where_from) && reach))))
    ≡ (on && (who && (permission && (at && reach))))
hit_bools permission resource name false where_from reach on at names hosts =
    ap (λ b. permission && (resource && b)) (and-false name) ∙ ap (λ b. permission && b) (and-false resource)
    ∙ and-false permission ∙ sym (and-false on)
hit_bools permission false name true where_from reach on at names hosts =
    and-false permission ∙ sym (ap (λ b. b && (permission && (at && reach))) (names refl))
hit_bools permission true false true where_from reach on at names hosts =
    and-false permission ∙ sym (ap (λ b. b && (permission && (at && reach))) (names refl))
hit_bools permission true true true where_from reach on at names hosts =
    ap (λ b. permission && (b && reach)) (sym (hosts refl (names refl)))
    ∙ sym (ap (λ b. b && (permission && (at && reach))) (names refl))

match_bools : (permission resource name rest : Bool) → (permission && (resource && (name && rest))) ≡ true
    → (resource && name) ≡ true
match_bools true true true rest hit = refl
match_bools true true false rest hit = hit
match_bools true false name rest hit = hit
match_bools false resource name rest hit = absurd cc

yes_bools : (denied allowed everyone matched : Bool) → (denied ≡ true → matched ≡ true)
    → (not denied && (allowed || (everyone && not matched)))
    ≡ ((not denied && (allowed || false)) || (everyone && not matched))
yes_bools false false everyone matched among = refl
yes_bools false true false matched among = refl
yes_bools false true true false among = refl
yes_bools false true true true among = refl
yes_bools true allowed false matched among = refl
yes_bools true allowed true true among = refl
yes_bools true allowed true false among = absurd (let wrong : false ≡ true = among refl in cc)

module _ (rules : Contents) where
  abbrev asking : List ℕ → Target → List (ℕ × Binding)
  asking principal target = filter (is_for (Some principal)) (filter (is_on target) rules.entries)

  from_is : (target : Target) (entries : List (ℕ × Binding)) (host : Option (List ℕ))
      → holding_from target entries host
      ≡ record { host = host; target = target; operations = filter (yes_to false entries host) operations }
  unfolding holding_from
  from_is target entries host = refl

  on_list : (principal : List ℕ) (host : Option (List ℕ)) (target : Target)
      → holdings_on rules principal host target
      ≡ map (holding_from target (asking principal target)) (hosts_asked host (asking principal target))
  unfolding holdings_on
  on_list principal host target = refl

  of_list : (principal : List ℕ) (host : Option (List ℕ))
      → holdings_of rules principal host
      ≡ flat_map (holdings_on rules principal host) (targets_named (own_entries rules principal))
  unfolding holdings_of
  of_list principal host = refl

  -- what is listed of a class are the operations that its bindings grant
  listed_is : (principal : List ℕ) (host : Option (List ℕ)) (one : Holding)
      → Contains (holdings_of rules principal host) one
      → one.operations ≡ filter (yes_to false (asking principal one.target) one.host) operations
  listed_is principal host one there =
      let (target, (_, on)) = from_flat (holdings_on rules principal host)
      (targets_named (own_entries rules principal)) one
      (subst (λ (hs : List Holding). Contains hs one) (of_list principal host) there) in
      let (from, (_, is)) = given_by (holding_from target (asking principal target))
      (hosts_asked host (asking principal target)) one
      (subst (λ (hs : List Holding). Contains hs one) (on_list principal host target) on) in
      let parts = sym (from_is target (asking principal target) from) ∙ is in
      let at_target : target ≡ one.target = ap (λ (h : Holding). h.target) parts in
      let at_host : from ≡ one.host = ap (λ (h : Holding). h.host) parts in
      sym (ap (λ (h : Holding). h.operations) parts)
      ∙ ap (λ (t : Target). filter (yes_to false (asking principal t) from) operations) at_target
      ∙ ap (λ (h : Option (List ℕ)). filter (yes_to false (asking principal one.target) h) operations) at_host

  module _ (one : Holding) (question : Question) (of_class : IsOf rules question.principal one question) where
    own_there : (entry : ℕ × Binding) → Contains rules.entries entry → is_for (Some question.principal) entry ≡ true
        → Contains (own_entries rules question.principal) entry
    own_there entry there covered =
        kept_by_filter (is_for (Some question.principal)) rules.entries entry there covered

    -- only the principal's own bindings on the names of the class hit
    hits_own : (permission : Permission) → list_any (is_hit permission question) rules.entries
        ≡ list_any (is_met permission one.host question.operation) (asking question.principal one.target)
    hits_own permission =
        any_alike (is_hit permission question)
        (λ entry. is_on one.target entry && (is_for (Some question.principal) entry
        && is_met permission one.host question.operation entry))
        rules.entries
        (λ entry there.
        hit_bools (same_permission entry.1.permission permission) (same_resource entry.1.resource question.resource)
        (matches entry.1.pattern question.name) (is_for (Some question.principal) entry)
        (covers_party (codes "*") entry.1.host (Some question.host))
        (reaches permission entry.1.operation question.operation)
        (is_on one.target entry) (covers_party (codes "*") entry.1.host one.host)
        (λ covered. of_class.names entry (own_there entry there covered))
        (λ covered on. of_class.hosts entry (own_there entry there covered) on))
        ∙ sym (any_kept (is_on one.target) (λ entry. is_for (Some question.principal) entry
        && is_met permission one.host question.operation entry) rules.entries)
        ∙ sym (any_kept (is_for (Some question.principal)) (is_met permission one.host question.operation)
        (filter (is_on one.target) rules.entries))

  -- what hits matches
  hit_matches : (question : Question) → list_any (is_hit Deny question) rules.entries ≡ true
      → list_any (is_match question) rules.entries ≡ true
  hit_matches question some =
      let (entry, (there, hit)) = passing (is_hit Deny question) rules.entries some in
      any_passes (is_match question) rules.entries entry there
      (match_bools (same_permission entry.1.permission Deny) (same_resource entry.1.resource question.resource)
      (matches entry.1.pattern question.name)
      (covers entry.1 question.principal question.host && reaches Deny entry.1.operation question.operation) hit)

  decided : (one : Holding) (question : Question) (host : Option (List ℕ))
      → Contains (holdings_of rules question.principal host) one → IsAskable question
      → is_super rules.supers question.principal ≡ false → IsOf rules question.principal one question
      → is_yes rules question ≡ (is_held question.operation one || is_open_to_all rules question)
  decided one question host there askable plain of_class =
      let matched : Bool = list_any (is_match question) rules.entries in
      let opened : Bool = rules.everyone && not matched in
      let held : is_held question.operation one
      ≡ yes_to false (asking question.principal one.target) one.host question.operation =
      ap (list_any (same_operation question.operation)) (listed_is question.principal host one there)
      ∙ held_is (yes_to false (asking question.principal one.target) one.host) question.operation askable.operation in
      yes_is rules question
      ∙ ap (λ s. granted s (list_any (is_hit Deny question) rules.entries)
      (list_any (is_hit Allow question) rules.entries) opened) plain
      ∙ yes_bools (list_any (is_hit Deny question) rules.entries) (list_any (is_hit Allow question) rules.entries)
      rules.everyone matched (hit_matches question)
      ∙ ap (λ d. (not d && (list_any (is_hit Allow question) rules.entries || false)) || opened)
      (hits_own one question of_class Deny)
      ∙ ap (λ a. (not (list_any (is_met Deny one.host question.operation) (asking question.principal one.target))
      && (a || false)) || opened)
      (hits_own one question of_class Allow)
      ∙ ap (λ h. h || opened) (sym held)

  abbrev own_target : Question → Target
  own_target question = target_for (own_entries rules question.principal) question.resource question.name

  -- the host that stands for the one that asks
  host_class : (question : Question) (host : Option (List ℕ)) → SpeaksOf question.host host
      → (from : Option (List ℕ)) × (Contains (hosts_asked host (asking question.principal (own_target question))) from
      × ((entry : ℕ × Binding) → Contains (asking question.principal (own_target question)) entry
      → covers_party (codes "*") entry.1.host from ≡ covers_party (codes "*") entry.1.host (Some question.host)))
  host_class question (Some host) speaks = (
    Some host,
    (
      at_head (Some host) [],
      λ entry there. ap (λ (h : List ℕ). covers_party (codes "*") entry.1.host (Some h)) speaks,
    ),
  )
  host_class question None speaks =
      let near : List (ℕ × Binding) = asking question.principal (own_target question) in (
        party_for (hosts_of near) question.host,
        (
          subst (λ (ps : List (Option (List ℕ))). Contains ps (party_for (hosts_of near) question.host))
              (sym (hosts_are near))
              (party_there (hosts_of near) question.host),
          λ entry there.
              covers_same (codes "*") entry.1.host question.host (hosts_of near)
              (among_mapped (λ (e : ℕ × Binding). e.1.host) near entry there),
        ),
      )

  classed : (question : Question) (host : Option (List ℕ)) → IsAskable question → SpeaksOf question.host host
      → (one : Holding) × (Contains (holdings_of rules question.principal host) one
      × IsOf rules question.principal one question)
  classed question host askable speaks =
      let own : List (ℕ × Binding) = own_entries rules question.principal in
      let target : Target = own_target question in
      let near : List (ℕ × Binding) = asking question.principal target in
      let (from, (asked, same)) = host_class question host speaks in
      let one : Holding = holding_from target near from in
      let parts = from_is target near from in
      let named : Contains (targets_named own) target =
      all_named open_targets own target (target_there own question.resource question.name) in
      let there : Contains (holdings_of rules question.principal host) one =
      subst (λ (hs : List Holding). Contains hs one) (sym (of_list question.principal host))
      (in_flat (holdings_on rules question.principal host) (targets_named own) target one named
      (subst (λ (hs : List Holding). Contains hs one) (sym (on_list question.principal host target))
      (among_mapped (holding_from target near) (hosts_asked host near) from asked))) in
      let of_class : IsOf rules question.principal (record {
        host = from;
        target = target;
        operations = filter (yes_to false near from) operations;
      }) question = record {
        asked = refl;
        names = λ entry in_own. on_for own question.resource question.name askable.name entry in_own;
        hosts = λ entry in_own on.
            let (in_rules, covered) = was_kept (is_for (Some question.principal)) rules.entries entry in_own in
            same entry (kept_by_filter (is_for (Some question.principal)) (filter (is_on target) rules.entries) entry
            (kept_by_filter (is_on target) rules.entries entry in_rules on) covered);
      } in
      (one, (there, subst (λ (h : Holding). IsOf rules question.principal h question) (sym parts) of_class))

pub lists_holdings : (rules : Contents) (principal : List ℕ) (host : Option (List ℕ)) (found : List Holding)
    → found ≡ holdings_of rules principal host → ListsHoldings rules principal host found
lists_holdings rules principal host found is = record {
  exact = λ one question there askable plain of_class.
      subst (λ (p : List ℕ). Contains (holdings_of rules p host) one → is_super rules.supers p ≡ false
      → IsOf rules p one question
      → is_yes rules question ≡ (is_held question.operation one || is_open_to_all rules question))
      of_class.asked
      (λ in_list plain' of_class'. decided rules one question host in_list askable plain' of_class')
      (subst (λ (hs : List Holding). Contains hs one) is there) plain of_class;
  all = λ question asked askable speaks.
      subst (λ (p : List ℕ). (one : Holding) × (Contains found one × IsOf rules p one question)) asked
      (subst (λ (hs : List Holding). (one : Holding) × (Contains hs one × IsOf rules question.principal one question))
      (ap (λ (p : List ℕ). holdings_of rules p host) asked ∙ sym is) (classed rules question host askable speaks));
}
