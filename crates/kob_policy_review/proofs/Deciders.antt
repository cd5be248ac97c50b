-- Two sets of rules that answer alike at the representatives answer alike.
use Rattle.std.proofs.Common.{Contains, List, refl, sym, ap, arith, inl, inr, ◌++◌, ◌<◌, ◌≡◌, ◌∙◌, ℕ, sum}
use Rattle.std.proofs.lemmas.List.Elements.{Contains-append_left, Contains-append_right}
use Rattle.std.specs.List.{filter, list_any}
use Rattle.kob_names.specs.Binding.{Binding}
use Rattle.kob_authorizer.proofs.Entries.{among_mapped, passing}
use Rattle.kob_names.specs.Same.{same_text}
use Rattle.std.proofs.lemmas.Bool.{both_ways, cases_Bool}
use Rattle.kob_authorizer.specs.Decide.{Contents, Question, is_super}
use Rattle.kob_policy_review.proofs.Deciding.{answered_as, yes_in}
use Rattle.kob_policy_review.proofs.Marks.{in_sum, stands_for, stands_marked, super_marked}
use Rattle.kob_policy_review.proofs.Needing.{asked_there}
use Rattle.kob_policy_review.proofs.Standing.{none_passes, party_for, party_there, target_for, target_there}
use Rattle.kob_policy_review.proofs.Texts.{same_when}
use Rattle.kob_policy_review.specs.Alike.{AlikeAtRepresentatives, AnswerAlike, IsAskable, IsClassOf, hosts_of, is_yes, mark_of, principals_of, weight}
use Rattle.kob_policy_review.specs.Classes.{is_on, representative}
use Rattle.kob_policy_review.specs.Needed.{is_super_party}
use Rattle.kob_policy_review.specs.declared.class.Class.{Class}

-- the party that stands for a text is a super user where the text is
super_for : (texts supers : List (List ℕ)) (text : List ℕ)
    → ((user : List ℕ) → Contains supers user → Contains texts user)
    → is_super_party supers (party_for texts text) ≡ is_super supers text
super_for texts supers text named =
    elim (cases_Bool (list_any (same_text text) texts)) [
      | inl is ↦ rw is refl
      | inr unnamed ↦
          rw unnamed (same_when _ _ (λ h. absurd cc) (λ super.
          let (user, (there, same)) = passing (same_text text) supers super in
          absurd (both_ways _ (none_passes (same_text text) texts user unnamed (named user there)) same)))
    ]

module _ (one other : Contents) (question : Question) (askable : IsAskable question) where
  abbrev entries : List (ℕ × Binding)
  entries = one.entries ++ other.entries

  abbrev principals : List (List ℕ)
  principals = principals_of entries ++ (one.supers ++ other.supers)

  -- the class of the question
  abbrev class : Class
  class = record {
    principal = party_for principals question.principal;
    host = party_for (hosts_of entries) question.host;
    operation = question.operation;
    target = target_for entries question.resource question.name;
  }

  abbrev mark : ℕ
  mark = mark_of one other

  is_class : IsClassOf one other class
  is_class = record {
    principal = party_there principals question.principal;
    host = party_there (hosts_of entries) question.host;
    operation = asked_there question.operation askable.operation;
    target = target_there entries question.resource question.name;
  }

  -- the super users of one set of rules are named
  super_same : (supers : List (List ℕ)) → ((user : List ℕ) → Contains supers user → Contains principals user)
      → is_super_party supers class.principal ≡ is_super supers question.principal
  super_same supers named = super_for principals supers question.principal named

  -- the question is answered as its representative
  answered : (rules : Contents) → ((entry : ℕ × Binding) → Contains rules.entries entry → Contains entries entry)
      → ((user : List ℕ) → Contains rules.supers user → Contains principals user)
      → ((entry : ℕ × Binding) → Contains rules.entries entry → weight entry < mark)
      → ((user : List ℕ) → Contains rules.supers user → sum user < mark)
      → is_yes rules question ≡ is_yes rules (representative mark class)
  answered rules among named clear clear_user =
      let asked = answered_as question class.target class.principal class.host rules
      (stands_for entries rules.entries question principals (hosts_of entries) askable among
      (λ entry there _. Contains-append_left (principals_of entries) (one.supers ++ other.supers) entry.1.principal
      (among_mapped (λ (e : ℕ × Binding). e.1.principal) entries entry (among entry there)))
      (λ entry there _ _. among_mapped (λ (e : ℕ × Binding). e.1.host) entries entry (among entry there))) in
      let represented = answered_as (representative mark class) class.target class.principal class.host rules
      (stands_marked mark class rules.entries clear) in
      let super = sym (super_same rules.supers named)
      ∙ sym (super_marked mark rules.supers class.principal clear_user) in
      asked
      ∙ ap (λ s. yes_in s rules.everyone (filter (is_on class.target) rules.entries) class.principal class.host
      question.operation) super
      ∙ sym represented

  -- what decides a question is decided at its representative
  decided_there : AlikeAtRepresentatives one other → is_yes one question ≡ is_yes other question
  decided_there alike =
      answered one
      (λ entry there. Contains-append_left one.entries other.entries entry there)
      (λ user there. Contains-append_right (principals_of entries) (one.supers ++ other.supers) user
      (Contains-append_left one.supers other.supers user there))
      (λ entry there. omega (arith, in_sum weight one.entries entry there))
      (λ user there. omega (arith, in_sum sum one.supers user there))
      ∙ alike class is_class
      ∙ sym (answered other
      (λ entry there. Contains-append_right one.entries other.entries entry there)
      (λ user there. Contains-append_right (principals_of entries) (one.supers ++ other.supers) user
      (Contains-append_right one.supers other.supers user there))
      (λ entry there. omega (arith, in_sum weight other.entries entry there))
      (λ user there. omega (arith, in_sum sum other.supers user there)))

pub decide_all : (one other : Contents) → AlikeAtRepresentatives one other → AnswerAlike one other
decide_all one other alike question askable = decided_there one other question askable alike
