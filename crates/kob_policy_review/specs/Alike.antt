-- When two sets of rules answer alike.
use Rattle.std.specs.Prelude.{◌≡◌, ◌≢◌, Bool, List, ℕ, ◌+◌, ◌++◌, not, ◌==◌, Contains, codes, map, sum}
use Rattle.std.specs.List.{filter, sum_by}
use Rattle.kob_names.specs.Binding.{Binding, is_granted}
use Rattle.kob_names.specs.declared.kinds.Operation.TheVariants.{All}
use Rattle.kob_names.specs.declared.kinds.ResourceKind.TheVariants.{Cluster}
use Rattle.kob_authorizer.specs.Decide.{Contents, Question, decide}
use Rattle.kob_policy_review.specs.Classes.{operations, parties, representative, targets}
use Rattle.kob_policy_review.specs.declared.class.Class.{Class}

-- whether the answer is yes
abbrev pub is_yes : Contents → Question → Bool
is_yes rules question = is_granted (decide rules question)

-- what a request may ask: one operation, and on the cluster its one name
pub record IsAskable (question : Question) : Type 0 where
  pub operation : question.operation ≢ All
  pub name : question.resource ≡ Cluster → question.name ≡ codes "kafka-cluster"

-- no answer at all differs
abbrev pub AnswerAlike : Contents → Contents → Type 0
AnswerAlike one other =
    (question : Question) → IsAskable question → is_yes one question ≡ is_yes other question

-- the rules without the binding of this serial
abbrev pub without : ℕ → Contents → Contents
without serial rules =
    record rules {
      entries = filter (λ (entry : ℕ × Binding). not (entry.0 == serial)) rules.entries;
    }

-- A mark, which is in no text of the rules: representatives of all others end with it.

abbrev pub weight : ℕ × Binding → ℕ
weight entry = sum entry.1.principal + (sum entry.1.host + sum entry.1.pattern.name)

abbrev pub spare : Contents → ℕ
spare rules = 1 + (sum_by weight rules.entries + sum_by sum rules.supers)

-- it is in no text of either
abbrev pub mark_of : Contents → Contents → ℕ
mark_of one other = spare one + spare other

-- the principals and the hosts that are named
abbrev pub principals_of : List (ℕ × Binding) → List (List ℕ)
principals_of entries = map (λ (entry : ℕ × Binding). entry.1.principal) entries

abbrev pub hosts_of : List (ℕ × Binding) → List (List ℕ)
hosts_of entries = map (λ (entry : ℕ × Binding). entry.1.host) entries

-- a class that the rules of the one or the other distinguish
pub record IsClassOf (one other : Contents) (class : Class) : Type 0 where
  pub principal : Contains (parties (principals_of (one.entries ++ other.entries)
      ++ (one.supers ++ other.supers))) class.principal
  pub host : Contains (parties (hosts_of (one.entries ++ other.entries))) class.host
  pub operation : Contains operations class.operation
  pub target : Contains (targets (one.entries ++ other.entries)) class.target

-- they answer alike at the representative of each class
abbrev pub AlikeAtRepresentatives : Contents → Contents → Type 0
AlikeAtRepresentatives one other =
    (class : Class) → IsClassOf one other class
    → is_yes one (representative (mark_of one other) class)
    ≡ is_yes other (representative (mark_of one other) class)
