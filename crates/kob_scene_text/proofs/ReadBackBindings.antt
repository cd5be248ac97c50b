-- The words of a binding, and of a creation of it, are read as it.
use Rattle.kob_scene_text.proofs.Words.{List, Ok, Option, Result, Word, [], ap, append-nil, append_assoc, codes, false, refl, words_of, ℕ, ◌++◌, ◌>>=◌, ◌∙◌, ◌∷◌, ◌≡◌}
use Rattle.std.proofs.Common.{bytes_eq}
use Rattle.kob_names.specs.declared.draft.Draft.{Draft}
use Rattle.kob_names.specs.declared.kinds.Operation.{Operation}
use Rattle.kob_names.specs.declared.kinds.Operation.TheVariants.{All, Read, Write, Create, Delete, Alter, Describe, ClusterAction, DescribeConfigs, AlterConfigs, IdempotentWrite}
use Rattle.kob_names.specs.declared.kinds.PatternKind.{PatternKind}
use Rattle.kob_names.specs.declared.kinds.PatternKind.TheVariants.{Literal, Prefixed}
use Rattle.kob_names.specs.declared.kinds.Permission.{Permission}
use Rattle.kob_names.specs.declared.kinds.Permission.TheVariants.{Allow, Deny}
use Rattle.kob_names.specs.declared.kinds.ResourceKind.{ResourceKind}
use Rattle.kob_names.specs.declared.kinds.ResourceKind.TheVariants.{Topic, Group, Cluster, TransactionalId}
use Rattle.kob_rights.specs.declared.request.Request.TheVariants as ask
use Rattle.kob_scene_text.proofs.ReadBackCommands.{fine, name_read, no_fault}
use Rattle.kob_scene_text.proofs.ReadBackEvents.{IsAsked}
use Rattle.kob_scene_text.proofs.ReadBackLine.{AreWords, IsWord, line_of, words_read}
use Rattle.kob_scene_text.proofs.ReadBackWords.{host_is_word, host_read, name_is_word, plain_is_word, plain_word, principal_is_word, principal_read, text_word}
use Rattle.kob_scene_text.specs.PrintedRequest.{worded}
use Rattle.kob_scene_text.specs.Rereading.{IsDraft, ReadsBackBinding}
use Rattle.kob_script.specs.CommandLines.{draft_of, faults_in, known, request_of, row}
use Rattle.kob_script.specs.declared.command.Command.TheVariants as command
use Rattle.kob_script.specs.declared.fault.FaultKind.{FaultKind}
use Rattle.kob_words.specs.Words.{grant_text, operation_name, operation_named, pattern_name, pattern_named, permission_name, permission_named, resource_name, resource_named, target_text, spaced}

-- A name that is printed without an escape, is not `-`, and is known.
pub record IsKnown {A : Type 0} (named : List ℕ → Option A) (name : List ℕ) (item : A) : Type 0 where
  pub is : IsWord (plain_word name)
  pub other : bytes_eq name (codes "-") ≡ false
  pub read : known named (plain_word name) ≡ Ok item

pub operation_known : (o : Operation) → IsKnown operation_named (operation_name o) o
operation_known All = record { is = plain_is_word (codes "All") refl refl refl; other = refl; read = refl }
operation_known Read = record { is = plain_is_word (codes "Read") refl refl refl; other = refl; read = refl }
operation_known Write = record { is = plain_is_word (codes "Write") refl refl refl; other = refl; read = refl }
operation_known Create = record { is = plain_is_word (codes "Create") refl refl refl; other = refl; read = refl }
operation_known Delete = record { is = plain_is_word (codes "Delete") refl refl refl; other = refl; read = refl }
operation_known Alter = record { is = plain_is_word (codes "Alter") refl refl refl; other = refl; read = refl }
operation_known Describe = record { is = plain_is_word (codes "Describe") refl refl refl; other = refl; read = refl }
operation_known ClusterAction = record { is = plain_is_word (codes "ClusterAction") refl refl refl; other = refl; read = refl }
operation_known DescribeConfigs = record { is = plain_is_word (codes "DescribeConfigs") refl refl refl; other = refl; read = refl }
operation_known AlterConfigs = record { is = plain_is_word (codes "AlterConfigs") refl refl refl; other = refl; read = refl }
operation_known IdempotentWrite = record { is = plain_is_word (codes "IdempotentWrite") refl refl refl; other = refl; read = refl }

pub resource_known : (r : ResourceKind) → IsKnown resource_named (resource_name r) r
resource_known Topic = record { is = plain_is_word (codes "Topic") refl refl refl; other = refl; read = refl }
resource_known Group = record { is = plain_is_word (codes "Group") refl refl refl; other = refl; read = refl }
resource_known Cluster = record { is = plain_is_word (codes "Cluster") refl refl refl; other = refl; read = refl }
resource_known TransactionalId = record { is = plain_is_word (codes "TransactionalId") refl refl refl; other = refl; read = refl }

pub pattern_known : (k : PatternKind) → IsKnown pattern_named (pattern_name k) k
pattern_known Literal = record { is = plain_is_word (codes "LITERAL") refl refl refl; other = refl; read = refl }
pattern_known Prefixed = record { is = plain_is_word (codes "PREFIXED") refl refl refl; other = refl; read = refl }

pub permission_known : (p : Permission) → IsKnown permission_named (permission_name p) p
permission_known Allow = record { is = plain_is_word (codes "ALLOW") refl refl refl; other = refl; read = refl }
permission_known Deny = record { is = plain_is_word (codes "DENY") refl refl refl; other = refl; read = refl }

seven_parts : (c a b d e f g h : List ℕ)
    → c ++ ((a ++ b ++ d ++ e ++ f ++ g ++ h) ++ []) ≡ c ++ (a ++ (b ++ (d ++ (e ++ (f ++ (g ++ (h ++ [])))))))
seven_parts c a b d e f g h = simp (append_assoc, append-nil)

-- the words of a binding
abbrev words_for : Draft → List Word
words_for d =
    plain_word (permission_name d.permission) ∷ text_word d.principal ∷ text_word d.host
    ∷ plain_word (operation_name d.operation) ∷ plain_word (resource_name d.resource) ∷ plain_word (pattern_name d.pattern.kind)
    ∷ text_word d.pattern.name ∷ []

module _ (d : Draft) (is : IsDraft d) where
  are_words : AreWords (words_for d)
  are_words = (
    (permission_known d.permission).is,
    (
      principal_is_word d.principal is.principal,
      (
        host_is_word d.host is.host,
        (
          (operation_known d.operation).is,
          (
            (resource_known d.resource).is,
            (
              (pattern_known d.pattern.kind).is,
              (name_is_word d.pattern.name is.name, tt),
            ),
          ),
        ),
      ),
    ),
  )

  draft_read : draft_of (words_for d) ≡ Ok d
  unfolding draft_of
  draft_read =
      let permission = (permission_known d.permission).read in
      let operation = (operation_known d.operation).read in
      let resource = (resource_known d.resource).read in
      let pattern = (pattern_known d.pattern.kind).read in
      let who = principal_read (text_word d.principal) is.principal in
      let from = host_read (text_word d.host) is.host in
      let name = name_read d.pattern.name is.name in
      rw (permission, operation, resource, pattern, name, who, from) refl

  pub create_acl : IsAsked (ask.CreateAcls (record { drafts = d ∷ [] }))
  unfolding request_of
  create_acl = record {
    name = codes "create-acl";
    command = command.CreateAcl;
    words = words_for d;
    printed = seven_parts (codes " create-acl") (worded (permission_name d.permission)) (spaced d.principal) (spaced d.host)
        (worded (operation_name d.operation)) (worded (resource_name d.resource)) (worded (pattern_name d.pattern.kind)) (spaced d.pattern.name);
    are = (plain_is_word (codes "create-acl") refl refl refl, are_words);
    no_options = refl;
    named = refl;
    faultless = fine (faults_in (row command.CreateAcl) (words_for d)) (
      no_fault _ d.permission (permission_known d.permission).read,
      (
        no_fault _ d.principal (principal_read (text_word d.principal) is.principal),
        (
          no_fault _ d.host (host_read (text_word d.host) is.host),
          (
            no_fault _ d.operation (operation_known d.operation).read,
            (
              no_fault _ d.resource (resource_known d.resource).read,
              (
                no_fault _ d.pattern.kind (pattern_known d.pattern.kind).read,
                (no_fault _ d.pattern.name (name_read d.pattern.name is.name), tt),
              ),
            ),
          ),
        ),
      ),
    );
    asks = rw draft_read refl;
  }

  -- a binding's words do not begin a comment
  words_back : (p : Permission) → d.permission ≡ p → words_of (line_of (words_for d)) ≡ Ok (words_for d)
  words_back Allow same =
      words_read 65 (codes "LLOW") (plain_word (permission_name d.permission)) _ (ap permission_name same) refl refl are_words
  words_back Deny same =
      words_read 68 (codes "ENY") (plain_word (permission_name d.permission)) _ (ap permission_name same) refl refl are_words

  pub binding_back : ReadsBackBinding d
  binding_back =
      let printed : codes " " ++ grant_text d ++ codes " " ++ target_text d ≡ line_of (words_for d) = simp (append_assoc, append-nil) in
      ap (λ text. words_of text >>= draft_of) printed
      ∙ ap (λ (found : Result (List Word) FaultKind). found >>= draft_of) (words_back d.permission refl) ∙ draft_read
