-- The words of a filter are read as it: `-` for a part that is not set, and `%2d` for the text `-`.
use Rattle.kob_scene_text.proofs.Words.{Bool, List, None, Ok, Option, Result, Some, Word, [], ap, append-nil, append_assoc, arith, codes, false, if◌then◌else◌, length, nat_tests, refl, sym, true, ℕ, ◌++◌, ◌>>=◌, ◌∙◌, ◌∷◌, ◌≡◌}
use Rattle.std.proofs.Common.{bytes_eq, ◌<◌}
use Rattle.std.proofs.lemmas.Slice.Eq.{bytes_eq-Decides}
use Rattle.std.specs.Result.{result_err}
use Rattle.kob_names.specs.declared.filter.BindingFilter.{BindingFilter}
use Rattle.kob_names.specs.declared.filter.FilterPattern.{FilterPattern}
use Rattle.kob_names.specs.declared.filter.FilterPattern.TheVariants as patterns
use Rattle.kob_rights.specs.declared.on_acls.DeleteAcls.{DeleteAcls}
use Rattle.kob_rights.specs.declared.on_acls.DescribeAcls.{DescribeAcls}
use Rattle.kob_rights.specs.declared.request.Request.TheVariants as ask
use Rattle.kob_scene_text.proofs.ReadBackBindings.{IsKnown, operation_known, permission_known, resource_known}
use Rattle.kob_scene_text.proofs.ReadBackCommands.{fine, no_fault}
use Rattle.kob_scene_text.proofs.ReadBackEvents.{IsAsked, begins}
use Rattle.kob_scene_text.proofs.ReadBackLine.{AreWords, IsWord, line_of}
use Rattle.kob_scene_text.proofs.ReadBackTexts.{utf8_bytes}
use Rattle.kob_scene_text.proofs.ReadBackWords.{host_read, host_some, plain_is_word, plain_word, principal_is_word, principal_read, text_is_word, text_read, text_word}
use Rattle.kob_scene_text.specs.PrintedRequest.{asked_text, filter_text, operation_text, or_dash, pattern_text, permission_text, resource_text, worded}
use Rattle.kob_scene_text.specs.Rereading.{AreBytes, IfGiven, IsFilter, IsHost, IsName, IsPrincipal}
use Rattle.kob_script.specs.CommandLines.{faults_in, filter_of, filter_pattern_of, filter_row, known, request_of, slot_fault, unless_dash}
use Rattle.kob_script.specs.Words.{first_kind, named_host, named_principal, text_of}
use Rattle.kob_script.specs.declared.command.Command.TheVariants as command
use Rattle.kob_script.specs.declared.command.Slot.TheVariants as slot
use Rattle.kob_script.specs.declared.command.Slot.{Slot}
use Rattle.kob_script.specs.declared.fault.FaultKind.{FaultKind}
use Rattle.kob_words.proofs.Choices.{chosen_false, false_from}
use Rattle.kob_words.proofs.Escapes.{plain_stands}
use Rattle.kob_words.proofs.ReadBack.{bytes_read_back}
use Rattle.kob_words.specs.Words.{bytes_text, operation_name, operation_named, permission_name, permission_named, resource_name, resource_named, unescaped, unescaped_from, spaced}

-- a part of a filter is printed as a word, and read at its place as the part
record IsPart {A : Type 0} (text : List ℕ) (word : Word) (at : Slot) (read : Result A FaultKind) (part : Option A) : Type 0 where
  printed : text ≡ codes " " ++ word.raw
  is : IsWord word
  faultless : (if bytes_eq word.raw (codes "-") then None else slot_fault at word) ≡ None
  reads : unless_dash read word ≡ Ok part

-- a word that is not `-`
set_part : {A : Type 0} (text : List ℕ) (word : Word) (at : Slot) (read : Result A FaultKind) (part : A)
    → text ≡ codes " " ++ word.raw → IsWord word → bytes_eq word.raw (codes "-") ≡ false → slot_fault at word ≡ None
    → read ≡ Ok part → IsPart text word at read (Some part)
set_part text word at read part printed is other fault gives = record {
  printed = printed;
  is = is;
  faultless = chosen_false (bytes_eq word.raw (codes "-")) None (slot_fault at word) other ∙ fault;
  reads = chosen_false (bytes_eq word.raw (codes "-")) (Ok None) (read >>= λ found. Ok (Some found)) other
      ∙ ap (λ it. it >>= λ found. Ok (Some found)) gives;
}

no_part : {A : Type 0} (at : Slot) (read : Result A FaultKind) → IsPart (codes " -") (plain_word (codes "-")) at read None
no_part at read = record { printed = refl; is = plain_is_word (codes "-") refl refl refl; faultless = refl; reads = refl }

-- parts that have names

abbrev name_word : {A : Type 0} → (A → List ℕ) → Option A → Word
name_word name_of None = plain_word (codes "-")
name_word name_of (Some item) = plain_word (name_of item)

abbrev name_text : {A : Type 0} → (A → List ℕ) → Option A → List ℕ
name_text name_of part = or_dash (λ it. worded (name_of it)) part

name_part : {A : Type 0} (named : List ℕ → Option A) (name_of : A → List ℕ) (at : Slot)
    → ((item : A) → IsKnown named (name_of item) item) → ((word : Word) → slot_fault at word ≡ result_err (known named word))
    → (part : Option A) → IsPart (name_text name_of part) (name_word name_of part) at (known named (name_word name_of part)) part
name_part named name_of at all fault None = no_part at _
name_part named name_of at all fault (Some item) =
    let it = all item in
    set_part (worded (name_of item)) (plain_word (name_of item)) at (known named (plain_word (name_of item))) item refl it.is it.other
    (fault (plain_word (name_of item)) ∙ ap result_err it.read) it.read

-- texts

abbrev asked_raw : Bool → List ℕ → List ℕ
asked_raw is_dash text = if is_dash then codes "%2d" else bytes_text text

abbrev asked_word : List ℕ → Word
asked_word text = record { raw = asked_raw (bytes_eq text (codes "-")) text; decoded = text }

is_the_dash : (text : List ℕ) → bytes_eq text (codes "-") ≡ true → text ≡ codes "-"
is_the_dash text is = grind (arith, nat_tests, bytes_eq-Decides)

the_dash_is : (text : List ℕ) → text ≡ codes "-" → bytes_eq text (codes "-") ≡ true
the_dash_is text is = rw is refl

escaped_dash : unescaped (codes "%2d") ≡ Some (codes "-")
unfolding unescaped_from
escaped_dash = refl

-- what is printed of another text is not `-`
printed_other : (text : List ℕ) → AreBytes text → bytes_eq text (codes "-") ≡ false → bytes_eq (bytes_text text) (codes "-") ≡ false
printed_other text bytes other =
    false_from (bytes_eq (bytes_text text) (codes "-")) (is_the_dash (bytes_text text)) λ is.
    let stands : Some text ≡ Some (codes "-") = sym (bytes_read_back text bytes) ∙ ap unescaped is ∙ plain_stands (codes "-") refl in
    let same : text ≡ codes "-" = cc in
    let yes_it_is = the_dash_is text same in cc

module _ (text : List ℕ) (bytes : AreBytes text) (some : 0 < length text) where
  asked_by : (is_dash : Bool) → bytes_eq text (codes "-") ≡ is_dash
      → ((if is_dash then codes " %2d" else spaced text) ≡ codes " " ++ asked_raw is_dash text)
      × IsWord (record { raw = asked_raw is_dash text; decoded = text })
      × (bytes_eq (asked_raw is_dash text) (codes "-") ≡ false)
  asked_by true is = (
    refl,
    record { some = omega arith; whole = refl; stands = escaped_dash ∙ ap Some (sym (is_the_dash text is)) },
    refl,
  )
  asked_by false is = (refl, text_is_word text bytes some, printed_other text bytes is)

  text_part : {A : Type 0} (at : Slot) (read : Result A FaultKind) (part : A) → slot_fault at (asked_word text) ≡ None → read ≡ Ok part
      → IsPart (asked_text text) (asked_word text) at read (Some part)
  text_part at read part fault gives =
      let it = asked_by (bytes_eq text (codes "-")) refl in
      set_part (asked_text text) (asked_word text) at read part it.0 it.1 it.2 fault gives

abbrev text_word_of : Option (List ℕ) → Word
text_word_of None = plain_word (codes "-")
text_word_of (Some text) = asked_word text

name_text_part : (name : Option (List ℕ)) → IfGiven IsName name
    → IsPart (or_dash asked_text name) (text_word_of name) slot.Text (text_of (text_word_of name)) name
name_text_part None is = no_part slot.Text _
name_text_part (Some name) is =
    let read = text_read (asked_word name) is.utf8 in
    text_part name (utf8_bytes name is.utf8) is.some slot.Text (text_of (asked_word name)) name (ap result_err read) read

host_part : (host : Option (List ℕ)) → IfGiven IsHost host
    → IsPart (or_dash asked_text host) (text_word_of host) slot.Host (named_host (text_word_of host)) host
host_part None is = no_part slot.Host _
host_part (Some host) is =
    let read = host_read (asked_word host) is in
    text_part host (utf8_bytes host is.utf8) (host_some host is.valid) slot.Host (named_host (asked_word host)) host (ap result_err read) read

abbrev principal_word_of : Option (List ℕ) → Word
principal_word_of None = plain_word (codes "-")
principal_word_of (Some principal) = text_word principal

principal_part : (principal : Option (List ℕ)) → IfGiven IsPrincipal principal
    → IsPart (or_dash spaced principal) (principal_word_of principal) slot.Principal (named_principal (principal_word_of principal)) principal
principal_part None is = no_part slot.Principal _
principal_part (Some principal) is =
    let read = principal_read (text_word principal) is in
    set_part (spaced principal) (text_word principal) slot.Principal (named_principal (text_word principal)) principal refl
    (principal_is_word principal is) (ap (λ raw. bytes_eq raw (codes "-")) (begins principal is.valid)) (ap result_err read) read

-- the kind of patterns

abbrev pattern_word : FilterPattern → Word
pattern_word patterns.Any = plain_word (codes "any")
pattern_word patterns.Matching = plain_word (codes "match")
pattern_word patterns.Literal = plain_word (codes "LITERAL")
pattern_word patterns.Prefixed = plain_word (codes "PREFIXED")

record IsPatternWord (pattern : FilterPattern) : Type 0 where
  printed : pattern_text pattern ≡ codes " " ++ (pattern_word pattern).raw
  is : IsWord (pattern_word pattern)
  reads : filter_pattern_of (pattern_word pattern) ≡ Ok pattern

pattern_part : (pattern : FilterPattern) → IsPatternWord pattern
pattern_part patterns.Any = record { printed = refl; is = plain_is_word (codes "any") refl refl refl; reads = refl }
pattern_part patterns.Matching = record { printed = refl; is = plain_is_word (codes "match") refl refl refl; reads = refl }
pattern_part patterns.Literal = record { printed = refl; is = plain_is_word (codes "LITERAL") refl refl refl; reads = refl }
pattern_part patterns.Prefixed = record { printed = refl; is = plain_is_word (codes "PREFIXED") refl refl refl; reads = refl }

-- all parts

grouped : (c a b d e f g h : List ℕ)
    → c ++ (a ++ b ++ d ++ e ++ f ++ g ++ h) ≡ c ++ (a ++ (b ++ (d ++ (e ++ (f ++ (g ++ (h ++ [])))))))
grouped c a b d e f g h = simp (append_assoc, append-nil)

abbrev seven : List ℕ → List ℕ → List ℕ → List ℕ → List ℕ → List ℕ → List ℕ → List ℕ → List ℕ
seven c a b d e f g h = c ++ (a ++ (b ++ (d ++ (e ++ (f ++ (g ++ (h ++ [])))))))

printed_by : (c : List ℕ) {a b d e f g h a' b' d' e' f' g' h' : List ℕ} → a ≡ a' → b ≡ b' → d ≡ d' → e ≡ e' → f ≡ f' → g ≡ g' → h ≡ h'
    → seven c a b d e f g h ≡ seven c a' b' d' e' f' g' h'
printed_by c ia ib id ie if_ ig ih = rw (ia, ib, id, ie, if_, ig, ih) refl

abbrev filter_words : BindingFilter → List Word
filter_words f =
    name_word resource_name f.resource ∷ text_word_of f.name ∷ pattern_word f.pattern ∷ principal_word_of f.principal
    ∷ text_word_of f.host ∷ name_word operation_name f.operation ∷ name_word permission_name f.permission ∷ []

record IsFilterRead (f : BindingFilter) : Type 0 where
  printed : (c : List ℕ) → c ++ filter_text f ≡ c ++ line_of (filter_words f)
  are : AreWords (filter_words f)
  faultless : first_kind (faults_in filter_row (filter_words f)) ≡ None
  asks : filter_of (filter_words f) ≡ Ok f

filter_read : (f : BindingFilter) → IsFilter f → IsFilterRead f
unfolding filter_of
filter_read f is =
    let resource = name_part resource_named resource_name slot.Resource resource_known (λ word. refl) f.resource in
    let name = name_text_part f.name is.name in
    let pattern = pattern_part f.pattern in
    let principal = principal_part f.principal is.principal in
    let host = host_part f.host is.host in
    let operation = name_part operation_named operation_name slot.Operation operation_known (λ word. refl) f.operation in
    let permission = name_part permission_named permission_name slot.Permission permission_known (λ word. refl) f.permission in
    let a = resource.reads in
    let b = name.reads in
    let d = pattern.reads in
    let e = principal.reads in
    let g = host.reads in
    let h = operation.reads in
    let k = permission.reads in
    record {
      printed = λ c. grouped c (resource_text f.resource) (or_dash asked_text f.name) (pattern_text f.pattern) (or_dash spaced f.principal)
          (or_dash asked_text f.host) (operation_text f.operation) (permission_text f.permission)
          ∙ printed_by c resource.printed name.printed pattern.printed principal.printed host.printed operation.printed permission.printed;
      are = (resource.is, (name.is, (pattern.is, (principal.is, (host.is, (operation.is, (permission.is, tt)))))));
      faultless = fine (faults_in filter_row (filter_words f))
          (resource.faultless, (name.faultless, (no_fault _ f.pattern pattern.reads, (principal.faultless, (host.faultless, (operation.faultless, (permission.faultless, tt)))))));
      asks = rw (a, d, h, k, b, e, g) refl;
    }

pub describe_acls : (d : DescribeAcls) → IsFilter d.filter → IsAsked (ask.DescribeAcls d)
unfolding request_of
describe_acls d is =
    let it = filter_read d.filter is in
    record {
      name = codes "describe-acls";
      command = command.DescribeAcls;
      words = filter_words d.filter;
      printed = it.printed (codes " describe-acls");
      are = (plain_is_word (codes "describe-acls") refl refl refl, it.are);
      no_options = refl;
      named = refl;
      faultless = it.faultless;
      asks = ap (λ (read : Result BindingFilter FaultKind). read >>= λ filter. Ok (ask.DescribeAcls (record { filter = filter }))) it.asks;
    }

pub delete_acls : (d : DeleteAcls) → IsFilter d.filter → IsAsked (ask.DeleteAcls d)
unfolding request_of
delete_acls d is =
    let it = filter_read d.filter is in
    record {
      name = codes "delete-acls";
      command = command.DeleteAcls;
      words = filter_words d.filter;
      printed = it.printed (codes " delete-acls");
      are = (plain_is_word (codes "delete-acls") refl refl refl, it.are);
      no_options = refl;
      named = refl;
      faultless = it.faultless;
      asks = ap (λ (read : Result BindingFilter FaultKind). read >>= λ filter. Ok (ask.DeleteAcls (record { filter = filter }))) it.asks;
    }
