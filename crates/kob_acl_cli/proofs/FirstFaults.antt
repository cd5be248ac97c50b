-- The first fault that stands is answered.
use Rattle.std.specs.Prelude.{alloc_error}
use Rattle.std.proofs.Common.{◌≡◌, ◌+◌, ◌<◌, ℕ, Bool, true, List, [], ◌∷◌, ◌++◌, length, get_or, take, drop, filter, sym, inl, inr, refl}
use Rattle.std.proofs.lemmas.List.{take-append-drop, drop_more}
use Rattle.std.proofs.lemmas.List.Elements.{filter-append}
use Rattle.kob_acl_cli.specs.Commands.{faults, IsFirstFault, bad_names, misread_words}
use Rattle.kob_acl_cli.specs.Mixes.{has_one_action, refusals}
use Rattle.kob_acl_cli.specs.declared.args.CliArgs.{CliArgs}
use Rattle.kob_acl_cli.specs.declared.fault.CommandFault.{CommandFault}
use Rattle.kob_acl_cli.specs.declared.fault.CommandFault.TheVariants.{BadName, Memory}

pub first_or_memory : (faults : List CommandFault) (fault : CommandFault) → fault ≡ Memory alloc_error → IsFirstFault faults fault
first_or_memory [] fault is = is
first_or_memory (first ∷ others) fault is = inr is

-- faults after the first that stands change nothing
pub first_before : (faults others : List CommandFault) (fault : CommandFault) → IsFirstFault faults fault
    → IsFirstFault (faults ++ others) fault
first_before [] others fault first_is = first_or_memory others fault first_is
first_before (first ∷ more) others fault first_is = first_is

-- the same of words
pub first_before_words : (words others : List (List ℕ)) (fault : CommandFault) → IsFirstFault (bad_names words) fault
    → IsFirstFault (bad_names (words ++ others)) fault
first_before_words [] others fault first_is = first_or_memory (bad_names others) fault first_is
first_before_words (first ∷ more) others fault first_is = first_is

-- words that were read stand before the one that was not
first_at : (test : List ℕ → Bool) (words : List (List ℕ)) (i : ℕ) (d : List ℕ) (fault : CommandFault)
    → filter test (take i words) ≡ [] → i < length words
    → IsFirstFault (bad_names (filter test (get_or words i d ∷ []))) fault
    → IsFirstFault (bad_names (filter test words)) fault
first_at test words i d fault before below first_is =
    rw (
      sym (take-append-drop i words),
      filter-append test (take i words) (drop i words),
      before,
      drop_more words i d below,
      filter-append test (get_or words i d ∷ []) (drop (i + 1) words),
    )
    (first_before_words (filter test (get_or words i d ∷ [])) (filter test (drop (i + 1) words)) fault first_is)

-- the same of a word that is not read
pub first_misread : (test : List ℕ → Bool) (words : List (List ℕ)) (i : ℕ) (word copy : List ℕ)
    → filter test (take i words) ≡ [] → i < length words → word ≡ get_or words i word → test word ≡ true
    → copy ≡ word → IsFirstFault (bad_names (filter test words)) (BadName copy)
first_misread test words i word copy before below is misread copied =
    first_at test words i word (BadName copy) before below (rw (sym is, misread, copied) (inl refl))

-- with one action, the words are looked at first
pub first_of_words : (args : CliArgs) (fault : CommandFault) → has_one_action args ≡ true
    → IsFirstFault (bad_names (misread_words args)) fault → IsFirstFault (faults args) fault
first_of_words args fault one first_is =
    rw one (first_before (bad_names (misread_words args)) (refusals args) fault first_is)
