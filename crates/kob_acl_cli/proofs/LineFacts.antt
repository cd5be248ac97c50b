-- What clap says of a parse, said of the lines of this command.
use Rattle.std.proofs.Common.{◌≡◌, ◌∙◌, ◌+◌, ◌<◌, ℕ, Bool, true, false, List, [], ◌∷◌, ◌++◌, length, get_or, take, codes, Option, Some, None, sym, ap, ap₂, refl, subst, inl, inr}
use Rattle.std.specs.Borrow.{Bor}
use Rattle.std.proofs.lemmas.List.{map_more}
use Rattle.clap.specs.Kinds.{HasKind, IsAmong, Kinds}
use Rattle.clap.specs.Values.{kind_of}
use Rattle.clap.specs.declared.error.Error.{Error}
use Rattle.clap.specs.declared.error.kind.ErrorKind.TheVariants.{OutOfMemory}
use Rattle.clap.specs.Words.{App, HasMatchesOf, Rule, fault_of, found_of, is_simple, is_simple_and_free, matches_of, rows_of, takes, with_rule}
use Rattle.clap.specs.declared.builder.action.ArgAction.{ArgAction}
use Rattle.clap.specs.declared.parser.matches.ArgMatches.{ArgMatches}
use Rattle.clap.proofs.OnLiterals.{clap_on_literals}
use Rattle.kob_acl_cli.specs.Lines.{IsFlagBy, is_taken, line_app, option, refusals, rows_of_line, texts, with_options}

line_is_simple : is_simple line_app ≡ true
unfolding clap_on_literals
line_is_simple = refl

line_is_free : is_simple_and_free line_app ≡ true
unfolding clap_on_literals
line_is_free = refl

-- what was found is what clap reads of the line
pub found_rows : (app : App) (words : List (List ℕ)) (m : ArgMatches) → app ≡ line_app → HasMatchesOf app words m
    → rows_of (found_of m) ≡ rows_of_line words
unfolding rows_of_line
found_rows app words m is has = (has (ap is_simple is ∙ line_is_simple)).0 ∙ ap (λ a. matches_of a words) is

-- a line that was read has no refusal
pub no_refusals : (app : App) (words : List (List ℕ)) → app ≡ line_app
    → (is_simple_and_free app ≡ true → fault_of app words ≡ []) → refusals words ≡ []
unfolding refusals
no_refusals app words is none = sym (ap (λ a. fault_of a words) is) ∙ none (ap is_simple_and_free is ∙ line_is_free)

-- an error of another kind than want of memory comes only where there are refusals
other_kind : (kinds : Kinds) (e : Error) → HasKind kinds e → (kind_of e ≡ OutOfMemory → ⊥) → kinds ≡ [] → ⊥
other_kind kinds e (inl memory) other none = other memory
other_kind kinds e (inr among) other none = subst (λ ks. IsAmong (kind_of e) ks) none among

pub refused_by : (app : App) (words : List (List ℕ)) (e : Error) → app ≡ line_app
    → (is_simple_and_free app ≡ true → HasKind (fault_of app words) e)
    → (kind_of e ≡ OutOfMemory → ⊥) → refusals words ≡ [] → ⊥
unfolding refusals
refused_by app words e is kinds other none =
    other_kind (fault_of app words) e (kinds (ap is_simple_and_free is ∙ line_is_free)) other
    (ap (λ a. fault_of a words) is ∙ none)

-- a line that clap takes is one that this command takes
pub taken_by : (app : App) (words : List (List ℕ)) → app ≡ line_app → is_taken words ≡ true → takes app words ≡ true
unfolding is_taken
taken_by app words is taken = ap (λ a. takes a words) is ∙ taken

folded : (action : ArgAction) (app : App) (names : List (List ℕ)) (name : List ℕ)
    → with_options action app (names ++ name ∷ []) ≡ with_rule (with_options action app names) (option action name)
folded action app [] name = refl
folded action app (first ∷ others) name = folded action (with_rule app (option action first)) others name

-- one option more
pub options_more : (action : ArgAction) (app : App) (names : List (Bor (List ℕ))) (i : ℕ) (d : Bor (List ℕ))
    (grown next : App) (rule : Rule) → i < length names
    → grown ≡ with_options action app (texts (take i names)) → next ≡ with_rule grown rule
    → rule ≡ option action (get_or names i d).now
    → next ≡ with_options action app (texts (take (i + 1) names))
options_more action app names i d grown next rule below before added is =
    added ∙ ap₂ with_rule before is
    ∙ sym (ap (with_options action app) (map_more (λ (name : Bor (List ℕ)). name.now) names i d below)
    ∙ folded action app (texts (take i names)) (get_or names i d).now)

-- a flag by the text that clap has of it
pub flag_by : (text found : Option (List ℕ)) (flag : Bool) → found ≡ text → (found ≡ None → flag ≡ false)
    → (found ≡ Some (codes "true") → flag ≡ true)
    → (found ≡ Some (codes "false") → flag ≡ false) → IsFlagBy text flag
flag_by None found flag same none given other = none same
flag_by (Some text) found flag same none given other =
    (λ is. given (same ∙ ap Some is), λ is. other (same ∙ ap Some is))
