-- What is remarked below the list of an answer, behind four blanks: that nothing is on it, that no
-- pattern takes the name that was asked for, or that no binding names who was asked about.
use Rattle.std.specs.Prelude.{ℕ, Bool, true, false, List, [], ◌∷◌, ◌++◌, Option, Some, None, codes, if◌then◌else◌}
use Rattle.kob_policy_text.specs.AtHand.{names_named}
use Rattle.kob_policy_text.specs.Hints.{is_name_taken, is_named, told_text}
use Rattle.kob_policy_text.specs.Nearest.{nearest_of}
use Rattle.kob_policy_text.specs.Policy.{Policy}
use Rattle.kob_policy_text.specs.declared.question.Right.{Right}

abbrev pub has_none : List ℕ → Bool
has_none [] = true
has_none (first ∷ rest) = false

abbrev pub none_text : Bool → List ℕ
none_text true = codes "    none\n"
none_text false = []

-- a list, or that nothing is on it
abbrev pub or_none : List ℕ → List ℕ
or_none text = text ++ none_text (has_none text)

abbrev pub nearest_text : Option (List ℕ) → List ℕ
nearest_text None = []
nearest_text (Some name) = told_text (codes "    the nearest name is ") name

-- no pattern takes the name of the right; the name of a pattern on such resources may be meant
abbrev pub no_taker_text : Policy → Right → List ℕ
no_taker_text policy right =
    told_text (codes "    no pattern takes ") right.name
    ++ nearest_text (nearest_of right.name (names_named right.resource policy.bindings))

-- below the answers from one host, of which there is always one
abbrev pub taking_text : Policy → Right → List ℕ
taking_text policy right =
    if is_name_taken policy right.resource right.name then [] else no_taker_text policy right

-- a list of who may do this
abbrev pub on_right : Policy → Right → List ℕ → List ℕ
on_right policy right text =
    if is_name_taken policy right.resource right.name then or_none text
    else (text ++ no_taker_text policy right)

abbrev pub no_binding_text : List ℕ → List ℕ
no_binding_text principal = told_text (codes "    no binding names ") principal

-- a list of what a principal may do
abbrev pub of_principal : Policy → List ℕ → List ℕ → List ℕ
of_principal policy principal text =
    if is_named policy principal then or_none text else (text ++ no_binding_text principal)

-- below a list that stands on one line, and may have nothing on it
abbrev pub below_line : Policy → List ℕ → Bool → List ℕ
below_line policy principal is_empty =
    if is_named policy principal then none_text is_empty
    else (if is_empty then no_binding_text principal else [])
