-- The rows of what changes, of what is left out and of faults.
use Rattle.std.specs.Prelude.{ℕ, Bool, true, false, List, [], ◌∷◌, ◌++◌, codes, flat_map, map, if◌then◌else◌}
use Rattle.kob_authorizer.specs.Decide.{is_super}
use Rattle.kob_policy_review.specs.Difference.{changes_of}
use Rattle.kob_policy_review.specs.declared.class.Class.{Class}
use Rattle.kob_policy_review.specs.declared.difference.Change.{Change}
use Rattle.kob_policy_review.specs.declared.difference.Outcome.{Outcome}
use Rattle.kob_policy_review.specs.declared.difference.Outcome.TheVariants.{Gained, Lost, Same}
use Rattle.kob_policy_rows.specs.Cells.{party_name, target_cells}
use Rattle.kob_policy_rows.specs.declared.cell.Cell.{Cell}
use Rattle.kob_policy_rows.specs.declared.cell.Cell.TheVariants.{Flag, Nothing, Number, Words}
use Rattle.kob_policy_text.specs.Answers.{left_out_word}
use Rattle.kob_policy_text.specs.Policy.{Policy, contents_of}
use Rattle.kob_policy_text.specs.declared.origin.Omission.{Omission}
use Rattle.kob_words.specs.Words.{operation_name}

-- a super user on one side alone
unfoldable pub super_row : List ℕ → List ℕ → List Cell
super_row what user =
    Words (codes "super") ∷ Words user ∷ Nothing ∷ Nothing ∷ Nothing ∷ Nothing ∷ Nothing
    ∷ Words what ∷ []

abbrev pub super_rows : List ℕ → List (List ℕ) → List ℕ → List (List Cell)
super_rows what others user = if is_super others user then [] else super_row what user ∷ []

abbrev pub supers_rows : Policy → Policy → List (List Cell)
supers_rows before after =
    flat_map (super_rows (codes "removed") after.supers) before.supers
    ++ flat_map (super_rows (codes "added") before.supers) after.supers

-- whether everyone is let in where no binding matches
unfoldable pub everyone_row : List ℕ → List Cell
everyone_row what =
    Words (codes "everyone") ∷ Nothing ∷ Nothing ∷ Nothing ∷ Nothing ∷ Nothing ∷ Nothing
    ∷ Words what ∷ []

abbrev pub everyone_rows : Bool → Bool → List (List Cell)
everyone_rows false true = everyone_row (codes "on") ∷ []
everyone_rows true false = everyone_row (codes "off") ∷ []
everyone_rows before after = []

abbrev pub outcome_word : Outcome → List ℕ
outcome_word Gained = codes "gained"
outcome_word Lost = codes "lost"
outcome_word Same = codes "unchanged"

-- who asks, from where, for what
abbrev pub class_cells : Class → List Cell
class_cells class =
    Words (party_name (codes "User:*") class.principal) ∷ Words (party_name (codes "*") class.host)
    ∷ Words (operation_name class.operation) ∷ target_cells class.target

unfoldable pub change_row : Change → List Cell
change_row change =
    Words (codes "answer") ∷ (class_cells change.class ++ Words (outcome_word change.outcome) ∷ [])

-- super users, who is let in where no binding matches, and each answer
abbrev pub change_rows : Policy → Policy → List (List Cell)
change_rows before after =
    supers_rows before after ++ everyone_rows before.everyone after.everyone
    ++ map change_row (changes_of (contents_of before) (contents_of after))

unfoldable pub omission_row : Omission → List Cell
omission_row omission =
    Words (codes "left-out") ∷ Words omission.origin.file ∷ Number omission.origin.line
    ∷ Words (left_out_word omission.what) ∷ Flag omission.denies ∷ []

-- what is wrong with a text, by the word for it
unfoldable pub fault_row : List ℕ → ℕ → List ℕ → List Cell
fault_row file line fault =
    Words (codes "fault") ∷ Words file ∷ Number line ∷ Words fault ∷ []
