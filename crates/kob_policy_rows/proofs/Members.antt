-- The members of an object, one after another.
use Rattle.std.proofs.Common.{List, [], append-nil, append_assoc, arith, drop, drop_of_length-le, flat_map, get_or, length, refl, ℕ, ◌++◌, ◌+◌, ◌<◌, ◌≡◌, ◌≤◌, ◌∷◌}
use Rattle.std.proofs.lemmas.Bool.Decides.{nat_tests}
use Rattle.std.proofs.lemmas.List.{drop_more}
use Rattle.std.specs.List.{zip}
use Rattle.json.specs.Token.{Token}
use Rattle.kob_policy_rows.specs.Json.{member_tokens}
use Rattle.kob_policy_rows.specs.declared.cell.Cell.{Cell}
use Rattle.kob_policy_rows.specs.declared.columns.Column.{Column}

abbrev members : List Column → List Cell → List Token
members columns cells = flat_map member_tokens (zip columns cells)

no_cells : (columns : List Column) → members columns [] ≡ []
no_cells [] = refl
no_cells (column ∷ columns) = refl

-- the first of the columns that are left stands behind, with the first of the cells
pub members_more : (columns : List Column) (i : ℕ) (d column : Column) (cells others : List Cell) (cell : Cell)
    (old new whole : List Token)
    → old ++ members (drop i columns) cells ≡ whole → i < length columns → column ≡ get_or columns i d
    → cells ≡ cell ∷ others → new ≡ old ++ member_tokens (column, cell)
    → new ++ members (drop (i + 1) columns) others ≡ whole
members_more columns i d column cells others cell old new whole kept below is split more =
    grind (arith, nat_tests, drop_more, append_assoc)

pub members_none : (columns : List Column) (cells : List Cell) (old whole : List Token)
    → old ++ members columns cells ≡ whole → cells ≡ [] → old ≡ whole
members_none columns cells old whole kept none = grind (arith, no_cells, append-nil)

pub members_all : (columns : List Column) (i : ℕ) (cells : List Cell) (old whole : List Token)
    → old ++ members (drop i columns) cells ≡ whole → length columns ≤ i → old ≡ whole
members_all columns i cells old whole kept past = grind (arith, nat_tests, drop_of_length-le, append-nil)
