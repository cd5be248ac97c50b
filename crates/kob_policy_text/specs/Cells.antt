-- The cells of a row that commas separate (RFC 4180, section 2). A cell in double quotes may have
-- commas, and a quote is written twice there; a row is one line, so that a quote that does not end
-- on it is a fault, as is one within a cell that does not begin with it.
use Rattle.std.specs.Prelude.{ℕ, List, [], ◌∷◌, ◌++◌, Result, Ok, Err, if◌then◌else◌, ◌==◌}
use Rattle.kob_script.specs.declared.fault.FaultKind.{FaultKind}
use Rattle.kob_script.specs.declared.fault.FaultKind.TheVariants.{BadLine}
use Rattle.kob_policy_text.specs.declared.cells.Spot.{Spot}
use Rattle.kob_policy_text.specs.declared.cells.Spot.TheVariants.{Begin, Bare, Quoted, Behind, Misquoted}

-- the cells that ended, and the one that began
pub record Cells : Type 0 where
  pub ended : List (List ℕ)
  pub cell : List ℕ
  pub spot : Spot

abbrev pub no_cells : Cells
no_cells = record { ended = []; cell = []; spot = Begin }

abbrev pub with_end : Cells → Cells
with_end cells = record { ended = cells.ended ++ cells.cell ∷ []; cell = []; spot = Begin }

abbrev pub with_byte : Cells → Spot → ℕ → Cells
with_byte cells spot byte =
    record { ended = cells.ended; cell = cells.cell ++ byte ∷ []; spot = spot }

abbrev pub at_spot : Cells → Spot → Cells
at_spot cells spot = record cells { spot = spot }

abbrev pub first_byte : Cells → ℕ → Cells
first_byte cells byte =
    if byte == 44 then with_end cells
    else (if byte == 34 then at_spot cells Quoted else with_byte cells Bare byte)

abbrev pub bare_byte : Cells → ℕ → Cells
bare_byte cells byte =
    if byte == 44 then with_end cells
    else (if byte == 34 then at_spot cells Misquoted else with_byte cells Bare byte)

abbrev pub quoted_byte : Cells → ℕ → Cells
quoted_byte cells byte =
    if byte == 34 then at_spot cells Behind else with_byte cells Quoted byte

-- behind a quote, which ends the quoted text or is the first of two
abbrev pub behind_byte : Cells → ℕ → Cells
behind_byte cells byte =
    if byte == 44 then with_end cells
    else (if byte == 34 then with_byte cells Quoted byte else at_spot cells Misquoted)

abbrev pub byte_by : Spot → Cells → ℕ → Cells
byte_by Begin cells byte = first_byte cells byte
byte_by Bare cells byte = bare_byte cells byte
byte_by Quoted cells byte = quoted_byte cells byte
byte_by Behind cells byte = behind_byte cells byte
byte_by Misquoted cells byte = cells

unfoldable pub with_cell_byte : Cells → ℕ → Cells
with_cell_byte cells byte = byte_by cells.spot cells byte

unfoldable pub read_cells : Cells → List ℕ → Cells
read_cells cells [] = cells
read_cells cells (byte ∷ bytes) = read_cells (with_cell_byte cells byte) bytes

abbrev pub all_cells : Cells → List (List ℕ)
all_cells cells = cells.ended ++ cells.cell ∷ []

abbrev pub cells_by : Spot → Cells → Result (List (List ℕ)) FaultKind
cells_by Begin cells = Ok (all_cells cells)
cells_by Bare cells = Ok (all_cells cells)
cells_by Behind cells = Ok (all_cells cells)
cells_by Quoted cells = Err BadLine
cells_by Misquoted cells = Err BadLine

unfoldable pub cells_in : List ℕ → Result (List (List ℕ)) FaultKind
cells_in line = cells_by (read_cells no_cells line).spot (read_cells no_cells line)
