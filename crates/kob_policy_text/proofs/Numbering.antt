-- Bytes are read one by one into units and objects, and lines one by one with their numbers.
use Rattle.std.proofs.Common.{Some}
use Rattle.kob_policy_text.proofs.Words.{Bool, List, None, Option, [], ◌∷◌, append_assoc, arith, drop, drop_more, drop_of_length-le, false, get_or, length, nat_tests, refl, sym, true, ℕ, ◌++◌, ◌+◌, ◌<◌, ◌≡◌, ◌≤◌}
use Rattle.std.specs.Option.{option_to_list}
use Rattle.kob_policy_text.specs.Encoding.{Units, read_units, with_unit_byte}
use Rattle.kob_policy_text.specs.Joined.{Numbered, is_continued, joined, joined_from, without_last}
use Rattle.kob_policy_text.specs.Objects.{Objects, no_objects, objects_by, objects_in, read_bytes, read_line, read_lines, with_object_byte}

pub units_read : (low : Bool) (units next whole : Units) (bytes : List ℕ) (i d byte : ℕ)
    → read_units low units (drop i bytes) ≡ whole → i < length bytes → byte ≡ get_or bytes i d
    → next ≡ with_unit_byte low units byte → read_units low next (drop (i + 1) bytes) ≡ whole
unfolding read_units
units_read low units next whole bytes i d byte kept below is more = grind (arith, nat_tests, drop_more)

pub units_end : (low : Bool) (units whole : Units) (bytes : List ℕ) (i : ℕ)
    → read_units low units (drop i bytes) ≡ whole → length bytes ≤ i → units ≡ whole
unfolding read_units
units_end low units whole bytes i kept past = grind (arith, nat_tests, drop_of_length-le)

pub bytes_read : (objects next whole : Objects) (line : ℕ) (bytes : List ℕ) (i d byte : ℕ)
    → read_bytes objects line (drop i bytes) ≡ whole → i < length bytes → byte ≡ get_or bytes i d
    → next ≡ with_object_byte objects line byte → read_bytes next line (drop (i + 1) bytes) ≡ whole
unfolding read_bytes
bytes_read objects next whole line bytes i d byte kept below is more = grind (arith, nat_tests, drop_more)

pub bytes_end : (objects whole : Objects) (line : ℕ) (bytes : List ℕ) (i : ℕ)
    → read_bytes objects line (drop i bytes) ≡ whole → length bytes ≤ i → objects ≡ whole
unfolding read_bytes
bytes_end objects whole line bytes i kept past = grind (arith, nat_tests, drop_of_length-le)

pub lines_read : (objects next whole : Objects) (number : ℕ) (rest more : List (List ℕ)) (line : List ℕ)
    → read_lines objects number rest ≡ whole → rest ≡ line ∷ more → next ≡ read_line objects number line
    → read_lines next (number + 1) more ≡ whole
unfolding read_lines
lines_read objects next whole number rest more line kept split is = grind (arith, nat_tests)

pub lines_over : (objects whole : Objects) (number : ℕ) (rest : List (List ℕ))
    → read_lines objects number rest ≡ whole → rest ≡ [] → objects ≡ whole
unfolding read_lines
lines_over objects whole number rest kept none = grind (arith, nat_tests)

pub objects_end : (objects : Objects) (number : ℕ) (rest lines : List (List ℕ))
    → read_lines objects number rest ≡ read_lines no_objects 1 lines → rest ≡ []
    → objects_in lines ≡ objects_by objects.stage objects
unfolding objects_in
objects_end objects number rest lines kept none = rw (sym (lines_over objects _ number rest kept none)) refl

pub joins_on : (out whole : List Numbered) (held : Option Numbered) (number : ℕ) (rest more : List (List ℕ))
    (line : List ℕ)
    (made : Numbered)
    → out ++ joined_from held number rest ≡ whole → rest ≡ line ∷ more → made ≡ joined held number line
    → is_continued made.text ≡ true
    → out ++ joined_from (Some (without_last made)) (number + 1) more ≡ whole
unfolding joined_from
joins_on out whole held number rest more line made kept split is goes = grind (arith, nat_tests)

pub joins_none : (out new whole : List Numbered) (held : Option Numbered) (number : ℕ) (rest more : List (List ℕ))
    (line : List ℕ)
    (made : Numbered)
    → out ++ joined_from held number rest ≡ whole → rest ≡ line ∷ more → made ≡ joined held number line
    → is_continued made.text ≡ false → new ≡ out ++ made ∷ []
    → new ++ joined_from None (number + 1) more ≡ whole
unfolding joined_from
joins_none out new whole held number rest more line made kept split is ends gives =
    grind (arith, nat_tests, append_assoc)

pub joins_end : (out whole : List Numbered) (held : Option Numbered) (number : ℕ) (rest : List (List ℕ))
    → out ++ joined_from held number rest ≡ whole → rest ≡ [] → out ++ option_to_list held ≡ whole
unfolding joined_from
joins_end out whole held number rest kept none = grind (arith, nat_tests)
