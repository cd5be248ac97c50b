-- The bytes of a line are read one by one, and the words of options passed on one by one.
use Rattle.kob_policy_text.proofs.Words.{Bor, List, [], ◌∷◌, true, append_assoc, append-nil, ap, arith, drop, drop_more, drop_of_length-le, get_or, held_at, length, nat_tests, next_place, no_cells, no_words, refl, sym, texts, with_cell_byte, with_shell_byte, ℕ, ◌++◌, ◌+◌, ◌<◌, ◌≡◌, ◌≤◌}
use Rattle.kob_policy_text.specs.Lines.{is_for_other_kind}
use Rattle.kob_policy_text.specs.Options.{held_options}
use Rattle.kob_script.specs.Words.{Word}
use Rattle.kob_policy_text.specs.Cells.{Cells, cells_by, cells_in, read_cells}
use Rattle.kob_policy_text.specs.Joined.{quoting_after}
use Rattle.kob_policy_text.specs.Shell.{Words, read_on, shell_words, words_by}
use Rattle.kob_policy_text.specs.declared.options.Place.{Place}

pub reads_more : (words next whole : Words) (bytes : List ℕ) (i d byte : ℕ)
    → read_on words (drop i bytes) ≡ whole → i < length bytes → byte ≡ get_or bytes i d
    → next ≡ with_shell_byte words byte → read_on next (drop (i + 1) bytes) ≡ whole
unfolding read_on
reads_more words next whole bytes i d byte kept below is more = grind (arith, nat_tests, drop_more)

pub reads_all : (words whole : Words) (bytes : List ℕ) (i : ℕ)
    → read_on words (drop i bytes) ≡ whole → length bytes ≤ i → words ≡ whole
unfolding read_on
reads_all words whole bytes i kept past = grind (arith, nat_tests, drop_of_length-le)

pub words_end : (words : Words) (line : List ℕ) (i : ℕ)
    → read_on words (drop i line) ≡ read_on no_words line → length line ≤ i
    → shell_words line ≡ words_by words.quoting words
unfolding shell_words
words_end words line i kept past = rw (sym (reads_all words _ line i kept past)) refl

pub quoting_ends : (words : Words) (line : List ℕ) (i : ℕ)
    → read_on words (drop i line) ≡ read_on no_words line → length line ≤ i → words.quoting ≡ quoting_after line
unfolding quoting_after
quoting_ends words line i kept past = ap (λ (w : Words). w.quoting) (reads_all words _ line i kept past)

pub reads_cells : (cells next whole : Cells) (bytes : List ℕ) (i d byte : ℕ)
    → read_cells cells (drop i bytes) ≡ whole → i < length bytes → byte ≡ get_or bytes i d
    → next ≡ with_cell_byte cells byte → read_cells next (drop (i + 1) bytes) ≡ whole
unfolding read_cells
reads_cells cells next whole bytes i d byte kept below is more = grind (arith, nat_tests, drop_more)

all_read : (cells whole : Cells) (bytes : List ℕ) (i : ℕ)
    → read_cells cells (drop i bytes) ≡ whole → length bytes ≤ i → cells ≡ whole
unfolding read_cells
all_read cells whole bytes i kept past = grind (arith, nat_tests, drop_of_length-le)

pub cells_end : (cells : Cells) (line : List ℕ) (i : ℕ)
    → read_cells cells (drop i line) ≡ read_cells no_cells line → length line ≤ i
    → cells_in line ≡ cells_by cells.spot cells
unfolding cells_in
cells_end cells line i kept past = rw (sym (all_read cells _ line i kept past)) refl

pub passes_more : (place : Place) (words : List (Bor (List ℕ))) (i : ℕ) (d word : Bor (List ℕ)) (out new whole : List (List ℕ))
    → out ++ held_options place (texts (drop i words)) ≡ whole → i < length words → word ≡ get_or words i d
    → new ≡ out ++ held_at place word.now
    → new ++ held_options (next_place place word.now) (texts (drop (i + 1) words)) ≡ whole
unfolding held_options
passes_more place words i d word out new whole kept below is more =
    grind (arith, nat_tests, drop_more, append_assoc)

pub passes_all : (place : Place) (words : List (Bor (List ℕ))) (i : ℕ) (out whole : List (List ℕ))
    → out ++ held_options place (texts (drop i words)) ≡ whole → length words ≤ i → out ≡ whole
unfolding held_options
passes_all place words i out whole kept past = grind (arith, nat_tests, drop_of_length-le, append-nil)

-- the words that create a binding for a principal of another kind are five at least
pub has_fifth : (words : List Word) → is_for_other_kind words ≡ true → 4 < length words
has_fifth [] is = grind (arith, nat_tests)
has_fifth (a ∷ []) is = grind (arith, nat_tests)
has_fifth (a ∷ b ∷ []) is = grind (arith, nat_tests)
has_fifth (a ∷ b ∷ c ∷ []) is = grind (arith, nat_tests)
has_fifth (a ∷ b ∷ c ∷ d ∷ []) is = grind (arith, nat_tests)
has_fifth (a ∷ b ∷ c ∷ d ∷ e ∷ rest) is = omega (arith, length rest)
