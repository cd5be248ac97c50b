-- Words that are printed after spaces are the words of their line.
use Rattle.kob_scene_text.proofs.Words.{Bool, List, Ok, Option, Result, Some, Word, [], ap, arith, codes, false, flat_map, length, map, nat_lt, nat_tests, refl, true, words_of, ℕ, ◌++◌, ◌==◌, ◌>>=◌, ◌∙◌, ◌∷◌, ◌≡◌}
use Rattle.std.proofs.Common.{filter, not, ok_or, ◌<◌}
use Rattle.std.proofs.lemmas.List.Splits.{slice_split-cons_no}
use Rattle.std.specs.List.{list_all, onto_first, slice_split}
use Rattle.kob_script.specs.Words.{each, is_blank, is_skipped, raw_words, word_of}
use Rattle.kob_script.specs.declared.fault.FaultKind.{FaultKind}
use Rattle.kob_script.specs.declared.fault.FaultKind.TheVariants.{BadEscape}
use Rattle.kob_words.proofs.Choices.{both, chosen_false, chosen_true}
use Rattle.kob_words.specs.Words.{unescaped}

abbrev pub no_blank : ℕ → Bool
no_blank byte = not (is_blank byte)

-- a word that is read as it stands
pub record IsWord (word : Word) : Type 0 where
  pub some : 0 < length word.raw
  pub whole : list_all no_blank word.raw ≡ true
  pub stands : unescaped word.raw ≡ Some word.decoded

abbrev pub AreWords : List Word → Type 0
AreWords [] = Unit {0}
AreWords (word ∷ words) = IsWord word × AreWords words

abbrev pub raw_of : Word → List ℕ
raw_of word = word.raw

-- each word after a space
abbrev pub line_of : List Word → List ℕ
line_of words = flat_map (λ word. codes " " ++ word.raw) words

is_false : (b : Bool) → not b ≡ true → b ≡ false
is_false true e = absurd cc
is_false false e = refl

split_word : (raw rest : List ℕ) (parts : List (List ℕ)) → list_all no_blank raw ≡ true
    → slice_split is_blank rest ≡ [] ∷ parts → slice_split is_blank (raw ++ rest) ≡ raw ∷ parts
split_word [] rest parts whole split = split
split_word (byte ∷ raw) rest parts whole split =
    let (here, more) = both (no_blank byte) (list_all no_blank raw) whole in
    slice_split-cons_no is_blank byte (raw ++ rest) (is_false (is_blank byte) here)
    ∙ ap (onto_first byte) (split_word raw rest parts more split)

split_words : (words : List Word) → AreWords words → slice_split is_blank (line_of words) ≡ [] ∷ map raw_of words
split_words [] are = refl
split_words (word ∷ words) are =
    ap (λ parts. [] ∷ parts) (split_word word.raw (line_of words) (map raw_of words) are.0.whole (split_words words are.1))

all_kept : (words : List Word) → AreWords words
    → filter (λ word. nat_lt 0 (length word)) (map raw_of words) ≡ map raw_of words
all_kept [] are = refl
all_kept (word ∷ words) are =
    let some = are.0.some in
    let long : nat_lt 0 (length word.raw) ≡ true = grind (arith, nat_tests) in
    let others = filter (λ raw. nat_lt 0 (length raw)) (map raw_of words) in
    chosen_true (nat_lt 0 (length word.raw)) (word.raw ∷ others) others long
    ∙ ap (λ raws. word.raw ∷ raws) (all_kept words are.1)

raw_words_are : (words : List Word) → AreWords words → raw_words (line_of words) ≡ map raw_of words
raw_words_are words are = ap (filter (λ word. nat_lt 0 (length word))) (split_words words are) ∙ all_kept words are

word_read : (raw bytes : List ℕ) → unescaped raw ≡ Some bytes → word_of raw ≡ Ok (record { raw = raw; decoded = bytes })
word_read raw bytes stands =
    ap (λ (read : Option (List ℕ)). ok_or {E = FaultKind} read BadEscape >>= λ found. Ok (record { raw = raw; decoded = found }))
    stands

-- one word, and then the others
abbrev with_others : Result Word FaultKind → Result (List Word) FaultKind → Result (List Word) FaultKind
with_others one read = one >>= λ first. read >>= λ others. Ok (first ∷ others)

each_word : (words : List Word) → AreWords words → each word_of (map raw_of words) ≡ Ok words
unfolding each
each_word [] are = refl
each_word (word ∷ words) are =
    ap (λ one. with_others one (each word_of (map raw_of words))) (word_read word.raw word.decoded are.0.stands)
    ∙ ap (with_others (Ok word)) (each_word words are.1)

skipped : (first : ℕ) (raw rest : List ℕ) → is_blank first ≡ false → (first == 35) ≡ false
    → is_skipped (codes " " ++ (first ∷ raw) ++ rest) ≡ false
skipped first raw rest letter other = grind (arith, nat_tests)

-- a line of such words, the first of which does not begin a comment
pub words_read : (first : ℕ) (raw : List ℕ) (word : Word) (words : List Word) → word.raw ≡ first ∷ raw
    → is_blank first ≡ false → (first == 35) ≡ false → AreWords (word ∷ words)
    → words_of (line_of (word ∷ words)) ≡ Ok (word ∷ words)
words_read first raw word words is letter other are =
    chosen_false (is_skipped (line_of (word ∷ words))) (Ok []) (each word_of (raw_words (line_of (word ∷ words))))
    (ap (λ front. is_skipped (codes " " ++ front ++ line_of words)) is ∙ skipped first raw (line_of words) letter other)
    ∙ ap (each word_of) (raw_words_are (word ∷ words) are) ∙ each_word (word ∷ words) are
