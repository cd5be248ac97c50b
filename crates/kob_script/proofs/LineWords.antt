-- The words of a line are cut one after another. A word that is cut at a byte, and the seven words of a row.
use Rattle.kob_words.specs.Words.{has_percent, unescaped}
use Rattle.kob_words.proofs.Escapes.{plain_stands}
use Rattle.kob_script.specs.Words.{BadEscape}
use Rattle.kob_script.proofs.Imports.{Err, FaultKind, Ok, Result, is_some, ok_or, word_of, ◌>>=◌, Bool, IsFirstByte, IsFirstByte-value, List, None, Option, Some, Word, [], ap, arith, cut_at, drop, false, get_or, is_byte, length, length-drop, nat_lt, nat_tests, not, option_map, refl, sym, take, take_all, true, ℕ, ◌+◌, ◌-◌, ◌<◌, ◌∙◌, ◌∷◌, ◌≡◌, ◌≤◌}
use Rattle.std.proofs.Common.{cond, filter}
use Rattle.std.specs.Option.{IfSome}
use Rattle.std.proofs.lemmas.List.Splits.{slice_split-cons_yes}
use Rattle.std.specs.List.{position_or_len, slice_split, onto_first, slice_get}
use Rattle.kob_script.specs.Words.{is_blank, raw_words}
use Prim.Native.Nat.{zero, suc}

-- how many bytes are before the first blank
abbrev pub size_of : List ℕ → ℕ
size_of line = position_or_len is_blank line

-- the parts of a line behind its first one
later_parts : List ℕ → List (List ℕ)
later_parts [] = []
later_parts (blank ∷ rest) = slice_split is_blank rest

parts : (line : List ℕ) → slice_split is_blank line ≡ take (size_of line) line ∷ later_parts (drop (size_of line) line)
unfolding later_parts
parts [] = refl
parts (byte ∷ rest) = by (is_blank byte) (parts rest)
  where
    by : (b : Bool) → slice_split is_blank rest ≡ take (size_of rest) rest ∷ later_parts (drop (size_of rest) rest)
        → cond b ([] ∷ slice_split is_blank rest) (onto_first byte (slice_split is_blank rest))
        ≡ take (cond (not b) (1 + size_of rest) 0) (byte ∷ rest) ∷ later_parts (drop (cond (not b) (1 + size_of rest) 0) (byte ∷ rest))
    by true more = refl
    by false more = grind (arith, nat_tests)

behind_part : (line : List ℕ) → raw_words (drop (size_of line) line)
    ≡ filter (λ word. nat_lt 0 (length word)) (later_parts (drop (size_of line) line))
unfolding later_parts
behind_part [] = refl
behind_part (byte ∷ rest) = by (is_blank byte) refl (behind_part rest)
  where
    by : (b : Bool) → is_blank byte ≡ b
        → raw_words (drop (size_of rest) rest) ≡ filter (λ word. nat_lt 0 (length word)) (later_parts (drop (size_of rest) rest))
        → raw_words (drop (cond (not b) (1 + size_of rest) 0) (byte ∷ rest))
        ≡ filter (λ word. nat_lt 0 (length word)) (later_parts (drop (cond (not b) (1 + size_of rest) 0) (byte ∷ rest)))
    by true is more = ap (filter (λ word. nat_lt 0 (length word))) (slice_split-cons_yes is_blank byte rest is)
    by false is more = grind (arith, nat_tests)

-- what begins with no blank begins with a word
pub word_cut : (line : List ℕ) (size : ℕ) → size ≡ size_of line → 0 < size → raw_words line ≡ take size line ∷ raw_words (drop size line)
word_cut line zero is some = absurd (omega (arith, some))
word_cut [] (suc n) is some = absurd cc
word_cut (byte ∷ rest) (suc n) is some = grind (arith, nat_tests, parts (byte ∷ rest), behind_part (byte ∷ rest))

-- what begins with no blank and has no word is empty
pub no_word : (line : List ℕ) → 0 ≡ size_of line → IfSome (slice_get line 0) (λ byte. is_blank byte ≡ false) → raw_words line ≡ []
no_word [] none word = refl
no_word (byte ∷ rest) none word = grind (arith, nat_tests)

pub behind_blank : (line : List ℕ) (byte : ℕ) (rest : List ℕ) → line ≡ byte ∷ rest → is_blank byte ≡ true
    → raw_words rest ≡ raw_words line
behind_blank line byte rest is blank =
    sym (ap raw_words is ∙ ap (filter (λ word. nat_lt 0 (length word))) (slice_split-cons_yes is_blank byte rest blank))

-- a word that is cut at the place of a byte, or has none
module _ (byte : ℕ) (word : List ℕ) where
  cut_by : (found : Option ℕ) → IsFirstByte (is_byte byte) word found
      → option_map (λ (at : ℕ). (take at word, drop (at + 1) word)) found ≡ cut_at byte word
  cut_by found is = ap (option_map (λ (at : ℕ). (take at word, drop (at + 1) word))) (IsFirstByte-value (is_byte byte) word found is)

  pub no_cut : IsFirstByte (is_byte byte) word None → None ≡ cut_at byte word
  no_cut is = cut_by None is

  pub cut_is : (at : ℕ) → IsFirstByte (is_byte byte) word (Some at)
      → Some (take at word, take (length word - (at + 1)) (drop (at + 1) word)) ≡ cut_at byte word
  cut_is at is =
      let behind = take_all (length word - (at + 1)) (drop (at + 1) word) (omega (arith, length-drop (at + 1) word)) in
      ap (λ (back : List ℕ). Some (take at word, back)) behind ∙ cut_by (Some at) is

-- seven words, each known by its index
pub seven : (words : List Word) (a b c d e f g : Word) → 7 ≤ length words → length words < 8 → a ≡ get_or words 0 a
    → b ≡ get_or words 1 b → c ≡ get_or words 2 c → d ≡ get_or words 3 d → e ≡ get_or words 4 e → f ≡ get_or words 5 f
    → g ≡ get_or words 6 g → words ≡ a ∷ b ∷ c ∷ d ∷ e ∷ f ∷ g ∷ []
seven (a' ∷ b' ∷ c' ∷ d' ∷ e' ∷ f' ∷ g' ∷ []) a b c d e f g many few is0 is1 is2 is3 is4 is5 is6 =
    rw (is0, is1, is2, is3, is4, is5, is6) refl
seven (a' ∷ b' ∷ c' ∷ d' ∷ e' ∷ f' ∷ g' ∷ h ∷ more) a b c d e f g many few is0 is1 is2 is3 is4 is5 is6 =
    absurd (omega (arith, few))
seven _ a b c d e f g many few is0 is1 is2 is3 is4 is5 is6 = absurd (omega (arith, many))

abbrev word_by : List ℕ → Option (List ℕ) → Result Word FaultKind
word_by raw read = ok_or read BadEscape >>= λ bytes. Ok (record { raw = raw; decoded = bytes })

-- a word is read if its escapes are whole
pub torn_word : (raw : List ℕ) → is_some (unescaped raw) ≡ false → word_of raw ≡ Err BadEscape
torn_word raw torn = by (unescaped raw) torn
  where
    by : (read : Option (List ℕ)) → is_some read ≡ false → word_by raw read ≡ Err BadEscape
    by None torn = refl
    by (Some bytes) torn = absurd cc

pub whole_word : (raw : List ℕ) → is_some (unescaped raw) ≡ true → (word : Word) × (word_of raw ≡ Ok word)
whole_word raw whole = by (unescaped raw) whole
  where
    by : (read : Option (List ℕ)) → is_some read ≡ true
        → (word : Word) × (word_by raw read ≡ Ok word)
    by (Some bytes) whole = (record { raw = raw; decoded = bytes }, refl)
    by None whole = absurd cc

-- a word without a percent sign stands for itself
pub plain_word : (raw : List ℕ) → has_percent raw ≡ false → word_of raw ≡ Ok (record { raw = raw; decoded = raw })
plain_word raw plain = rw (plain_stands raw plain) refl
