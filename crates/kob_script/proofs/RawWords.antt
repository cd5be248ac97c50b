-- A line is passed from one blank to the next, by the bits of the bytes in between.
use Rattle.kob_script.proofs.Imports.{List, [], ap, arith, cond, drop, false, get_or, length, nat_tests, refl, sym, take, true, ℕ, ◌+◌, ◌-◌, ◌<◌, ◌∙◌, ◌∷◌, ◌≡◌, ◌≤◌}
use Rattle.kob_words.specs.Words.{has_percent}
use Rattle.kob_script.specs.Words.{is_blank, raw_words}
use Rattle.kob_script.specs.RawWords.{HasNoPercent, blank_bits}
use Rattle.kob_script.proofs.LineWords.{behind_blank, size_of, word_cut}
use Rattle.std.proofs.Common.{Bool, Fits, ap₂, eqb, map, nat_lt, not, w64, ◌&&◌, replicate, ◌||◌, ◌*◌, ◌/◌, ◌%◌, ◌^◌}
use Rattle.std.proofs.lemmas.Simd.{length-chunk, mask_l-lt, mask_l-mod, none_from_empty_mask, run_in_chunk_fails, run_in_chunk_le, run_in_chunk_stops, trailing_mask_l, zip2_of_maps, zip2_splat}
use Rattle.std.specs.List.{prefix_len}
use lib.Count.{count_trailing_zeros}
use mir.Val.{bool_byte}
use lib.Bits.{bit_or}
use lib.Lanes.{top, zip2}
use Rattle.std.proofs.lemmas.List.{drop_all, drop-drop, drop-take, drop_more, length-drop, length-map, length-take, take_all}
use Rattle.std.proofs.Math.Pow.{pow_mono}
use Rattle.std.specs.List.{drop-map}
use native.Mathlib.Nat.{div-div-eq-div-mul, div-one, mul_comm, pow-suc, zero-div}
use Rattle.std.specs.Prelude.{IsTrue, ◌==◌}
use Rattle.std.specs.Simd.Lanes.{chunk, mask_l}
use Rattle.kob_script.specs.declared.raw_words.RawWords.{RawWords}
use Prim.Native.Nat.{zero, suc}

-- the words from the place on that was reached
abbrev pub words_left : RawWords → List (List ℕ)
words_left words = raw_words (drop words.at words.line.now)

module _ (line : List ℕ) where
  -- no byte from one place to another is a blank
  abbrev pub AreLetters : ℕ → ℕ → Type 0
  AreLetters from to = (k : ℕ) → from ≤ k → k < to → is_blank (get_or line k 0) ≡ false

  letters_passed : (at n : ℕ) → at + n ≤ length line → AreLetters at (at + n) → size_of (drop at line) ≡ n + size_of (drop (at + n) line)
  letters_passed at zero room letters =
      let here : at ≡ at + 0 = omega arith in omega (arith, ap (λ m. size_of (drop m line)) here)
  letters_passed at (suc n) room letters =
      let there : at + 1 + n ≡ at + suc n = omega arith in
      let others = letters_passed (at + 1) n (omega (arith, room)) (λ k from to. letters k (omega (arith, from)) (omega (arith, to))) in
      let same = ap (λ m. size_of (drop m line)) there in
      let letter : size_of (drop at line) ≡ 1 + size_of (drop (at + 1) line) =
      rw (drop_more line at 0 (omega (arith, room)), letters at (omega arith) (omega arith)) refl in
      omega (arith, letter, others, same)

  -- no word begins at the end
  pub none_left : (at : ℕ) → length line ≤ at → raw_words (drop at line) ≡ []
  none_left at end = ap raw_words (drop_all at line end)

  -- a blank begins no word
  pub blank_passed : (at : ℕ) → at < length line → is_blank (get_or line at 0) ≡ true → raw_words (drop at line) ≡ raw_words (drop (at + 1) line)
  blank_passed at within blank = sym (behind_blank (drop at line) (get_or line at 0) (drop (at + 1) line) (drop_more line at 0 within) blank)

  size_none : (at : ℕ) → at ≤ length line → (at < length line → is_blank (get_or line at 0) ≡ true) → size_of (drop at line) ≡ 0
  size_none at within blank = by (drop at line) refl
    where
      by : (rest : List ℕ) → drop at line ≡ rest → size_of (drop at line) ≡ 0
      by [] is = ap size_of is
      by (byte ∷ others) is =
          let there : at < length line = omega (arith, length-drop at line, ap length is) in
          rw (drop_more line at 0 there, blank there) refl

  -- what is before a blank, or before the end, is a word
  pub word_passed : (start end : ℕ) → start < end → end ≤ length line → AreLetters start end
      → (end < length line → is_blank (get_or line end 0) ≡ true)
      → raw_words (drop start line) ≡ take (end - start) (drop start line) ∷ raw_words (drop end line)
  word_passed start end some within letters blank =
      let to : start + (end - start) ≡ end = omega (arith, some) in
      let passed = letters_passed start (end - start) (omega (arith, to)) (λ k from before. letters k from (omega (arith, to, before))) in
      let last = ap (λ m. size_of (drop m line)) to ∙ size_none end within blank in
      let size : end - start ≡ size_of (drop start line) = omega (arith, passed, last) in
      word_cut (drop start line) (end - start) size (omega (arith, some))
      ∙ ap (λ rest. take (end - start) (drop start line) ∷ raw_words rest) (drop-drop (end - start) start line ∙ ap (λ m. drop m line) to)

  -- what is behind a word is what is behind the blank after it
  pub behind_word : (end next : ℕ) → (end < length line → (is_blank (get_or line end 0) ≡ true) × (next ≡ end + 1)) → (length line ≤ end → next ≡ end)
      → raw_words (drop end line) ≡ raw_words (drop next line)
  behind_word end next blank last = by (nat_lt end (length line)) refl
    where
      by : (within : Bool) → nat_lt end (length line) ≡ within → raw_words (drop end line) ≡ raw_words (drop next line)
      by true is =
          let below : end < length line = grind (arith, nat_tests) in
          blank_passed end below (blank below).0 ∙ ap (λ m. raw_words (drop m line)) (sym (blank below).1)
      by false is = ap (λ m. raw_words (drop m line)) (sym (last (grind (arith, nat_tests))))

  -- a part of what has no percent sign has none
  pub plain_part : (at n end : ℕ) → at + n ≤ end → end ≤ length line → HasNoPercent line 0 end → has_percent (take n (drop at line)) ≡ false
  plain_part at zero end room within none = refl
  plain_part at (suc n) end room within none =
      rw (
        drop_more line at 0 (omega (arith, room, within)),
        none at (omega arith) (omega (arith, room)),
        plain_part (at + 1) n end (omega (arith, room)) within none,
      ) refl

-- a shift of the bits passes over the first ones
pub bits_passed : (n : ℕ) (bits : List Bool) → mask_l bits / 2 ^ n ≡ mask_l (drop n bits)
bits_passed zero bits = div-one (mask_l bits)
bits_passed (suc n) [] = zero-div (2 ^ suc n)
bits_passed (suc n) (bit ∷ bits) =
    ap (λ m. mask_l (bit ∷ bits) / m) (pow-suc 2 n ∙ mul_comm (2 ^ n) 2) ∙ sym (div-div-eq-div-mul (mask_l (bit ∷ bits)) 2 (2 ^ n))
    ∙ ap (λ m. m / 2 ^ n) (rest bit) ∙ bits_passed n bits
  where
    rest : (b : Bool) → mask_l (b ∷ bits) / 2 ≡ mask_l bits
    rest true = omega arith
    rest false = omega arith

-- a byte is a blank if one of the two compares says so, in the highest bit of its lane
abbrev hit : ℕ → ℕ → ℕ
hit a b = cond (eqb a b) 255 0

either : (byte : ℕ) → top 7 (bit_or (hit byte 32) (hit byte 9)) ≡ is_blank byte
either byte = by (eqb byte 32) (eqb byte 9)
  where
    by : (space tab : Bool) → top 7 (bit_or (cond space 255 0) (cond tab 255 0)) ≡ (space || tab)
    by true true = refl
    by true false = refl
    by false true = refl
    by false false = refl

each_lane : (lanes : List ℕ) → map (top 7) (map (λ byte. bit_or (hit byte 32) (hit byte 9)) lanes) ≡ map is_blank lanes
each_lane [] = refl
each_lane (byte ∷ lanes) = ap₂ (λ bit bits. bit ∷ bits) (either byte) (each_lane lanes)

pub blank_lanes : (lanes : List ℕ) → length lanes ≡ 16
    → mask_l (map (top 7) (zip2 bit_or (zip2 hit lanes (replicate 16 32)) (zip2 hit lanes (replicate 16 9)))) % 2 ^ 64 ≡ mask_l (map is_blank lanes)
blank_lanes lanes sixteen =
    let both = zip2_of_maps bit_or (λ byte. hit byte 32) (λ byte. hit byte 9) lanes (zip2_splat hit lanes 16 32 sixteen) (zip2_splat hit lanes 16 9 sixteen) in
    ap (λ bits. mask_l bits % 2 ^ 64) (ap (map (top 7)) both ∙ each_lane lanes)
    ∙ mask_l-mod (map is_blank lanes) 64 (omega (arith, length-map lanes is_blank, sixteen))

-- Of 16 bits or fewer the number is small.
pub few_bits : (line : List ℕ) (from to : ℕ) → to ≤ from + 16 → blank_bits line from to < 2 ^ 16
few_bits line from to near =
    let bits = map is_blank (chunk from (to - from) line) in
    let long : length bits ≤ 16 =
    omega (arith, length-map (chunk from (to - from) line) is_blank, length-take (to - from) (drop from line), near) in
    omega (arith, mask_l-lt bits, pow_mono long)

-- the last bytes, of which the bits of those before a place are shifted out
pub last_bits : (line : List ℕ) (at : ℕ) → 16 ≤ length line → at ≤ length line → length line < at + 16
    → mask_l (map is_blank (chunk (length line - 16) 16 line)) / 2 ^ (at + 16 - length line) ≡ blank_bits line at (length line)
last_bits line at long within near =
    let start = length line - 16 in
    let passed = at + 16 - length line in
    let all : chunk start 16 line ≡ drop start line = take_all 16 (drop start line) (omega (arith, length-drop start line, long)) in
    let to : start + passed ≡ at = omega (arith, long, near) in
    let rest : chunk at (length line - at) line ≡ drop at line = take_all (length line - at) (drop at line) (omega (arith, length-drop at line, within)) in
    bits_passed passed (map is_blank (chunk start 16 line))
    ∙ ap mask_l (drop-map is_blank passed (chunk start 16 line)
    ∙ ap (map is_blank) (ap (drop passed) all ∙ drop-drop passed start line ∙ ap (λ m. drop m line) to ∙ sym rest))

-- where no bit is set, there is no percent sign
pub no_percent : (line : List ℕ) (at bits : ℕ) → at + 16 ≤ length line → bits ≡ mask_l (map (λ byte. byte == 37) (chunk at 16 line))
    → IsTrue (bits == 0) → HasNoPercent line at (at + 16)
no_percent line at bits room is none k from to =
    let zero : bits ≡ 0 = grind (arith, nat_tests) in
    none_from_empty_mask (λ byte. byte == 37) line at 16 0 room (sym is ∙ zero) k from to

-- one more bit fits
pub bit_fits : (bits : ℕ) (bit : Bool) → bits < 2 ^ 16 → Fits w64 (bits * 2 + bool_byte bit)
bit_fits bits true few = record { fits = omega (arith, few) }
bit_fits bits false few = record { fits = omega (arith, few) }

pub letters_joined : (line : List ℕ) (from mid to : ℕ) → AreLetters line from mid → AreLetters line mid to → AreLetters line from to
letters_joined line from mid to one other k begins ends = by (nat_lt k mid) refl
  where
    by : (before : Bool) → nat_lt k mid ≡ before → is_blank (get_or line k 0) ≡ false
    by true is = one k begins (grind (arith, nat_tests))
    by false is = other k (grind (arith, nat_tests)) ends

-- where no byte is among those that are looked for, no bit is set
module _ (p : ℕ → Bool) where
  unset : (bit : Bool) (n long bits : ℕ) → cond (not bit) (1 + n) 0 ≡ suc long → (n ≡ long → bits ≡ 0) → cond bit 1 0 + 2 * bits ≡ 0
  unset true n long bits all others = absurd (omega (arith, all))
  unset false n long bits all others = omega (arith, others (omega (arith, all)))

  no_bit : (bytes : List ℕ) → prefix_len (λ byte. not (p byte)) bytes ≡ length bytes → mask_l (map p bytes) ≡ 0
  no_bit [] all = refl
  no_bit (byte ∷ bytes) all = unset (p byte) (prefix_len (λ byte. not (p byte)) bytes) (length bytes) (mask_l (map p bytes)) all (no_bit bytes)

-- the bytes from one place to another, by their bits
module _ (line : List ℕ) (at end bits : ℕ) (order : at ≤ end) (within : end ≤ length line) (near : end ≤ at + 16) (is : bits ≡ blank_bits line at end) where
  room : at + (end - at) ≤ length line
  room = omega (arith, order, within)

  pub no_blank : bits ≡ 0 → AreLetters line at end
  no_blank empty k from to = none_from_empty_mask is_blank line at (end - at) 0 room (sym is ∙ empty) k from (omega (arith, order, to))

  -- Some byte is a blank, and this is the first.
  module _ (some : 0 < bits) where
    abbrev pub letters : ℕ
    letters = count_trailing_zeros 64 bits

    counted : letters ≡ prefix_len (λ byte. not (is_blank byte)) (chunk at (end - at) line)
    counted =
        ap (count_trailing_zeros 64) is
        ∙ trailing_mask_l is_blank 64 (chunk at (end - at) line) (omega (arith, length-chunk at (end - at) line room, near)) (omega (arith, some, is))

    pub is_before_end : letters < end - at
    is_before_end =
        let most = run_in_chunk_le is_blank line at (end - at) letters 0 room counted in
        let long = length-chunk at (end - at) line room in
        by (nat_lt letters (end - at)) refl most long
      where
        by : (before : Bool) → nat_lt letters (end - at) ≡ before → letters ≤ end - at → length (chunk at (end - at) line) ≡ end - at → letters < end - at
        by true less most long = grind (arith, nat_tests)
        by false less most long =
            let whole : letters ≡ end - at = grind (arith, nat_tests) in
            let none = no_bit is_blank (chunk at (end - at) line) (sym counted ∙ whole ∙ sym long) in
            absurd (omega (arith, some, is, none))

    pub letters_before : AreLetters line at (at + letters)
    letters_before = run_in_chunk_fails is_blank line at (end - at) letters 0 room counted

    pub blank_there : is_blank (get_or line (at + letters) 0) ≡ true
    blank_there = run_in_chunk_stops is_blank line at (end - at) letters 0 room counted is_before_end

    pub bits_behind : bits / 2 ^ (letters + 1) ≡ blank_bits line (at + letters + 1) end
    bits_behind =
        let next = letters + 1 in
        let left = end - (at + letters + 1) in
        let size : end - at ≡ next + left = omega (arith, is_before_end) in
        let there : at + next ≡ at + letters + 1 = omega arith in
        let rest : drop next (chunk at (end - at) line) ≡ chunk (at + letters + 1) left line =
        ap (λ n. drop next (take n (drop at line))) size ∙ drop-take next left (drop at line)
        ∙ ap (take left) (drop-drop next at line ∙ ap (λ m. drop m line) there) in
        ap (λ n. n / 2 ^ next) is ∙ bits_passed next (map is_blank (chunk at (end - at) line))
        ∙ ap mask_l (drop-map is_blank next (chunk at (end - at) line) ∙ ap (map is_blank) rest)

-- what was plain stays so by a part without a percent sign
pub was_plain : (was is : Bool) → IsTrue (was && is) → IsTrue was
was_plain true is both = refl
was_plain false is both = both
