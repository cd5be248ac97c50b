-- A word is cut at the first of a byte; the three numbers of a producer are cut at `:`.
use Rattle.kob_scene_text.proofs.Words.{Bool, List, None, Ok, Option, Result, Some, Word, [], ap, append_assoc, arith, codes, drop, false, if◌then◌else◌, length, nat_tests, refl, sym, take, true, ℕ, ◌++◌, ◌+◌, ◌==◌, ◌>>=◌, ◌∙◌, ◌∷◌, ◌≡◌}
use Rattle.std.proofs.Common.{bytes_eq, decimal, get_or, not, ok_or, length-drop, suc, take_all, unwrap_or, ◌-◌, ◌<◌, ◌≤◌}
use Rattle.std.proofs.lemmas.List.{get_or_append_left, length-append}
use Rattle.std.proofs.lemmas.List.Folds.{list_all-append}
use Rattle.std.proofs.lemmas.List.Sums.{AllPass-from_list_all}
use Rattle.std.proofs.Math.Seq.{get_or-append_seam, take-append_seam}
use Rattle.std.specs.Char.{is_ascii_digit}
use Rattle.std.specs.List.{list_all}
use Rattle.std.specs.Str.{all_ascii_digits}
use Rattle.kob_names.specs.declared.batch.Idem.{Idem}
use Rattle.kob_scene_text.proofs.ReadBackLine.{IsWord, no_blank}
use Rattle.kob_scene_text.proofs.ReadBackWords.{and_true, are_digits, digits_letters, digits_stand, plain_is_word, plain_word}
use Rattle.kob_scene_text.specs.PrintedRequest.{idem_text}
use Rattle.kob_scene_text.specs.Rereading.{IfGiven, IsIdem, IsNumber}
use Rattle.kob_script.proofs.LineWords.{cut_is, no_cut}
use Rattle.kob_script.specs.Words.{cut_at, idem_of, number_in, three_of}
use Rattle.kob_script.specs.declared.fault.FaultKind.{FaultKind}
use Rattle.kob_script.specs.declared.fault.FaultKind.TheVariants.{BadLine, BadNumber}
use Rattle.kob_words.proofs.Choices.{both}
use Rattle.kob_words.proofs.Escapes.{plain_stands}
use Rattle.kob_words.proofs.Numbers.{digits_plain}
use Rattle.kob_words.specs.Words.{bytes_of, has_percent}

-- a word that is cut at the first of a byte

abbrev pub Lacks : ℕ → List ℕ → Type 0
Lacks byte bytes = list_all (λ other. not (other == byte)) bytes ≡ true

at_none : (byte : ℕ) (bytes : List ℕ) (k : ℕ) → Lacks byte bytes → k < length bytes → (get_or bytes k 0 == byte) ≡ true → ⊥
at_none byte bytes k lacks below is =
    let here = AllPass-from_list_all (λ other. not (other == byte)) bytes lacks k 0 below in
    absurd (grind (arith, nat_tests))

behind : (byte : ℕ) (back front : List ℕ) → drop (length front + 1) (front ++ byte ∷ back) ≡ back
behind byte back [] = refl
behind byte back (first ∷ front) =
    let next : length (first ∷ front) + 1 ≡ suc (length front + 1) = omega arith in rw next (behind byte back front)

module _ (byte : ℕ) (front back : List ℕ) (lacks : Lacks byte front) where
  before_it : (k : ℕ) → 0 ≤ k → k < length front → (get_or (front ++ byte ∷ back) k 0 == byte) ≡ true → ⊥
  before_it k low below is =
      at_none byte front k lacks below (ap (λ other. other == byte) (sym (get_or_append_left front (byte ∷ back) 0 k below)) ∙ is)

  at_it : (get_or (front ++ byte ∷ back) (length front) 0 == byte) ≡ true
  at_it = ap (λ other. other == byte) (get_or-append_seam front byte back 0) ∙ (grind (arith, nat_tests))

  pub cut_found : cut_at byte (front ++ byte ∷ back) ≡ Some (front, back)
  cut_found =
      let word = front ++ byte ∷ back in
      let at = length front in
      sym (cut_is byte word at (record { low = omega arith; high = omega (arith, length-append front (byte ∷ back)); before = before_it }, at_it))
      ∙ ap (λ (part : List ℕ). Some (take at word, part))
      (take_all (length word - (at + 1)) (drop (at + 1) word) (omega (arith, length-drop (at + 1) word)) ∙ behind byte back front)
      ∙ ap (λ (part : List ℕ). Some (part, back)) (take-append_seam front (byte ∷ back))

pub cut_none : (byte : ℕ) (bytes : List ℕ) → Lacks byte bytes → cut_at byte bytes ≡ None
cut_none byte bytes lacks = sym (no_cut byte bytes (λ k low below is. at_none byte bytes k lacks below is))

-- the numbers of a producer

digit_other : (digit : ℕ) → is_ascii_digit digit ≡ true → not (digit == 58) ≡ true
digit_other digit is = grind (arith, nat_tests)

digits_lack : (digits : List ℕ) → all_ascii_digits digits ≡ true → Lacks 58 digits
digits_lack [] are = refl
digits_lack (digit ∷ digits) are =
    let (here, more) = both (is_ascii_digit digit) (all_ascii_digits digits) are in
    and_true (not (digit == 58)) (list_all (λ other. not (other == 58)) digits) (digit_other digit here) (digits_lack digits more)

joined_plain : (one other : List ℕ) → has_percent one ≡ false → has_percent other ≡ false → has_percent (one ++ other) ≡ false
joined_plain [] other first second = second
joined_plain (byte ∷ one) other first second = grind (arith, nat_tests, joined_plain one other)

abbrev idem_raw : Idem → List ℕ
idem_raw idem = decimal idem.id ++ 58 ∷ (decimal idem.epoch ++ 58 ∷ decimal idem.base)

colons : (a b c : List ℕ) → a ++ codes ":" ++ b ++ codes ":" ++ c ≡ a ++ 58 ∷ (b ++ 58 ∷ c)
colons a b c = simp append_assoc

number_back : (number : ℕ) → IsNumber number → number_in (bytes_of (decimal number)) ≡ Ok number
number_back number small =
    let digits = are_digits number small in
    ap (λ (read : Option (List ℕ)). number_in (unwrap_or read (decimal number)))
    (plain_stands (decimal number) (digits_plain (decimal number) digits))
    ∙ ap (λ (read : Option ℕ). ok_or {E = FaultKind} read BadNumber) (digits_stand number small)

abbrev three_numbers : Result ℕ FaultKind → Result ℕ FaultKind → Result ℕ FaultKind → Result (Option Idem) FaultKind
three_numbers one two three = do
  id ← one
  epoch ← two
  base ← three
  Ok (Some (record { id = id; epoch = epoch; base = base }))

abbrev idem_by : Bool → Option (List ℕ × List ℕ) → Result (Option Idem) FaultKind
idem_by dash cut = if dash then Ok None else do
  first ← ok_or cut BadLine
  second ← ok_or (cut_at 58 first.1) BadLine
  three_of first.0 second.0 second.1 (cut_at 58 second.1)

abbrev pub idem_word : Option Idem → Word
idem_word None = plain_word (codes "-")
idem_word (Some idem) = plain_word (idem_raw idem)

pub idem_printed : (idem : Option Idem) → idem_text idem ≡ codes " " ++ (idem_word idem).raw
idem_printed None = refl
idem_printed (Some idem) = ap (λ text. 32 ∷ text) (colons (decimal idem.id) (decimal idem.epoch) (decimal idem.base))

module _ (idem : Idem) (is : IsIdem idem) where
  id_digits : all_ascii_digits (decimal idem.id) ≡ true
  id_digits = are_digits idem.id is.id

  epoch_digits : all_ascii_digits (decimal idem.epoch) ≡ true
  epoch_digits = are_digits idem.epoch is.epoch

  base_digits : all_ascii_digits (decimal idem.base) ≡ true
  base_digits = are_digits idem.base is.base

  raw_plain : has_percent (idem_raw idem) ≡ false
  raw_plain =
      joined_plain (decimal idem.id) (58 ∷ (decimal idem.epoch ++ 58 ∷ decimal idem.base)) (digits_plain (decimal idem.id) id_digits)
      (joined_plain (decimal idem.epoch) (58 ∷ decimal idem.base) (digits_plain (decimal idem.epoch) epoch_digits)
      (digits_plain (decimal idem.base) base_digits))

  raw_letters : list_all no_blank (idem_raw idem) ≡ true
  raw_letters =
      list_all-append no_blank (decimal idem.id) (58 ∷ (decimal idem.epoch ++ 58 ∷ decimal idem.base))
      ∙ and_true _ _ (digits_letters (decimal idem.id) id_digits)
      (list_all-append no_blank (decimal idem.epoch) (58 ∷ decimal idem.base)
      ∙ and_true _ _ (digits_letters (decimal idem.epoch) epoch_digits) (digits_letters (decimal idem.base) base_digits))

  raw_is_word : IsWord (plain_word (idem_raw idem))
  raw_is_word = record {
    some = omega (arith, length-append (decimal idem.id) (58 ∷ (decimal idem.epoch ++ 58 ∷ decimal idem.base)));
    whole = raw_letters;
    stands = plain_stands (idem_raw idem) raw_plain;
  }

  raw_no_dash : bytes_eq (idem_raw idem) (codes "-") ≡ false
  raw_no_dash = by (decimal idem.id) id_digits
    where
      by : (digits : List ℕ) → all_ascii_digits digits ≡ true
          → bytes_eq (digits ++ 58 ∷ (decimal idem.epoch ++ 58 ∷ decimal idem.base)) (codes "-") ≡ false
      by [] are = refl
      by (digit ∷ digits) are = grind (arith, nat_tests, both)

  raw_read : idem_of (plain_word (idem_raw idem)) ≡ Ok (Some idem)
  unfolding idem_of
  raw_read =
      ap (λ dash. idem_by dash (cut_at 58 (idem_raw idem))) raw_no_dash
      ∙ ap (idem_by false) (cut_found 58 (decimal idem.id) (decimal idem.epoch ++ 58 ∷ decimal idem.base) (digits_lack (decimal idem.id) id_digits))
      ∙ ap (λ (cut : Option (List ℕ × List ℕ)). ok_or {E = FaultKind} cut BadLine >>= λ second. three_of (decimal idem.id) second.0 second.1 (cut_at 58 second.1))
      (cut_found 58 (decimal idem.epoch) (decimal idem.base) (digits_lack (decimal idem.epoch) epoch_digits))
      ∙ ap (three_of (decimal idem.id) (decimal idem.epoch) (decimal idem.base)) (cut_none 58 (decimal idem.base) (digits_lack (decimal idem.base) base_digits))
      ∙ ap (λ read. three_numbers read (number_in (bytes_of (decimal idem.epoch))) (number_in (bytes_of (decimal idem.base)))) (number_back idem.id is.id)
      ∙ ap (λ read. three_numbers (Ok idem.id) read (number_in (bytes_of (decimal idem.base)))) (number_back idem.epoch is.epoch)
      ∙ ap (λ read. three_numbers (Ok idem.id) (Ok idem.epoch) read) (number_back idem.base is.base)

pub idem_is_word : (idem : Option Idem) → IfGiven IsIdem idem → IsWord (idem_word idem)
idem_is_word None is = plain_is_word (codes "-") refl refl refl
idem_is_word (Some idem) is = raw_is_word idem is

pub idem_read : (idem : Option Idem) → IfGiven IsIdem idem → idem_of (idem_word idem) ≡ Ok idem
unfolding idem_of
idem_read None is = refl
idem_read (Some idem) is = raw_read idem is
