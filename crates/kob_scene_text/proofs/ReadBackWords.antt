-- The words that texts and numbers are printed as, and names that need no escape, are read as what was printed.
use Rattle.kob_scene_text.proofs.Words.{Bool, Err, List, None, Ok, Option, Result, Some, Word, [], ap, arith, codes, false, length, nat_lt, nat_tests, refl, sym, true, ℕ, ◌++◌, ◌>>=◌, ◌∙◌, ◌∷◌, ◌≡◌}
use Rattle.std.proofs.Common.{bytes_eq, decimal, ok_or, ◌&&◌, ◌%◌, ◌/◌, ◌<◌}
use Rattle.std.proofs.lemmas.Fmt.{decimal_is_IsNumeral, digits_decimal}
use Rattle.std.proofs.lemmas.List.{length-append}
use Rattle.std.proofs.lemmas.List.Folds.{list_all-append}
use Rattle.std.proofs.lemmas.Str.Parse.{numerals_by_value, tells_all_ascii_digits}
use Rattle.std.specs.Char.{digit_char, is_ascii_digit}
use Rattle.std.specs.List.{list_all}
use Rattle.std.specs.Str.{all_ascii_digits, is_utf8}
use Rattle.kob_names.specs.TextRules.{host_fault, principal_fault}
use Rattle.kob_scene_text.proofs.ReadBackLine.{IsWord, no_blank}
use Rattle.kob_scene_text.proofs.ReadBackTexts.{utf8_bytes}
use Rattle.kob_scene_text.specs.Rereading.{AreBytes, IsHost, IsName, IsNumber, IsPrincipal}
use Rattle.kob_script.specs.Words.{host_of, named_host, named_principal, number_of, principal_of, text_of}
use Rattle.kob_script.specs.declared.fault.FaultKind.{FaultKind}
use Rattle.kob_script.specs.declared.fault.FaultKind.TheVariants.{BadNumber, BadText}
use Rattle.kob_words.proofs.Choices.{both, chosen_true}
use Rattle.kob_words.proofs.Escapes.{plain_stands}
use Rattle.kob_words.proofs.Numbers.{digits_end, digits_plain}
use Rattle.kob_words.proofs.ReadBack.{bytes_read_back}
use Rattle.kob_words.specs.Words.{byte_text, bytes_text, decimal_in, has_percent, is_plain}

pub and_true : (a b : Bool) → a ≡ true → b ≡ true → (a && b) ≡ true
and_true a b first second = rw (first, second) refl

-- printed bytes

abbrev pub text_word : List ℕ → Word
text_word text = record { raw = bytes_text text; decoded = text }

digit_letter : (digit : ℕ) → no_blank (digit_char digit) ≡ true
digit_letter digit = grind (arith, nat_tests)

byte_letters : (byte : ℕ) → list_all no_blank (byte_text byte) ≡ true
byte_letters byte = by (is_plain byte) refl
  where
    by : (plain : Bool) → is_plain byte ≡ plain → list_all no_blank (byte_text byte) ≡ true
    by true is = rw is (grind (arith, nat_tests))
    by false is = rw is (rw (digit_letter (byte / 16), digit_letter (byte % 16)) refl)

pub bytes_letters : (bytes : List ℕ) → list_all no_blank (bytes_text bytes) ≡ true
bytes_letters [] = refl
bytes_letters (byte ∷ bytes) =
    list_all-append no_blank (byte_text byte) (bytes_text bytes)
    ∙ and_true (list_all no_blank (byte_text byte)) (list_all no_blank (bytes_text bytes)) (byte_letters byte) (bytes_letters bytes)

byte_some : (byte : ℕ) → 0 < length (byte_text byte)
byte_some byte = by (is_plain byte) refl
  where
    by : (plain : Bool) → is_plain byte ≡ plain → 0 < length (byte_text byte)
    by true is = rw is (omega arith)
    by false is = rw is (omega arith)

pub bytes_some : (bytes : List ℕ) → 0 < length bytes → 0 < length (bytes_text bytes)
bytes_some [] some = absurd (omega (arith, some))
bytes_some (byte ∷ bytes) some =
    let here = byte_some byte in omega (arith, here, length-append (byte_text byte) (bytes_text bytes))

pub text_is_word : (text : List ℕ) → AreBytes text → 0 < length text → IsWord (text_word text)
text_is_word text bytes some =
    record { some = bytes_some text some; whole = bytes_letters text; stands = bytes_read_back text bytes }

pub name_is_word : (text : List ℕ) → IsName text → IsWord (text_word text)
name_is_word text is = text_is_word text (utf8_bytes text is.utf8) is.some

-- what a word for a text reads as

pub text_read : (word : Word) → is_utf8 word.decoded ≡ true → text_of word ≡ Ok word.decoded
text_read word is =
    chosen_true {A = Result (List ℕ) FaultKind} (is_utf8 word.decoded) (Ok word.decoded) (Err BadText) is

principal_known : (text : List ℕ) → principal_fault text ≡ None → principal_of text ≡ Ok text
unfolding principal_of
principal_known text valid = rw valid refl

host_known : (text : List ℕ) → host_fault text ≡ None → host_of text ≡ Ok text
unfolding host_of
host_known text valid = rw valid refl

pub principal_read : (word : Word) → IsPrincipal word.decoded → named_principal word ≡ Ok word.decoded
principal_read word is = ap (λ read. read >>= principal_of) (text_read word is.utf8) ∙ principal_known word.decoded is.valid

pub host_read : (word : Word) → IsHost word.decoded → named_host word ≡ Ok word.decoded
host_read word is = ap (λ read. read >>= host_of) (text_read word is.utf8) ∙ host_known word.decoded is.valid

pub host_some : (text : List ℕ) → host_fault text ≡ None → 0 < length text
host_some [] valid = absurd cc
host_some (byte ∷ text) valid = omega arith

pub host_is_word : (text : List ℕ) → IsHost text → IsWord (text_word text)
host_is_word text is = text_is_word text (utf8_bytes text is.utf8) (host_some text is.valid)

principal_some : (text : List ℕ) → principal_fault text ≡ None → 0 < length text
principal_some [] valid = absurd cc
principal_some (byte ∷ text) valid = omega arith

pub principal_is_word : (text : List ℕ) → IsPrincipal text → IsWord (text_word text)
principal_is_word text is = text_is_word text (utf8_bytes text is.utf8) (principal_some text is.valid)

-- numbers

abbrev pub number_word : ℕ → Word
number_word number = record { raw = decimal number; decoded = decimal number }

digit_blank : (digit : ℕ) → is_ascii_digit digit ≡ true → no_blank digit ≡ true
digit_blank digit is = grind (arith, nat_tests)

pub digits_letters : (digits : List ℕ) → all_ascii_digits digits ≡ true → list_all no_blank digits ≡ true
digits_letters [] are = refl
digits_letters (digit ∷ digits) are =
    let (here, more) = both (is_ascii_digit digit) (all_ascii_digits digits) are in
    and_true (no_blank digit) (list_all no_blank digits) (digit_blank digit here) (digits_letters digits more)

pub are_digits : (number : ℕ) → IsNumber number → all_ascii_digits (decimal number) ≡ true
are_digits number small = digits_decimal (numerals_by_value (λ ds. all_ascii_digits ds ≡ true) tells_all_ascii_digits) number small

pub digits_stand : (number : ℕ) → IsNumber number → decimal_in (decimal number) ≡ Some number
digits_stand number small =
    let (some, is) = decimal_is_IsNumeral number small in
    let long = some.0 in
    digits_end (decimal number) [] number (sym is, sym (are_digits number small)) refl small (grind (arith, nat_tests))

pub number_is_word : (number : ℕ) → IsNumber number → IsWord (number_word number)
number_is_word number small = record {
  some = (decimal_is_IsNumeral number small).0.0;
  whole = digits_letters (decimal number) (are_digits number small);
  stands = plain_stands (decimal number) (digits_plain (decimal number) (are_digits number small));
}

pub number_read : (number : ℕ) → IsNumber number → number_of (number_word number) ≡ Ok number
number_read number small = ap (λ (read : Option ℕ). ok_or {E = FaultKind} read BadNumber) (digits_stand number small)

no_dash_by : (digits more : List ℕ) → all_ascii_digits digits ≡ true → 0 < length digits
    → bytes_eq digits (codes "-" ++ more) ≡ false
no_dash_by [] more are some = absurd (omega (arith, some))
no_dash_by (digit ∷ digits) more are some = grind (arith, nat_tests, both)

-- no number begins with a dash
pub no_dash : (number : ℕ) (more : List ℕ) → IsNumber number → bytes_eq (decimal number) (codes "-" ++ more) ≡ false
no_dash number more small =
    no_dash_by (decimal number) more (are_digits number small) (decimal_is_IsNumeral number small).0.0

-- names without an escape

abbrev pub plain_word : List ℕ → Word
plain_word name = record { raw = name; decoded = name }

pub plain_is_word : (name : List ℕ) → nat_lt 0 (length name) ≡ true → list_all no_blank name ≡ true
    → has_percent name ≡ false → IsWord (plain_word name)
plain_is_word name some whole plain = record { some = grind (arith, nat_tests); whole = whole; stands = plain_stands name plain }
