-- What is printed for bytes is read back as them, and each name as what it names.
use Rattle.std.proofs.Common.{Bool, List, [], Some, arith, false, nat_lt, refl, true, ℕ, ◌%◌, ◌/◌, ◌<◌, ◌==◌, ◌∷◌, ◌≡◌}
use Rattle.std.proofs.lemmas.Bool.Decides.{nat_tests}
use Rattle.std.proofs.lemmas.Str.{digit_value-digit_char}
use Rattle.std.specs.Char.{digit_char}
use Rattle.std.specs.List.{list_all}
use Rattle.kob_words.proofs.Choices.{both}
use Rattle.kob_words.specs.Words.{bytes_text, hexadecimal, is_plain, unescaped, unescaped_from}

-- two digits write the byte
digits_write : (byte : ℕ) → byte < 256 → hexadecimal (digit_char (byte / 16)) (digit_char (byte % 16)) ≡ Some byte
digits_write byte small =
    rw (digit_value-digit_char (byte / 16) (omega arith), digit_value-digit_char (byte % 16) (omega arith)) (grind (arith, nat_tests))

escape_read : (high low byte : ℕ) (text rest : List ℕ) → hexadecimal high low ≡ Some byte → unescaped text ≡ Some rest
    → unescaped (37 ∷ high ∷ low ∷ text) ≡ Some (byte ∷ rest)
unfolding unescaped_from
escape_read high low byte text rest digits read = grind (arith, nat_tests)

plain_read : (byte : ℕ) (text rest : List ℕ) → (byte == 37) ≡ false → unescaped text ≡ Some rest
    → unescaped (byte ∷ text) ≡ Some (byte ∷ rest)
unfolding unescaped_from
plain_read byte text rest other read = rw (other, read) refl

no_percent : (byte : ℕ) → is_plain byte ≡ true → (byte == 37) ≡ false
no_percent byte plain = grind (arith, nat_tests)

pub bytes_read_back : (bytes : List ℕ) → list_all (λ byte. nat_lt byte 256) bytes ≡ true → unescaped (bytes_text bytes) ≡ Some bytes
unfolding unescaped_from
bytes_read_back [] small = refl
bytes_read_back (byte ∷ rest) small =
    let (here, others) = both (nat_lt byte 256) (list_all (λ b. nat_lt b 256) rest) small in
    by (is_plain byte) refl (bytes_read_back rest others) (digits_write byte (grind (arith, nat_tests)))
  where
    by : (plain : Bool) → is_plain byte ≡ plain → unescaped (bytes_text rest) ≡ Some rest
        → hexadecimal (digit_char (byte / 16)) (digit_char (byte % 16)) ≡ Some byte
        → unescaped (bytes_text (byte ∷ rest)) ≡ Some (byte ∷ rest)
    by true is read digits = rw is (plain_read byte (bytes_text rest) rest (no_percent byte is) read)
    by false is read digits = rw is (escape_read (digit_char (byte / 16)) (digit_char (byte % 16)) byte (bytes_text rest) rest digits read)
