-- A text begins with the bytes that stand for themselves, and these are ASCII.
use Rattle.std.proofs.Common.{◌≡◌, ◌≤◌, ◌∙◌, ◌+◌, ◌/◌, ◌%◌, ℕ, Bool, true, false, cond, List, length, zero, [], ◌∷◌, ◌++◌, suc, take, drop, sym, ap, refl, append_assoc, append-nil, arith, subst, if◌then◌else◌}
use Rattle.std.specs.Char.{digit_char}
use Rattle.std.specs.List.{list_all}
use Rattle.std.specs.Str.{IsAscii}
use Rattle.std.proofs.lemmas.Bool.Decides.{nat_tests}
use Rattle.std.proofs.lemmas.Str.{IsAscii-append}
use Rattle.std.proofs.lemmas.Str.Ascii.{IsAscii-nil, IsAscii-cons}
use Rattle.kob_words.specs.Words.{is_plain, byte_text, bytes_text, plain_length}

-- the byte at the front is plain or not
front_by : (b : Bool) (byte : ℕ) (bytes : List ℕ) → is_plain byte ≡ b
    → bytes_text bytes ≡ take (plain_length bytes) bytes ++ bytes_text (drop (plain_length bytes) bytes)
    → bytes_text (byte ∷ bytes)
    ≡ take (cond b (1 + plain_length bytes) 0) (byte ∷ bytes)
    ++ bytes_text (drop (cond b (1 + plain_length bytes) 0) (byte ∷ bytes))
front_by true byte bytes is others =
    ap (λ b. (if b then byte ∷ [] else 37 ∷ digit_char (byte / 16) ∷ digit_char (byte % 16) ∷ []) ++ bytes_text bytes) is
    ∙ ap (λ t. byte ∷ t) others
    ∙ let next : 1 + plain_length bytes ≡ suc (plain_length bytes) = omega arith in rw next refl
front_by false byte bytes is others = refl

pub plain_front : (bytes : List ℕ)
    → bytes_text bytes ≡ take (plain_length bytes) bytes ++ bytes_text (drop (plain_length bytes) bytes)
plain_front [] = refl
plain_front (byte ∷ bytes) = front_by (is_plain byte) byte bytes refl (plain_front bytes)

ascii_by : (b : Bool) (byte : ℕ) (bytes : List ℕ) → is_plain byte ≡ b → IsAscii (take (plain_length bytes) bytes)
    → IsAscii (take (cond b (1 + plain_length bytes) 0) (byte ∷ bytes))
ascii_by true byte bytes is others =
    let next : 1 + plain_length bytes ≡ suc (plain_length bytes) = omega arith in
    rw next (IsAscii-cons byte (take (plain_length bytes) bytes) (grind (arith, nat_tests)) others)
ascii_by false byte bytes is others = IsAscii-nil

pub plain_ascii : (bytes : List ℕ) → IsAscii (take (plain_length bytes) bytes)
plain_ascii [] = IsAscii-nil
plain_ascii (byte ∷ bytes) = ascii_by (is_plain byte) byte bytes refl (plain_ascii bytes)

-- what is printed of the rest, by its plain front and what comes after it
pub rest_text : (rest plain others : List ℕ) (n : ℕ) → n ≡ plain_length rest → plain ≡ take n rest → others ≡ drop n rest
    → bytes_text rest ≡ plain ++ bytes_text others
rest_text rest plain others n is front back = rw (front, back, is) (plain_front rest)

pub front_ascii : (rest plain : List ℕ) (n : ℕ) → n ≡ plain_length rest → plain ≡ take n rest → IsAscii plain
front_ascii rest plain n is front = rw (front, is) (plain_ascii rest)

module _ (bytes rest plain others : List ℕ) (split : bytes_text rest ≡ plain ++ bytes_text others) where
  pub text_ends : (begun out more : List ℕ) → out ++ bytes_text rest ≡ begun ++ bytes_text bytes → others ≡ []
      → more ≡ out ++ plain → more ≡ begun ++ bytes_text bytes
  text_ends begun out more kept none grown =
      grown
      ∙ ap (λ t. out ++ t) (sym (append-nil plain) ∙ ap (λ o. plain ++ bytes_text o) (sym none) ∙ sym split)
      ∙ kept

  pub ascii_ends : (IsAscii (bytes_text rest) → IsAscii (bytes_text bytes)) → others ≡ [] → IsAscii plain
      → IsAscii (bytes_text bytes)
  ascii_ends kept none front =
      kept
      (subst IsAscii (sym (split ∙ ap (λ o. plain ++ bytes_text o) none))
      (IsAscii-append plain [] front IsAscii-nil))

  pub text_keeps : (begun out more most after : List ℕ) (byte : ℕ)
      → out ++ bytes_text rest ≡ begun ++ bytes_text bytes → others ≡ byte ∷ after → more ≡ out ++ plain
      → most ≡ more ++ byte_text byte → most ++ bytes_text after ≡ begun ++ bytes_text bytes
  text_keeps begun out more most after byte kept next grown pushed =
      ap (λ t. t ++ bytes_text after) pushed
      ∙ append_assoc more (byte_text byte) (bytes_text after)
      ∙ ap (λ t. t ++ (byte_text byte ++ bytes_text after)) grown
      ∙ append_assoc out plain (byte_text byte ++ bytes_text after)
      ∙ ap (λ t. out ++ t) (ap (λ o. plain ++ bytes_text o) (sym next) ∙ sym split)
      ∙ kept

  pub ascii_keeps : (after : List ℕ) (byte : ℕ) → (IsAscii (bytes_text rest) → IsAscii (bytes_text bytes))
      → others ≡ byte ∷ after → IsAscii plain → IsAscii (byte_text byte)
      → IsAscii (bytes_text after) → IsAscii (bytes_text bytes)
  ascii_keeps after byte kept next front here more =
      kept
      (subst IsAscii (sym (split ∙ ap (λ o. plain ++ bytes_text o) next))
      (IsAscii-append plain (byte_text byte ++ bytes_text after) front
      (IsAscii-append (byte_text byte) (bytes_text after) here more)))

-- bytes that are plain, and then the plain front of the others
pub plain_passed : (bytes : List ℕ) (n : ℕ) → n ≤ length bytes → list_all is_plain (take n bytes) ≡ true
    → plain_length bytes ≡ n + plain_length (drop n bytes)
plain_passed bytes zero within plain = omega arith
plain_passed [] (suc n) within plain = absurd (omega (arith, within))
plain_passed (byte ∷ bytes) (suc n) within plain = grind (arith, nat_tests, plain_passed bytes n)
