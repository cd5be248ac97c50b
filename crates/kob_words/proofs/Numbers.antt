-- Which bytes write numbers, by the digits that are left; digits alone stand for themselves.
use Rattle.std.proofs.Common.{Bool, List, None, Option, Some, [], ap, arith, false, is_some, length, option_map, refl, sym, true, unwrap_or, ℕ, ◌∙◌, ◌*◌, ◌+◌, ◌<◌, ◌==◌, ◌^◌, ◌∷◌, ◌≡◌, ◌≤◌}
use Rattle.std.proofs.lemmas.Bool.Decides.{nat_tests}
use Rattle.std.specs.Char.{digit_value, is_ascii_digit}
use Rattle.std.specs.Str.{all_ascii_digits}
use Rattle.std.specs.Str.Parse.{digits_value, digits_value_after}
use Rattle.kob_words.proofs.Choices.{both, chosen_true, chosen_false, false_from}
use Rattle.kob_words.proofs.Escapes.{all_whole, byte_at, not_whole, plain_stands, step, then_rest, whole_after}
use Rattle.kob_words.specs.Words.{bytes_of, decimal_in, has_percent, unescaped, unescaped_from}

abbrev pub WritesNumber : List ℕ → Type 0
WritesNumber ds = (all_ascii_digits ds ≡ true) × (0 < length ds) × (digits_value 10 ds < 2 ^ 64)

number_refused : (ds : List ℕ) → (WritesNumber ds → ⊥) → decimal_in ds ≡ None
number_refused ds refuted = grind (arith, nat_tests, chosen_false, false_from)

grows : (n : ℕ) (ds : List ℕ) → n ≤ digits_value_after 10 n ds
grows n [] = omega arith
grows n (digit ∷ ds) = let more = grows (n * 10 + digit_value digit) ds in omega (arith, more)

-- The digits before those that are left write a number, and those that are left go on with it.
abbrev pub GoesOn : List ℕ → ℕ → List ℕ → Type 0
GoesOn ds n left =
    (digits_value_after 10 n left ≡ digits_value 10 ds) × (all_ascii_digits left ≡ all_ascii_digits ds)

module _ (ds left more : List ℕ) (n digit : ℕ) (kept : GoesOn ds n left) (split : left ≡ digit ∷ more) where
  pub digit_read : (longer : ℕ) → is_ascii_digit digit ≡ true → longer ≡ n * 10 + digit_value digit
      → GoesOn ds longer more
  digit_read longer is sum = grind (arith, nat_tests)

  pub digit_refused : (is_ascii_digit digit ≡ true → 2 ^ 64 ≤ n * 10 + digit_value digit)
      → decimal_in ds ≡ None
  digit_refused long = grind (arith, nat_tests, number_refused, both, grows)

pub digits_end : (ds left : List ℕ) (n : ℕ) → GoesOn ds n left → left ≡ [] → n < 2 ^ 64 → (length ds == 0) ≡ false
    → decimal_in ds ≡ Some n
digits_end [] left n kept none few some = absurd cc
digits_end (digit ∷ ds) left n kept none few some = grind (arith, nat_tests, chosen_true)

-- digits alone stand for themselves
pub digits_plain : (ds : List ℕ) → all_ascii_digits ds ≡ true → has_percent ds ≡ false
digits_plain [] digits = refl
digits_plain (d ∷ ds) digits = grind (arith, nat_tests, digits_plain ds, both)

-- A word whose escapes are not whole stands for itself, which writes no number.
pub torn : (part : List ℕ) → is_some (unescaped part) ≡ false → decimal_in (bytes_of part) ≡ None
torn part bad = by (unescaped part) refl bad
  where
    plain : unescaped part ≡ None → WritesNumber part → ⊥
    plain none (digits, more, few) = let stands = plain_stands part (digits_plain part digits) in absurd cc

    by : (read : Option (List ℕ)) → unescaped part ≡ read → is_some read ≡ false → decimal_in (unwrap_or read part) ≡ None
    by None is bad = number_refused part (plain is)
    by (Some bytes) is bad = absurd cc

-- Escapes stand for digits too: what was read so far of a part of a word, if its escapes are whole.
abbrev pub ReadsOn : List ℕ → ℕ → List ℕ → Type 0
ReadsOn part n rest =
    (is_some (unescaped rest) ≡ is_some (unescaped part))
    × (is_some (unescaped part) ≡ true → GoesOn (bytes_of part) n (bytes_of rest))

-- the byte at the front, and then what the rest stands for
front_by : (first : ℕ) (others : List ℕ) (byte : ℕ) (after : List ℕ) (read : Option (List ℕ))
    → unescaped (first ∷ others) ≡ option_map (λ bytes. byte ∷ bytes) read
    → is_some (unescaped (first ∷ others)) ≡ true
    → unwrap_or (unescaped (first ∷ others)) (first ∷ others) ≡ byte ∷ unwrap_or read after
front_by first others byte after None is whole = absurd cc
front_by first others byte after (Some bytes) is whole = rw is refl

module _ (part rest others : List ℕ) (n first : ℕ) (kept : ReadsOn part n rest) (split : rest ≡ first ∷ others) where
  pub byte_missing : None ≡ byte_at first others → None ≡ decimal_in (bytes_of part)
  byte_missing is = sym (torn part (sym (not_whole rest others first _ kept.0 split is)))

  module _ (found : ℕ × List ℕ) (is : Some found ≡ byte_at first others) where
    next : is_some (unescaped part) ≡ true → bytes_of rest ≡ found.0 ∷ bytes_of found.1
    next whole =
        let here : is_some (unescaped (first ∷ others)) ≡ true = ap (λ r. is_some (unescaped r)) (sym split) ∙ kept.0 ∙ whole in
        ap bytes_of split ∙ front_by first others found.0 found.1 (unescaped found.1) (step first others ∙ ap then_rest (sym is)) here

    pub escaped_digit_read : (longer : ℕ) → is_ascii_digit found.0 ≡ true → longer ≡ n * 10 + digit_value found.0
        → ReadsOn part longer found.1
    escaped_digit_read longer digit sum = (
      whole_after rest others first _ kept.0 split found is,
      λ whole. digit_read (bytes_of part) (bytes_of rest) (bytes_of found.1) n found.0 (kept.1 whole) (next whole) longer digit sum,
    )

    pub escaped_digit_refused : (is_ascii_digit found.0 ≡ true → 2 ^ 64 ≤ n * 10 + digit_value found.0)
        → None ≡ decimal_in (bytes_of part)
    escaped_digit_refused long = by (is_some (unescaped part)) refl
      where
        by : (whole : Bool) → is_some (unescaped part) ≡ whole → None ≡ decimal_in (bytes_of part)
        by true whole = sym (digit_refused (bytes_of part) (bytes_of rest) (bytes_of found.1) n found.0 (kept.1 whole) (next whole) long)
        by false bad = sym (torn part bad)

-- only no bytes stand for no bytes
some_bytes : (part : List ℕ) → is_some (unescaped part) ≡ true → (length part == 0) ≡ false
    → (length (bytes_of part) == 0) ≡ false
some_bytes [] whole some = absurd cc
some_bytes (first ∷ others) whole some = by (byte_at first others) (step first others)
  where
    by : (found : Option (ℕ × List ℕ)) → unescaped (first ∷ others) ≡ then_rest found
        → (length (bytes_of (first ∷ others)) == 0) ≡ false
    by None is = let none = rw is at whole in absurd cc
    by (Some found) is = rw (front_by first others found.0 found.1 (unescaped found.1) is whole) (grind (arith, nat_tests))

pub escaped_digits_end : (part rest : List ℕ) (n : ℕ) → ReadsOn part n rest → rest ≡ [] → n < 2 ^ 64
    → (length part == 0) ≡ false → Some n ≡ decimal_in (bytes_of part)
unfolding unescaped_from
escaped_digits_end part rest n kept none few some =
    let whole : is_some (unescaped part) ≡ true = sym (all_whole rest _ kept.0 none) in
    let empty : bytes_of rest ≡ [] = rw none refl in
    sym (digits_end (bytes_of part) (bytes_of rest) n (kept.1 whole) empty few (some_bytes part whole some))

pub nothing_written : (part : List ℕ) → (length part == 0) ≡ true → None ≡ decimal_in (bytes_of part)
unfolding unescaped_from
nothing_written [] none = refl
nothing_written (first ∷ others) none = grind (arith, nat_tests)
