-- Bytes are read one by one; those without a percent sign stand for themselves, and a cut at `=` or `:` leaves
-- each escape whole.
use Rattle.std.proofs.Common.{Bool, List, None, Option, Some, [], ap, append-nil, append_assoc, arith, drop, false, if◌then◌else◌, is_some, nat_lt, option_map, refl, sym, true, ℕ, ◌++◌, ◌==◌, ◌∙◌, ◌∷◌, ◌≡◌}
use Rattle.std.proofs.lemmas.Bool.Decides.{nat_tests}
use Rattle.std.specs.Char.{digit_value}
use Rattle.kob_words.specs.Words.{LeavesWhole, before, escaped, has_percent, unescaped, unescaped_from}

-- the byte at the front of a word, and what comes after it; nothing for a `%` that begins no escape
abbrev pub byte_at : ℕ → List ℕ → Option (ℕ × List ℕ)
byte_at first others = if first == 37 then option_map (λ byte. (byte, drop 2 others)) (escaped others) else Some (first, others)

-- the byte at the front, and then what the rest stands for
abbrev pub then_rest : Option (ℕ × List ℕ) → Option (List ℕ)
then_rest None = None
then_rest (Some found) = before (Some found.0) (unescaped found.1)

pub step : (byte : ℕ) (rest : List ℕ) → unescaped (byte ∷ rest) ≡ then_rest (byte_at byte rest)
unfolding unescaped_from
step byte rest = grind (arith, nat_tests)

-- bytes without a percent sign stand for themselves
pub plain_stands : (bytes : List ℕ) → has_percent bytes ≡ false → unescaped bytes ≡ Some bytes
unfolding unescaped_from
plain_stands [] plain = refl
plain_stands (byte ∷ rest) plain = grind (arith, nat_tests, plain_stands rest)

-- bytes that were read, and then what the rest stands for
abbrev pub with_rest : List ℕ → Option (List ℕ) → Option (List ℕ)
with_rest bytes others = option_map (λ more. bytes ++ more) others

pub none_before : (bytes : List ℕ) (read : Option (List ℕ)) → bytes ≡ [] → with_rest bytes read ≡ read
none_before bytes None empty = refl
none_before bytes (Some more) empty = ap (λ front. Some (front ++ more)) empty

-- the loop over the bytes of a word, by what was found at the front of the rest
module _ (bytes rest others : List ℕ) (first : ℕ) (all : Option (List ℕ)) (kept : with_rest bytes (unescaped rest) ≡ all)
    (split : rest ≡ first ∷ others) where
  front_is : with_rest bytes (then_rest (byte_at first others)) ≡ all
  front_is = rw (split, step first others) at kept

  pub byte_read : (found : ℕ × List ℕ) → Some found ≡ byte_at first others
      → with_rest (bytes ++ found.0 ∷ []) (unescaped found.1) ≡ all
  byte_read found is = grind (arith, nat_tests, front_is, append_assoc)

  pub none_read : None ≡ byte_at first others → None ≡ all
  none_read is = ap (λ read. with_rest bytes (then_rest read)) is ∙ front_is

pub all_read : (bytes rest : List ℕ) (all : Option (List ℕ)) → with_rest bytes (unescaped rest) ≡ all → rest ≡ []
    → Some bytes ≡ all
unfolding unescaped_from
all_read bytes rest all kept none = ap Some (sym (append-nil bytes)) ∙ (rw none at kept)

-- whether the rest is whole tells whether all is
module _ (rest others : List ℕ) (first : ℕ) (all : Bool) (kept : is_some (unescaped rest) ≡ all) (split : rest ≡ first ∷ others) where
  pub whole_after : (found : ℕ × List ℕ) → Some found ≡ byte_at first others → is_some (unescaped found.1) ≡ all
  whole_after found is = grind (arith, nat_tests, step first others)

  pub not_whole : None ≡ byte_at first others → false ≡ all
  not_whole is = grind (arith, nat_tests, step first others)

pub all_whole : (rest : List ℕ) (all : Bool) → is_some (unescaped rest) ≡ all → rest ≡ [] → true ≡ all
unfolding unescaped_from
all_whole rest all kept none = rw none at kept

chosen_false : {A : Type 0} (b : Bool) (x y : A) → b ≡ false → (if b then x else y) ≡ y
chosen_false b x y e = rw e refl

-- what two parts around a byte stand for
abbrev joined : ℕ → Option (List ℕ) → Option (List ℕ) → Option (List ℕ)
joined byte None back = None
joined byte (Some front) back = option_map (λ bytes. front ++ byte ∷ bytes) back

both_whole : (byte : ℕ) (front back : Option (List ℕ)) → is_some (joined byte front back) ≡ true
    → (is_some front ≡ true) × (is_some back ≡ true)
both_whole byte (Some front) (Some back) whole = (refl, refl)
both_whole byte _ _ whole = absurd cc

before_joined : (byte : ℕ) (found : Option ℕ) (front back : Option (List ℕ))
    → before found (joined byte front back) ≡ joined byte (before found front) back
before_joined byte (Some first) (Some front) (Some bytes) = refl
before_joined byte _ _ _ = refl

-- the byte at the front, if what comes after it is joined alike
front_joined : (byte a : ℕ) (percent : Bool) (digits_all digits : Option ℕ) (after_all after rest_all rest back : Option (List ℕ))
    → before digits_all after_all ≡ joined byte (before digits after) back → rest_all ≡ joined byte rest back
    → (if percent then before digits_all after_all else before (Some a) rest_all)
    ≡ joined byte (if percent then before digits after else before (Some a) rest) back
front_joined byte a true digits_all digits after_all after rest_all rest back escape plain = escape
front_joined byte a false digits_all digits after_all after rest_all rest back escape plain =
    ap (before (Some a)) plain ∙ before_joined byte (Some a) rest back

module _ (byte : ℕ) (back : List ℕ) (other : (byte == 37) ≡ false) (none : nat_lt (digit_value byte) 16 ≡ false) where
  not_first : (bytes : List ℕ) (others : Option (List ℕ)) → before (escaped (byte ∷ bytes)) others ≡ None
  not_first [] others = refl
  not_first (low ∷ bytes) others = rw none refl

  not_second : (high : ℕ) (others : Option (List ℕ)) → before (escaped (high ∷ byte ∷ back)) others ≡ None
  not_second high others = grind (arith, nat_tests)

  cut : (front : List ℕ) → unescaped (front ++ byte ∷ back) ≡ joined byte (unescaped front) (unescaped back)
  unfolding unescaped_from
  cut [] = chosen_false (byte == 37) (before (escaped back) (unescaped_from 2 back)) (before (Some byte) (unescaped back)) other
  cut (a ∷ []) =
      front_joined byte a (a == 37) (escaped (byte ∷ back)) None _ (Some []) (unescaped (byte ∷ back)) (Some [])
      (unescaped back) (not_first back _) (cut [])
  cut (a ∷ high ∷ []) = grind (arith, nat_tests, front_joined, not_second, cut (high ∷ []))
  cut (a ∷ high ∷ low ∷ rest) =
      grind (arith, nat_tests, front_joined, cut rest, before_joined, cut (high ∷ low ∷ rest))

  pub leaves_whole : (front : List ℕ) → is_some (unescaped (front ++ byte ∷ back)) ≡ true
      → (is_some (unescaped front) ≡ true) × (is_some (unescaped back) ≡ true)
  leaves_whole front whole = both_whole byte (unescaped front) (unescaped back) (sym (ap is_some (cut front)) ∙ whole)

pub at_equals : LeavesWhole 61
at_equals = λ front back. leaves_whole 61 back refl refl front

pub at_colon : LeavesWhole 58
at_colon = λ front back. leaves_whole 58 back refl refl front
