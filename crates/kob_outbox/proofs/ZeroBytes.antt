-- A search for a zero byte says whether a text has one.
use Rattle.kob_outbox.proofs.statements.Words.{[], Bool, IsFirstByte, List, None, Nowhere, Option, Passes, Some, ap, arith, false, is_byte, is_none, length, list_any, list_any_at, not, or_from, refl, suc, sym, ℕ, ◌==◌, ◌∷◌, ◌≡◌, false_from_ne_true}

abbrev is_zero : ℕ → Bool
is_zero byte = byte == 0

none_is_zero : (text : List ℕ) → Nowhere (Passes (is_byte 0) text) 0 (length text) → list_any is_zero text ≡ false
none_is_zero [] nowhere = refl
none_is_zero (byte ∷ rest) nowhere =
    or_from _ _ (false_from_ne_true (byte == 0) (nowhere 0 (omega arith) (omega arith)))
    (none_is_zero rest (λ k low below. nowhere (suc k) (omega arith) (omega (arith, below))))

pub zero_byte_found : (text : List ℕ) (found : Option ℕ) → IsFirstByte (is_byte 0) text found
    → is_none found ≡ not (list_any is_zero text)
zero_byte_found text None nowhere = sym (ap not (none_is_zero text nowhere))
zero_byte_found text (Some k) first = sym (ap not (list_any_at is_zero text k 0 first.0.high first.1))
