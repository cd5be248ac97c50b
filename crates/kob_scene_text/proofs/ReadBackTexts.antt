-- The bytes of a text in UTF-8 are bytes.
use Rattle.kob_scene_text.proofs.Words.{Bool, List, [], arith, false, nat_lt, nat_tests, refl, subst, true, ℕ, ◌+◌, ◌∙◌, ◌∷◌, ◌≡◌}
use Rattle.std.proofs.Common.{ltb, ltb-true, cond, ◌/◌, ◌<◌, ◌≤◌}
use Rattle.std.proofs.lemmas.List.Folds.{list_all-append}
use Rattle.std.proofs.lemmas.Str.{IsUtf8-from_is_utf8}
use Rattle.std.specs.Str.{is_utf8}
use Rattle.kob_scene_text.specs.Rereading.{AreBytes}
use Rattle.kob_words.proofs.Choices.{both}
use lib.Utf8.{encode, encodes, next, scalar, scalars, scalar_cases}
use Rattle.std.proofs.Common.{inl, inr, ◌⊎◌}

small : (byte : ℕ) → byte < 256 → nat_lt byte 256 ≡ true
small byte below = grind (arith, nat_tests)

low : (c : ℕ) → (c < 55296) ⊎ ((57344 ≤ c) × (c < 1114112)) → c < 1114112
low c (inl below) = omega arith
low c (inr between) = between.1

is_byte_before : (byte : ℕ) (bytes : List ℕ) → byte < 256 → AreBytes bytes → AreBytes (byte ∷ bytes)
is_byte_before byte bytes below are = rw (small byte below) are

next_small : (bits : ℕ) → next bits < 256
next_small bits = omega arith

encode_by : (c : ℕ) → c < 1114112 → (one two three : Bool) → ltb c 128 ≡ one → ltb c 2048 ≡ two → ltb c 65536 ≡ three
    → AreBytes (cond one (c ∷ []) (cond two ((192 + c / 64) ∷ next c ∷ []) (cond three ((224 + c / 4096) ∷ next (c / 64) ∷ next c ∷ []) ((240 + c / 262144) ∷ next (c / 4096) ∷ next (c / 64) ∷ next c ∷ []))))
encode_by c below true two three is1 is2 is3 =
    let least = ltb-true c 128 is1 in is_byte_before c [] (omega arith) refl
encode_by c below false true three is1 is2 is3 =
    let least = ltb-true c 2048 is2 in
    is_byte_before (192 + c / 64) (next c ∷ []) (omega arith) (is_byte_before (next c) [] (next_small c) refl)
encode_by c below false false true is1 is2 is3 =
    let least = ltb-true c 65536 is3 in
    is_byte_before (224 + c / 4096) (next (c / 64) ∷ next c ∷ []) (omega arith)
    (is_byte_before (next (c / 64)) (next c ∷ []) (next_small (c / 64)) (is_byte_before (next c) [] (next_small c) refl))
encode_by c below false false false is1 is2 is3 =
    is_byte_before (240 + c / 262144) (next (c / 4096) ∷ next (c / 64) ∷ next c ∷ []) (omega arith)
    (is_byte_before (next (c / 4096)) (next (c / 64) ∷ next c ∷ []) (next_small (c / 4096))
    (is_byte_before (next (c / 64)) (next c ∷ []) (next_small (c / 64)) (is_byte_before (next c) [] (next_small c) refl)))

encode_bytes : (c : ℕ) → scalar c ≡ true → AreBytes (encode c)
unfolding encode
encode_bytes c is = encode_by c (low c (scalar_cases c is)) (ltb c 128) (ltb c 2048) (ltb c 65536) refl refl refl

encodes_bytes : (chars : List ℕ) → scalars chars ≡ true → AreBytes (encodes chars)
encodes_bytes [] are = refl
encodes_bytes (c ∷ chars) are =
    let (here, others) = both (scalar c) (scalars chars) are in
    list_all-append (λ byte. nat_lt byte 256) (encode c) (encodes chars)
    ∙ rw (encode_bytes c here, encodes_bytes chars others) refl

pub utf8_bytes : (text : List ℕ) → is_utf8 text ≡ true → AreBytes text
utf8_bytes text is =
    let (chars, (are, encoded)) = IsUtf8-from_is_utf8 text is in subst AreBytes encoded (encodes_bytes chars are)
