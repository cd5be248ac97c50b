use Rattle.kob_router.proofs.Words.{common_steps, IsUtf8, IsUtf8-from_ascii, List, None, arith, cases_lt, false, get_or, get_or_past, inl, is_some, is_topic_byte, length, nat_tests, not, prefix_len, prefix_len_passes, refl, topic_fault, topic_named, true, ℕ, ◌<◌, ◌≡◌, ◌≤◌}
use Rattle.kob_router.proofs.routed.topic_named.Goals as goal

small : (byte : ℕ) → not (not (is_topic_byte byte)) ≡ true → byte < 128
small byte passes = grind (arith, nat_tests)

-- no byte is the first that no topic's name has
whole : (text : List ℕ) → is_some (topic_fault text) ≡ false
    → length text ≤ prefix_len (λ byte. not (not (is_topic_byte byte))) text
whole text none = grind (arith, nat_tests)

-- the bytes of a topic's name are ASCII
ascii : (text : List ℕ) → is_some (topic_fault text) ≡ false → (k : ℕ) → get_or text k 0 < 128
ascii text none k = grind (arith, common_steps, cases_lt, small, prefix_len_passes, whole, get_or_past)

utf8 : (text : List ℕ) → is_some (topic_fault text) ≡ false → IsUtf8 text
utf8 text none = IsUtf8-from_ascii text (ascii text none)

unnamed : (text : List ℕ) → (IsUtf8 text → ⊥) → topic_named text ≡ None
unnamed text bad = grind (arith, nat_tests, utf8 text)

pub returns-in_default : goal.returns-in_default
returns-in_default c = inl (unnamed c.args.text.now c.in_default.ensures.cases.0, refl)
