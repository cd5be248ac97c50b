-- Blocks of whole lines, one after another.
use Rattle.kob_script_run.proofs.Words.{AreWholeLines, EndLines, EndsLine, List, [], append-nil, append_assoc, arith, concat, drop, get_or-take, inl, inr, length, length-take-le, lines-append, lines_in, lines_in_blocks, map-append, nat_tests, slice_index, take, take-append-drop, take_rest, ℕ, ◌++◌, ◌-◌, ◌<◌, ◌∷◌, ◌≡◌, ◌≤◌, ◌⊎◌}

-- one block more
pub concat_push : (blocks : List (List ℕ)) (block : List ℕ) → concat (blocks ++ block ∷ []) ≡ concat blocks ++ block
concat_push [] block = append-nil block
concat_push (first ∷ blocks) block = grind (arith, nat_tests, concat_push blocks block, append_assoc)

lines_push : (blocks : List (List ℕ)) (block : List ℕ)
    → lines_in_blocks (blocks ++ block ∷ []) ≡ lines_in_blocks blocks ++ lines_in block
lines_push [] block = append-nil (lines_in block)
lines_push (first ∷ blocks) block = grind (arith, nat_tests, lines_push blocks block, append_assoc)

lines_join : (front back : List ℕ) → EndsLine front → lines_in (front ++ back) ≡ lines_in front ++ lines_in back
lines_join front back ends = grind (arith, nat_tests, lines-append, map-append)

-- bytes up to a line feed end a line
pub cut_ends_line : (bytes lines : List ℕ) (end : ℕ) → 0 < end → end ≤ length bytes
    → (end ≡ 0) ⊎ (slice_index bytes (end - 1) ≡ 10) → lines ≡ take end bytes → EndsLine lines
cut_ends_line bytes lines end some within (inl none) is = absurd (omega (arith, some, none))
cut_ends_line bytes lines end some within (inr feed) is = grind (arith, nat_tests, length-take-le, get_or-take)

pub lines_end_more : (blocks : List (List ℕ)) (block : List ℕ) → EndLines blocks → EndsLine block
    → EndLines (blocks ++ block ∷ [])
lines_end_more blocks block end ends = grind (arith, nat_tests, concat_push, append_assoc, lines_join, lines_push)

-- whole lines stand in blocks, and the last block may end anywhere
pub lines_are_whole : (blocks : List (List ℕ)) (last : List ℕ) → EndLines blocks → AreWholeLines (blocks ++ last ∷ [])
lines_are_whole blocks last end = grind (arith, nat_tests, lines_push, concat_push)

-- a block was cut behind its lines
pub cut_goes_over : (blocks : List (List ℕ)) (last lines next : List ℕ) (end : ℕ) → lines ≡ take end last
    → next ≡ take (length last - end) (drop end last) → concat (blocks ++ lines ∷ []) ++ next ≡ concat blocks ++ last
cut_goes_over blocks last lines next end lines_are next_is =
    grind (arith, nat_tests, concat_push, append_assoc, take_rest, take-append-drop)
