-- What is known of the bytes of a line before they are cut into words.
use Rattle.std.specs.Prelude.{◌≡◌, ℕ, List, false, ◌==◌, ◌-◌, ◌<◌, ◌≤◌, get_or, map}
use Rattle.std.specs.Simd.Lanes.{chunk, mask_l}
use Rattle.kob_script.specs.Words.{is_blank}

-- a bit for each byte from one place to another: whether it is a blank
abbrev pub blank_bits : List ℕ → ℕ → ℕ → ℕ
blank_bits line from to = mask_l (map is_blank (chunk from (to - from) line))

-- There is no percent sign from one place to another.
abbrev pub HasNoPercent : List ℕ → ℕ → ℕ → Type 0
HasNoPercent line from to =
    (k : ℕ) → from ≤ k → k < to → (get_or line k 0 == 37) ≡ false
