-- Releases of Kafka, by their first two numbers.
use Rattle.std.specs.Prelude.{ℕ, Bool, true, false, List, [], ◌∷◌, Option, Some, None, codes, length, nat_lt, ◌&&◌, ◌||◌, if◌then◌else◌}
use Rattle.std.specs.Char.{is_ascii_digit}
use Rattle.std.specs.List.{list_all}
use Rattle.std.specs.Str.{bytes_eq}
use Rattle.kob_policy_text.specs.Listing.{first_parts}
use Rattle.kob_policy_text.specs.declared.release.Release.{Release}
use Rattle.kob_policy_text.specs.declared.release.Release.TheVariants.{Before28, Since28}

abbrev pub are_digits : List ℕ → Bool
are_digits text = list_all (λ byte. is_ascii_digit byte) text

-- what stands before the first dot, and what stands behind it
abbrev pub by_dot : List ℕ → Option (List ℕ × List ℕ) → List ℕ × List ℕ
by_dot text None = (text, [])
by_dot text (Some parts) = parts

abbrev pub around_dot : List ℕ → List ℕ × List ℕ
around_dot text = by_dot text (first_parts text (codes "."))

-- a number that is not given is 0
abbrev pub is_below_8 : List ℕ → Bool
is_below_8 [] = true
is_below_8 (digit ∷ []) = nat_lt digit 56
is_below_8 (digit ∷ second ∷ others) = false

-- 0.x, 1.x, and 2.0 to 2.7
abbrev pub is_before_28 : List ℕ → List ℕ → Bool
is_before_28 major minor =
    bytes_eq major (codes "0") || (bytes_eq major (codes "1")
    || (bytes_eq major (codes "2") && is_below_8 minor))

abbrev pub release_by : List ℕ → List ℕ → Option Release
release_by major minor =
    if nat_lt 0 (length major) && (are_digits major && are_digits minor)
    then Some (if is_before_28 major minor then Before28 else Since28) else None

-- MAJOR.MINOR, or MAJOR alone; what stands behind another dot does not matter
unfoldable pub release_named : List ℕ → Option Release
release_named text =
    release_by (around_dot text).0 (around_dot (around_dot text).1).0
