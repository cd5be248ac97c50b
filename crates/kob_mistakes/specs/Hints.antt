-- What people often do, and what to do in its place.
use Rattle.std.specs.Prelude.{ℕ, ◌==◌, ◌&&◌, ◌||◌, nat_lt, not, Bool, List, [], ◌∷◌, Option, Some, None, codes, nat_eq, if◌then◌else◌}
use Rattle.std.specs.List.{list_any, starts_with}
use Rattle.std.specs.Option.{option_or}

-- a text, or a line of it, begins so
abbrev pub begins_so : List ℕ → List ℕ → List ℕ → Bool
begins_so text line beginning =
    starts_with nat_eq text beginning || starts_with nat_eq line beginning

-- a mark of UTF-16, in one order of its bytes or the other
abbrev pub is_utf_16 : List ℕ → List ℕ → Bool
is_utf_16 text line =
    begins_so text line (255 ∷ 254 ∷ []) || begins_so text line (254 ∷ 255 ∷ [])

-- a text that is not what is asked for
abbrev pub hint_on_beginning : List ℕ → List ℕ → Option (List ℕ)
hint_on_beginning text line =
    if begins_so text line (239 ∷ 187 ∷ 191 ∷ [])
    then Some (codes "the text begins with a byte order mark: write it as UTF-8 without one")
    else (if is_utf_16 text line then Some (codes "the text is UTF-16: write it as UTF-8")
    else (if begins_so text line (codes "Current ACLs for")
    || begins_so text line (codes "ACLs for principal")
    then Some (codes "this is a list of bindings: kob policy answers questions about it")
    else (if begins_so text line (codes "kafka-acls")
    then Some (codes "a scene has kafka-acls options behind PRINCIPAL HOST acl; kob policy reads the command itself")
    else None)))

abbrev pub has : ℕ → List ℕ → Bool
has byte text = list_any (λ one. one == byte) text

-- on a line of so many words with a fault: a blank in JSON, which cuts a word in two, or quotes
abbrev pub hint_on : List ℕ → List ℕ → ℕ → Option (List ℕ)
hint_on text line words =
    option_or (hint_on_beginning text line) (if has 123 line && nat_lt 10 words
    then Some (codes "a blank inside a word is written %20, as in {\"total\":%2010}")
    else (if not (has 123 line) && (has 39 line || has 34 line)
    then Some (codes "quotes are not removed: they become a part of the word; a blank is written %20")
    else None))
