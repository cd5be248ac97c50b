-- The words of a line that are cut so far, with those of what is left of it, are all.
use Rattle.std.proofs.Common.{List, [], ◌∷◌, ◌++◌, ap, append_assoc, arith, drop, drop_of_length-le, false, get_or, length, map, take, true, ℕ, ◌+◌, ◌-◌, ◌&&◌, ◌<◌, ◌∙◌, ◌≡◌, ◌≤◌}
use Rattle.std.proofs.lemmas.Bool.Decides.{nat_tests}
use Rattle.std.proofs.lemmas.List.{drop_more, get_or-drop, length-drop, map-append, take_more}
use Rattle.std.specs.List.{slice_range}
use Rattle.kob_mistakes.specs.Quotes.{after, cut_words, is_plain, with_word}
use Rattle.kob_mistakes.specs.declared.quotes.Quoting.{Quoting}
use Rattle.kob_script.specs.Words.{is_blank}

pub range_more : (line : List ℕ) (start i d : ℕ) → start ≤ i → i < length line
    → slice_range line start (i + 1) ≡ slice_range line start i ++ get_or line i d ∷ []
range_more line start i d begun below =
    let size : length (drop start line) ≡ length line - start = length-drop start line in
    let more : i + 1 - start ≡ i - start + 1 = omega arith in
    let same : start + (i - start) ≡ i = omega arith in
    ap (λ n. take n (drop start line)) more
    ∙ take_more (drop start line) (i - start) d (omega arith)
    ∙ ap (λ x. take (i - start) (drop start line) ++ x ∷ [])
    (get_or-drop start line (i - start) d ∙ ap (λ k. get_or line k d) same)

pub cuts : (words all : List (List ℕ)) (quoting : Quoting) (line : List ℕ) (start i d x : ℕ)
    → words ++ cut_words quoting (slice_range line start i) (drop i line) ≡ all
    → i < length line → x ≡ get_or line i d → is_plain quoting ≡ true → is_blank x ≡ true
    → (words ++ with_word (slice_range line start i))
    ++ cut_words quoting (slice_range line (i + 1) (i + 1)) (drop (i + 1) line) ≡ all
unfolding cut_words
cuts words all quoting line start i d x kept below is plain blank =
    grind (arith, nat_tests, drop_more, append_assoc)

pub goes_on : (words all : List (List ℕ)) (quoting : Quoting) (line : List ℕ) (start i d x : ℕ)
    → words ++ cut_words quoting (slice_range line start i) (drop i line) ≡ all
    → start ≤ i → i < length line → x ≡ get_or line i d → is_plain quoting && is_blank x ≡ false
    → words ++ cut_words (after quoting x) (slice_range line start (i + 1)) (drop (i + 1) line) ≡ all
unfolding cut_words
goes_on words all quoting line start i d x kept begun below is not_cut =
    grind (arith, nat_tests, drop_more, range_more)

pub ends : (words all : List (List ℕ)) (quoting : Quoting) (line : List ℕ) (start place i : ℕ)
    → words ++ cut_words quoting (slice_range line start place) (drop i line) ≡ all
    → length line ≤ i → words ++ with_word (slice_range line start place) ≡ all
unfolding cut_words
ends words all quoting line start place i kept past = grind (arith, nat_tests, drop_of_length-le)

-- a word more, of words that are lent
pub with_more : {A : Type 0} (view : A → List ℕ) (words : List A) (word : A) (bytes : List ℕ)
    → view word ≡ bytes → 0 < length bytes
    → map view (words ++ word ∷ []) ≡ map view words ++ with_word bytes
with_more view words word bytes is some = grind (arith, nat_tests, map-append)
