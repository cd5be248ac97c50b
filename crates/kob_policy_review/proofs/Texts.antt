-- Beginnings of texts, and a mark that stands in no text.
use Rattle.std.proofs.Common.{sym, ◌∙◌, ◌≡◌, Bool, true, false, List, [], ◌∷◌, ◌++◌, ℕ, ◌<◌, ◌≤◌, ap, arith, refl, length, drop, inl, inr, append_assoc, nat_eq, sum, ◌⊎◌}
use Rattle.std.proofs.lemmas.Bool.Decides.{Decides-eqb}
use Rattle.std.proofs.lemmas.Slice.Eq.{bytes_eq-Decides, starts_is}
use Rattle.std.proofs.lemmas.List.Sums.{sum_by_push}
use Rattle.std.specs.List.{starts_with}
use Rattle.kob_names.specs.Same.{same_text}

pub same_when : (a b : Bool) → (a ≡ true → b ≡ true) → (b ≡ true → a ≡ true) → a ≡ b
same_when true b there back = sym (there refl)
same_when false true there back = back refl
same_when false false there back = refl

-- a text begins with another where some rest follows that
pub begins : (text start : List ℕ) → starts_with nat_eq text start ≡ true
    → text ≡ start ++ drop (length start) text
begins text start = (starts_is Decides-eqb text start (starts_with nat_eq text start) refl).0

pub begins_so : (text start rest : List ℕ) → text ≡ start ++ rest → starts_with nat_eq text start ≡ true
begins_so text start = (starts_is Decides-eqb text start (starts_with nat_eq text start) refl).1

-- of two beginnings of one text the shorter begins the longer
shorter_front : (long short after_long after_short : List ℕ) → long ++ after_long ≡ short ++ after_short
    → length short ≤ length long → (rest : List ℕ) × (long ≡ short ++ rest)
shorter_front long [] after_long after_short same le = (long, refl)
shorter_front [] (c ∷ short) after_long after_short same le = absurd (omega (arith, le))
shorter_front (d ∷ long) (c ∷ short) after_long after_short same le =
    let heads : d ≡ c = cc in
    let tails : long ++ after_long ≡ short ++ after_short = cc in
    let (rest, is) = shorter_front long short after_long after_short tails (omega (arith, le)) in
    (rest, cc)

-- a name begins with what its longest beginning begins with, among those that are no longer
pub starts_below : (name longest start : List ℕ) → starts_with nat_eq name longest ≡ true
    → (starts_with nat_eq name start ≡ true → length start ≤ length longest)
    → starts_with nat_eq name start ≡ starts_with nat_eq longest start
starts_below name longest start takes most = same_when _ _
    (λ of_name.
    let (rest, is) = shorter_front longest start (drop (length longest) name) (drop (length start) name)
    (sym (begins name longest takes) ∙ begins name start of_name) (most of_name) in
    begins_so longest start rest is)
    (λ of_longest.
    begins_so name start (drop (length start) longest ++ drop (length longest) name)
    (begins name longest takes ∙ ap (λ t. t ++ drop (length longest) name) (begins longest start of_longest)
    ∙ append_assoc start (drop (length start) longest) (drop (length longest) name)))

-- what begins a text that ends with a mark begins it without, or is the whole
front_or_whole : (mark : ℕ) (front start rest : List ℕ) → front ++ mark ∷ [] ≡ start ++ rest
    → (start ≡ front ++ mark ∷ []) ⊎ ((more : List ℕ) × (front ≡ start ++ more))
front_or_whole mark front [] rest same = inr (front, refl)
front_or_whole mark [] (c ∷ []) rest same = inl cc
front_or_whole mark [] (c ∷ (d ∷ start)) rest same = absurd cc
front_or_whole mark (b ∷ front) (c ∷ start) rest same =
    let heads : b ≡ c = cc in
    let tails : front ++ mark ∷ [] ≡ start ++ rest = cc in
    elim (front_or_whole mark front start rest tails) [
      | inl whole ↦ inl cc
      | inr shorter ↦ inr (shorter.0, let is = shorter.1 in cc)
    ]

-- the mark counts in the sum of the bytes
sum_marked : (mark : ℕ) (start : List ℕ) → mark ≤ sum (start ++ mark ∷ [])
sum_marked mark start = omega (arith, sum_by_push (λ x. x) start mark)

-- no text whose bytes sum to less than the mark ends with it
pub no_mark : (mark : ℕ) (text start : List ℕ) → sum text < mark → same_text text (start ++ mark ∷ []) ≡ false
no_mark mark text start low = same_when _ _
    (λ same.
    let is = ap sum ((bytes_eq-Decides text (start ++ mark ∷ [])).0 same) in
    absurd (omega (arith, low, is, sum_marked mark start)))
    (λ h. absurd cc)

-- nor does the mark change what begins the text before it
pub starts_marked : (mark : ℕ) (text start : List ℕ) → sum start < mark
    → starts_with nat_eq (text ++ mark ∷ []) start ≡ starts_with nat_eq text start
starts_marked mark text start low = same_when _ _
    (λ marked.
    elim (front_or_whole mark text start _ (begins (text ++ mark ∷ []) start marked)) [
      | inl whole ↦ absurd (let is = ap sum whole in omega (arith, low, is, sum_marked mark text))
      | inr shorter ↦ begins_so text start shorter.0 shorter.1
    ])
    (λ plain.
    begins_so (text ++ mark ∷ []) start (drop (length start) text ++ mark ∷ [])
    (ap (λ t. t ++ mark ∷ []) (begins text start plain) ∙ append_assoc start (drop (length start) text) (mark ∷ [])))
