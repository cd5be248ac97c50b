-- How numbers and texts compare in SQL, and the rows of a table that are numbered from 1 on.
use Rattle.kob_outbox.proofs.statements.Words.{[], nat_tests, Binary, Bool, Compare, Equal, Greater, Gt, Int, Le, Less, List, Some, Text, ap, arith, bytes_eq, equal, false, fits_i64, from_truth, is_eq, is_eq-slice_cmp, is_gt, is_le, is_true, nat_lt, not, pos, sym, true, value_cmp, value_cmp-Int, value_cmp-Text, ℕ, ◌&&◌, ◌<◌, ◌^◌, ◌||◌, ◌∙◌, ◌≡◌, and-true, AllByRecursion, AreConflicts, Has, IsAscending, Option, Row, Schema, Table, all_from, conflicts, enumerate_from, fold, has_mapped, id_in, inl, length, list_any, map, mapped_has, next_rowid, put_row, refl, rowid, subst, suc, ◌++◌, ◌+ℤ◌, ◌+◌, ◌∷◌, false_from_ne_true}
pub use Rattle.std.proofs.lemmas.Bool.{false_from_ne_true as not_true}
use Rattle.sqlite_sql.specs.Ops.{binary}

truth_back : (b : Bool) → is_true (from_truth (Some b)) ≡ b
truth_back b = grind (arith, nat_tests)

pub equal_texts : (s t : List ℕ) → equal Binary (Text s) (Text t) ≡ bytes_eq s t
unfolding binary
equal_texts s t = truth_back _ ∙ ap is_eq (value_cmp-Text s t) ∙ is_eq-slice_cmp s t

pub number_below : (i k : ℕ) → i < k → value_cmp (Int (pos i)) (Int (pos k)) ≡ Less
number_below i k low = value_cmp-Int (pos i) (pos k) ∙ grind (arith, low)

pub number_above : (i k : ℕ) → k < i → value_cmp (Int (pos i)) (Int (pos k)) ≡ Greater
number_above i k low = value_cmp-Int (pos i) (pos k) ∙ grind (arith, low)

pub number_same : (k : ℕ) → value_cmp (Int (pos k)) (Int (pos k)) ≡ Equal
number_same k = value_cmp-Int (pos k) (pos k) ∙ grind arith

pub unequal_numbers : (i k : ℕ) → i < k → equal Binary (Int (pos i)) (Int (pos k)) ≡ false
unfolding binary
unequal_numbers i k low = truth_back _ ∙ ap is_eq (number_below i k low)

pub unequal_above : (i k : ℕ) → k < i → equal Binary (Int (pos i)) (Int (pos k)) ≡ false
unfolding binary
unequal_above i k low = truth_back _ ∙ ap is_eq (number_above i k low)

pub equal_itself : (k : ℕ) → equal Binary (Int (pos k)) (Int (pos k)) ≡ true
unfolding binary
equal_itself k = truth_back _ ∙ ap is_eq (number_same k)

pub greater : (i k : ℕ) → is_true (binary (Compare Gt Binary) (Int (pos i)) (Int (pos k))) ≡ nat_lt k i
unfolding binary
greater i k = truth_back _ ∙ ap is_gt (value_cmp-Int (pos i) (pos k)) ∙ grind arith

pub at_most : (i k : ℕ) → is_true (binary (Compare Le Binary) (Int (pos i)) (Int (pos k))) ≡ not (nat_lt k i)
unfolding binary
at_most i k = truth_back _ ∙ ap is_le (value_cmp-Int (pos i) (pos k)) ∙ grind arith

pub equal_numbers : (i k : ℕ) → is_eq (value_cmp (Int (pos i)) (Int (pos k))) ≡ true → i ≡ k
equal_numbers i k h = let same = sym (ap is_eq (value_cmp-Int (pos i) (pos k))) ∙ h in grind (arith, same)

pub fits : (n : ℕ) → n < 2 ^ 63 → fits_i64 (pos n) ≡ true
fits n low = grind (arith, low)

-- ---- tests

-- one test alone
pub alone_test : (b : Bool) → ((b && true) || false) ≡ b
alone_test b = grind (arith, nat_tests)

pub and_and_true : (a b : Bool) → (a && (b && true)) ≡ (a && b)
and_and_true a b = ap (λ c. a && c) (and-true b)

-- ---- the rows of a table that are numbered from 1 on

-- the rows of things that bear a number each, the table's key
module _ {X : Type 0} (row : X → Row) (number : X → ℕ) (numbered : (x : X) → rowid (row x) ≡ Int (pos (number x))) where
  pub goes_last : (new : X) (xs : List X) → AllByRecursion (λ x. number x < number new) xs
      → put_row (row new) (map row xs) ≡ map row (xs ++ new ∷ [])
  goes_last new [] below = refl
  goes_last new (x ∷ xs) below = grind (arith, nat_tests, number_below, goes_last new xs below.1)

module _ {X : Type 0} where
  -- their numbers rise
  all_above : (j k : ℕ) (xs : List X) → j < k → AllByRecursion (λ (q : ℕ × X). j < q.0) (enumerate_from k xs)
  all_above j k [] low = tt
  all_above j k (y ∷ xs) low = (low, all_above j (k + 1) xs (omega (arith, low)))

  pub rising : (k : ℕ) (xs : List X) → IsAscending (λ (p q : ℕ × X). p.0 < q.0) (enumerate_from k xs)
  rising k [] = tt
  rising k (x ∷ xs) = (all_above k (k + 1) xs (omega arith), rising (k + 1) xs)

  pub all_below : (k n : ℕ) (xs : List X) → n ≡ k + length xs
      → AllByRecursion (λ (p : ℕ × X). p.0 < n) (enumerate_from k xs)
  all_below k n [] is = tt
  all_below k n (x ∷ xs) is = (omega (arith, is), all_below (k + 1) n xs (omega (arith, is)))

  with_last : (k n : ℕ) (xs : List X) (x : X) → n ≡ k + length xs
      → enumerate_from k (xs ++ x ∷ []) ≡ enumerate_from k xs ++ (n, x) ∷ []
  with_last k n [] x is = let same : k ≡ n = omega (arith, is) in ap (λ i. (i, x) ∷ []) same
  with_last k n (y ∷ xs) x is = ap (λ more. (k, y) ∷ more) (with_last (k + 1) n xs x (omega (arith, is)))

  -- what is read back of their rows
  pub rows_back : (row : ℕ × X → Row) (decode : Row → X) → ((p : ℕ × X) → decode (row p) ≡ p.1) → (k : ℕ) (xs : List X)
      → map decode (map row (enumerate_from k xs)) ≡ xs
  rows_back row decode back k [] = refl
  rows_back row decode back k (x ∷ xs) =
      grind (arith, nat_tests, enumerate_from, rows_back row decode back (k + 1) xs)

  module _ (row : ℕ × X → Row) (numbered : (p : ℕ × X) → rowid (row p) ≡ Int (pos p.0)) where
    next_from : (k : ℕ) (xs : List X)
        → fold (λ _ r. id_in (rowid r) +ℤ pos 1) (pos k) (map row (enumerate_from k xs)) ≡ pos (k + length xs)
    next_from k [] = ap pos (omega arith)
    next_from k (x ∷ xs) = grind (arith, nat_tests, rowid, pos, fold, enumerate_from, next_from (k + 1) xs)

    pub next_number : (xs : List X) → next_rowid (map row (enumerate_from 1 xs)) ≡ pos (suc (length xs))
    next_number xs = next_from 1 xs ∙ ap pos (omega arith)

    -- the one with the next number goes last
    pub put_last : (n : ℕ) (xs : List X) (x : X) → n ≡ suc (length xs)
        → put_row (row (n, x)) (map row (enumerate_from 1 xs)) ≡ map row (enumerate_from 1 (xs ++ x ∷ []))
    put_last n xs x is =
        goes_last row (λ p. p.0) numbered (n, x) (enumerate_from 1 xs) (all_below 1 n xs (omega (arith, is)))
        ∙ ap (map row) (sym (with_last 1 n xs x (omega (arith, is))))

  -- a test on them does not see the numbers
  pub any_numbered : (test : X → Bool) (k : ℕ) (xs : List X)
      → list_any (λ (p : ℕ × X). test p.1) (enumerate_from k xs) ≡ list_any test xs
  any_numbered test k [] = refl
  any_numbered test k (x ∷ xs) = ap (λ b. test x || b) (any_numbered test (k + 1) xs)

-- the rows that a new one conflicts with, by a test on the things whose rows they are
module _ {X : Type 0} (row : X → Row) (xs : List X) (rows : List Row) (is : rows ≡ map row xs)
    (target : Option (List ℕ)) (schema : Schema) (table : Table) (new : Row) (same : X → Bool)
    (conflict : (x : X) → Has xs x → conflicts target schema.indexes table new (row x) ≡ same x) where
  pub none_conflicts : AreConflicts target schema.indexes table rows new [] → AllByRecursion (λ x. same x ≡ false) xs
  none_conflicts h = grind (arith, nat_tests, all_from, false_from_ne_true, mapped_has)

  pub one_conflicts : (r : Row) (more : List Row) → AreConflicts target schema.indexes table rows new (r ∷ more)
      → (x : X) × (same x ≡ true) × Has xs x × (r ≡ rowid (row x) ∷ [])
  one_conflicts r more h =
      let got = h.sound r (inl refl) in
      let x = has_mapped row xs got.0 (subst (λ rs. Has rs got.0) is got.1) in grind (arith, nat_tests)
