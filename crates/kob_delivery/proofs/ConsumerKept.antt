-- Offsets that are taken in order, and what a run of a consumer keeps, of one partition.
use Rattle.kob_delivery.proofs.Words.{AllByRecursion, Arrival, Cursor, List, None, Option, Place, Record, Some, [], ap, append-nil, arith, arrivals, behind, cursor_of, drop, enumerate_from, false, filter-append, firsts, fold, fold-append, from_place, inl, inr, length, map, map-append, map-map, max, nat_eq, nat_tests, range_with_len, read_from, refl, same_place, slice_get, suc, take, true, with_cursor, with_new, with_progress, zero, ℕ, ◌++◌, ◌+◌, ◌∙◌, ◌∷◌, ◌≡◌, ◌≤◌}
use Rattle.kob_delivery.proofs.Lists.{all_append, all_weaker, get_front, place_cases, places_are, same_here, numbers_on}

-- these offsets follow one another, and the records stand there
abbrev pub AreRead : List Record → ℕ → List (ℕ × Record) → Type 0
AreRead records n [] = Unit {0}
AreRead records n (x ∷ xs) = (x.0 ≡ n) × (slice_get records x.0 ≡ Some x.1) × AreRead records (n + 1) xs

offsets_read : (records : List Record) (n : ℕ) (xs : List (ℕ × Record)) → AreRead records n xs
    → (map (λ (x : ℕ × Record). x.0) xs ≡ range_with_len n (length xs)) × (behind n xs ≡ n + length xs)
offsets_read records n [] c = (refl, omega arith)
offsets_read records n (x ∷ xs) c = grind (arith, nat_tests, offsets_read records (n + 1) xs c.2)

-- what a list is from some place on
drop_at : (n : ℕ) (xs : List Record) (x : Record) (rest : List Record) → drop n xs ≡ x ∷ rest
    → (slice_get xs n ≡ Some x) × (drop (suc n) xs ≡ rest)
drop_at zero [] x rest e = cc
drop_at zero (y ∷ ys) x rest e = (cc, cc)
drop_at (suc n) [] x rest e = cc
drop_at (suc n) (y ∷ ys) x rest e = drop_at n ys x rest e

read_some : (records : List Record) (n j k : ℕ) (rest : List Record) → drop n records ≡ rest
    → AreRead records n (take j (enumerate_from n (take k rest)))
read_some records n zero k rest e = tt
read_some records n (suc j) zero rest e = tt
read_some records n (suc j) (suc k) [] e = tt
read_some records n (suc j) (suc k) (x ∷ rest) e =
    let d = drop_at n records x rest e in
    let next : n + 1 ≡ suc n = omega arith in
    (refl, d.0, read_some records (n + 1) j k rest (ap (λ (m : ℕ). drop m records) next ∙ d.1))

-- so it is of the first of what a FETCH reads
pub read_in_order : (records : List Record) (offset read count : ℕ)
    → AreRead records offset (take count (read_from records offset read))
read_in_order records offset read count = read_some records offset count read (drop offset records) refl

-- ---- what a run of a consumer keeps, of one partition

abbrev pub WithinCursor : ℕ → Option Cursor → Type 0
WithinCursor bound None = Unit {0}
WithinCursor bound (Some c) = c.position ≤ bound

abbrev pub WithinOffset : ℕ → Option ℕ → Type 0
WithinOffset bound None = Unit {0}
WithinOffset bound (Some n) = n ≤ bound

-- the record arrived from its offset
abbrev pub IsContent : List Record → Arrival → Type 0
IsContent records a = slice_get records a.offset ≡ Some a.message

abbrev pub offset_of : Arrival → ℕ
offset_of a = a.offset

cursor_moved : (cs : List Cursor) (c : Cursor) → cursor_of (with_cursor cs c) c.place ≡ Some c
cursor_moved [] c = rw (same_here c.place) refl
cursor_moved (x ∷ cs) c = grind (arith, nat_tests, same_here c.place, cursor_moved cs c)

cursor_elsewhere : (cs : List Cursor) (c : Cursor) (q : Place) → same_place c.place q ≡ false
    → cursor_of (with_cursor cs c) q ≡ cursor_of cs q
cursor_elsewhere [] c q h = rw h refl
cursor_elsewhere (x ∷ cs) c q h =
    let here : same_place x.place c.place ≡ true → same_place x.place q ≡ false =
    λ hit. ap (λ (y : Place). same_place y q) (places_are x.place c.place hit) ∙ h in
    grind (arith, nat_tests, here, h, cursor_elsewhere cs c q h)

-- a cursor that moves within the bound
within_moved : (cs : List Cursor) (c : Cursor) (q : Place) (bound : ℕ) → WithinCursor bound (cursor_of cs q)
    → (c.place ≡ q → c.position ≤ bound) → WithinCursor bound (cursor_of (with_cursor cs c) q)
within_moved cs c q bound w new = grind (arith, nat_tests, place_cases, cursor_moved, cursor_elsewhere)

within_more : (o : Option ℕ) (m n : ℕ) → m ≤ n → WithinOffset m o → WithinOffset n o
within_more None m n l w = tt
within_more (Some x) m n l w = omega arith

here_all : (q : Place) (xs : List (ℕ × Record)) → from_place q (arrivals q xs) ≡ arrivals q xs
here_all q [] = refl
here_all q (x ∷ xs) = grind (arith, nat_tests, same_here q, here_all q xs)

here_none : (p q : Place) → same_place p q ≡ false → (xs : List (ℕ × Record)) → from_place q (arrivals p xs) ≡ []
here_none p q h [] = refl
here_none p q h (x ∷ xs) = grind (arith, nat_tests, here_none p q h xs)

contents_arrived : (records : List Record) (p : Place) (n : ℕ) (xs : List (ℕ × Record)) → AreRead records n xs
    → AllByRecursion (IsContent records) (arrivals p xs)
contents_arrived records p n [] h = tt
contents_arrived records p n (x ∷ xs) h = (h.1, contents_arrived records p (n + 1) xs h.2)

-- the cursor behind records that were taken in
abbrev cursor_behind : Place → ℕ → List (ℕ × Record) → Cursor
cursor_behind place position xs = record { place = place; position = behind position xs; uncommitted = true }

module _ (q : Place) where
  -- what arrived has the offsets below a bound; neither the position nor the commit is beyond it
  pub record Taking (records : List Record) (committed : Option ℕ) (cursors : List Cursor) (arrived : List Arrival) :
      Type 0 where
    pub bound : ℕ
    pub offsets : firsts nat_eq (map offset_of (from_place q arrived)) ≡ range_with_len 0 bound
    pub contents : AllByRecursion (IsContent records) (from_place q arrived)
    pub cursor : WithinCursor bound (cursor_of cursors q)
    pub commit : WithinOffset bound committed

  pub taking_first : Taking [] None [] []
  taking_first = record { bound = 0; offsets = refl; contents = tt; cursor = tt; commit = tt }

  -- what records have to be that are taken in from the position on
  abbrev pub Fits : List Record → ℕ → ℕ → List (ℕ × Record) → Type 0
  Fits records bound position xs = (position ≤ bound) × AreRead records position xs

  module _ {records : List Record} {committed : Option ℕ} {cursors : List Cursor} {arrived : List Arrival} where
    -- the log grew
    pub taking_later : (more : List Record) → Taking records committed cursors arrived
        → Taking (records ++ more) committed cursors arrived
    taking_later more k = grind (arith, nat_tests, all_weaker, get_front)

    -- the cursors and what is committed change, within the bound
    abbrev taking_as : {new : Option ℕ} {moved : List Cursor} (k : Taking records committed cursors arrived)
        → WithinCursor k.bound (cursor_of moved q) → WithinOffset k.bound new → Taking records new moved arrived
    taking_as k cursor commit =
        record { bound = k.bound; offsets = k.offsets; contents = k.contents; cursor = cursor; commit = commit }

    pub taking_after_restart : Taking records committed cursors arrived → Taking records committed [] arrived
    taking_after_restart k = taking_as k tt k.commit

    -- the cursor of some place moves
    pub taking_after_move : (c : Cursor) (k : Taking records committed cursors arrived)
        → (c.place ≡ q → c.position ≤ k.bound) → Taking records committed (with_cursor cursors c) arrived
    taking_after_move c k new = taking_as k (within_moved cursors c q k.bound k.cursor new) k.commit

    -- what is committed changes, within the bound
    abbrev pub taking_with_commit : {new : Option ℕ} (k : Taking records committed cursors arrived)
        → WithinOffset k.bound new → Taking records new cursors arrived
    taking_with_commit k w = taking_as k k.cursor w

    pub taking_nothing : Taking records committed cursors arrived → Taking records committed cursors (arrived ++ [])
    taking_nothing k = rw (append-nil arrived) k

    -- records are taken in from the position on
    taking_here : (position : ℕ) (xs : List (ℕ × Record)) (k : Taking records committed cursors arrived)
        → Fits records k.bound position xs
        → Taking records committed (with_cursor cursors (cursor_behind q position xs)) (arrived ++ arrivals q xs)
    taking_here position xs k (l, c) =
        let read = offsets_read records position xs c in
        let more : from_place q (arrived ++ arrivals q xs) ≡ from_place q arrived ++ arrivals q xs =
        filter-append (λ (a : Arrival). same_place a.place q) arrived (arrivals q xs)
        ∙ ap (λ (ys : List Arrival). from_place q arrived ++ ys) (here_all q xs) in
        record {
          bound = max k.bound (position + length xs);
          offsets =
              ap (λ (ys : List Arrival). firsts nat_eq (map offset_of ys)) more
              ∙ ap (firsts nat_eq) (map-append offset_of (from_place q arrived) (arrivals q xs))
              ∙ fold-append (with_new nat_eq) [] (map offset_of (from_place q arrived)) (map offset_of (arrivals q xs))
              ∙ ap (λ (ns : List ℕ). fold (with_new nat_eq) ns (map offset_of (arrivals q xs))) k.offsets
              ∙ ap (fold (with_new nat_eq) (range_with_len 0 k.bound))
              (map-map offset_of (λ (x : ℕ × Record). record { place = q; offset = x.0; message = x.1 }) xs ∙ read.0)
              ∙ numbers_on k.bound position (length xs) l;
          contents =
              rw more
              (all_append (IsContent records) (from_place q arrived) (arrivals q xs) k.contents
              (contents_arrived records q position xs c));
          cursor = rw (cursor_moved cursors (cursor_behind q position xs)) (omega (arith, read.1));
          commit = within_more committed k.bound (max k.bound (position + length xs)) (omega arith) k.commit;
        }

    -- records of another place
    taking_elsewhere : (p : Place) (position : ℕ) (xs : List (ℕ × Record)) → same_place p q ≡ false
        → Taking records committed cursors arrived
        → Taking records committed (with_cursor cursors (cursor_behind p position xs)) (arrived ++ arrivals p xs)
    taking_elsewhere p position xs apart k = grind (arith, nat_tests, filter-append, here_none, append-nil, cursor_elsewhere)

    -- so many of the records that were heard are taken in
    pub taking_after_fetch : (p : Place) (position count : ℕ) (xs : List (ℕ × Record))
        (k : Taking records committed cursors arrived) → (count ≡ 0 → xs ≡ [])
        → (p ≡ q → Fits records k.bound position xs)
        → Taking records committed (with_progress cursors p count (behind position xs)) (arrived ++ arrivals p xs)
    taking_after_fetch p position zero xs k none fits = rw (none refl) (taking_nothing k)
    taking_after_fetch p position (suc count) xs k none fits = elim (place_cases p q) [ inl e ↦ rw e (taking_here position xs k (fits e)) | inr apart ↦ taking_elsewhere p position xs apart k ]
