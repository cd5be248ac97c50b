-- A SELECT over one table: what its text means, what it answers and leaves, and the rows that it picks.
use Rattle.kob_outbox.proofs.statements.Words.{IfErr-weaker, IfOk-weaker, [], Binary, Database, Error, FailsToQuery, Global, HasCleanDisk, Held, IfErr, IfOk, Int, IsAnswer, IsAtRest, IsPlain, List, MemStore, None, Null, Program, Query, Result, Row, Schema, Select, Shown, Term, Trees, Vec, accepts_program, ap, col, command_of, database, end, false, inner, length, lit, memory_is_clean, negsuc, overlay, pos, reads_as, reads_listing, refl, true, understood, ℕ, ◌∷◌, ◌≡◌, Bool, Env, IsAscending, IsPermutation, Less, Ordering, Output, arith, ascending-map, ascending_weaker, cases_Bool, filter, flat_map, holds, if◌then◌else◌, length-map, length_permutation, list_all, map, map-map, nat_tests, one_permutation, output, output_cmp, output_cmp_total, page, sorted_unique, ◌<◌, ◌∙◌, ◌≤◌, filter-map, has_rowid, list_any, not, sym, without_all, ℤ, ◌||◌}
use Rattle.sqlite_value.specs.declared.keys.Key.{Key}
use Rattle.kob_outbox.proofs.statements.Plain.{IsMemory, IsWhole, for_memory, no_sum, all_stays, rests}

-- a query over one table
pub record Scan : Type 0 where
  pub tree : ℕ
  pub conditions : List Term
  pub shown : List Term
  pub order : List (Term × Key)
  pub limit : Term

abbrev pub over : ℕ → List Term → List Term → List (Term × Key) → Term → Scan
over tree conditions shown order limit =
    record { tree = tree; conditions = conditions; shown = shown; order = order; limit = limit }

abbrev pub query_of : Scan → Query
query_of s = record {
  from = inner s.tree end;
  filter = s.conditions;
  group = None;
  project = s.shown;
  distinct = false;
  collations = [];
  order = s.order;
  limit = s.limit;
  offset = lit (Int (pos 0));
}

abbrev pub program_of : Scan → Program
program_of s = record { lets = []; body = query_of s }

-- all rows
abbrev pub no_limit : Term
no_limit = lit (Int (negsuc 0))

-- by the table's key
abbrev pub by_key : List (Term × Key)
by_key = (col 1 0, record { collation = Binary; descending = false }) ∷ []

-- the text is this query over one table, and takes these parameters
pub record IsSelect (schema : Schema) (text : List ℕ) (params : Row) (s : Scan) : Type 0 where
  pub is : (names : List (List ℕ)) × (command_of (understood schema text) ≡ Select (program_of s) names)
  pub unlisted : reads_listing schema text ≡ false
  pub plain : IsPlain (understood schema text)
  pub whole : IsWhole (length params) text (understood schema text)
  pub accepted : accepts_program schema [] (query_of s) params ≡ true

-- what a query answers and leaves
pub record Queried {C : Type 0} (tables : Schema) (Rows : Trees → Type 0) (view : Trees → C) (old new : Held MemStore)
    (Answer : List Row → Type 0) (r : Result (Vec Row Global) Error) : Type 0 where
  pub rows : IfOk r (λ rows. Answer rows.items)
  pub memory : IfErr r IsMemory
  pub rests : IsAtRest tables Rows (database new)
  pub same : view (database new).now.trees ≡ view (database old).now.trees

pub queried : {schema : Schema} {Rows : Trees → Type 0} {text : List ℕ} {params : Row} {s : Scan} {C : Type 0}
    → IsSelect schema text params s
    → (view : Trees → C) (old new : Held MemStore) (r : Result (Vec Row Global) Error) (Answer : List Row → Type 0)
    → IsAtRest schema Rows (database old) → (database new).step_limit ≡ (database old).step_limit
    → ((rows : List Row) → IsAnswer (query_of s) (overlay (database old).now.trees []) params rows → Answer rows)
    → (HasCleanDisk (database new) → IfOk r (λ rows. Shown text params (database old) (database new) rows.items))
    → (HasCleanDisk (database new) → IfErr r (FailsToQuery text params (database old) (database new)))
    → Queried schema Rows view old new Answer r
queried {schema} {Rows} {text} {params} {s} is view old new r Answer has limit answers ok err =
    let clean = memory_is_clean new in let from = database old in let to = database new in
    let stays =
    all_stays text params from to schema has.schema is.plain has.settled has.idle refl r (ok clean) (err clean) in
    record {
      rows =
          IfOk-weaker r _ _ (λ rows h. answers rows.items
          ((reads_as text params from to schema has.schema _ is.is.1 is.plain is.unlisted rows.items h).answer Null))
          (ok clean);
      memory =
          IfErr-weaker r _ _ (for_memory from to
          (record { unlimited = has.unlimited; is_open = refl; faults = (refl, refl) }) text params schema has.schema
          is.plain is.whole (query_of s) is.is.0 is.is.1 is.unlisted is.accepted
          (no_sum (query_of s) s.tree (refl, refl) params))
          (err clean);
      rests = rests from to has limit stays;
      same = ap (λ (d : Database). view d.trees) stays.now;
    }

-- ---- the rows that a query picks

-- the permutations of a list of one element at most
alone_order : {X : Type 0} (xs ys : List X) → length xs ≤ 1 → IsPermutation xs ys → ys ≡ xs
alone_order [] [] short same = refl
alone_order [] (y ∷ ys) short same = absurd (omega (arith, length_permutation _ _ same))
alone_order (x ∷ []) ys short same = one_permutation x ys same
alone_order (x ∷ y ∷ xs) ys short same = absurd (omega (arith, short))

pub all_stay : {X : Type 0} (xs : List X) → filter (λ x. true) xs ≡ xs
all_stay [] = refl
all_stay (x ∷ xs) = ap (λ more. x ∷ more) (all_stay xs)

module _ {X : Type 0} (s : Scan) (params : Row) (row : X → Row) (test : X → Bool)
    (passes : (x : X) → list_all (holds (params ∷ row x ∷ [])) s.conditions ≡ test x) where
  abbrev q : Query
  q = query_of s

  abbrev env : X → Env
  env x = params ∷ row x ∷ []

  -- what a row is ordered by, and what is shown of it
  abbrev out : X → Output
  out x = output q (env x)

  abbrev pick : Row → List Env
  pick r = if list_all (holds (params ∷ r ∷ [])) s.conditions then (params ∷ r ∷ []) ∷ [] else []

  picked : (xs : List X) → flat_map pick (map row xs) ≡ map env (filter test xs)
  picked [] = refl
  picked (x ∷ xs) = grind (arith, nat_tests, cases_Bool, picked xs)

  module _ (db : Trees) (xs : List X) (is : overlay db [] s.tree ≡ map row xs) (found : List X)
      (found_is : filter test xs ≡ found) (rows : List Row) (a : IsAnswer q (overlay db []) params rows) where
    abbrev outs : List Output
    outs = map out found

    pub same_rows : IsPermutation outs a.ordered
    same_rows =
        let kept : a.kept ≡ outs = a.distinct ∙ ap (map (output q))
        (a.grouped ∙ ap (flat_map pick) is ∙ picked xs ∙ ap (map env) found_is) ∙ map-map (output q) env found in
        grind (arith, nat_tests)

    abbrev paged : List Output → List Row
    paged found = page q params (map (λ (o : Output). o.1) found)

    -- rows that are picked in order are shown in order
    pub in_order : IsAscending (λ a b. output_cmp q a b ≡ Less) outs → rows ≡ paged outs
    in_order rising =
        a.shown ∙ ap paged
        (sorted_unique (output_cmp q) (output_cmp_total q) outs a.ordered rising same_rows a.sorted)

    -- one row has no order
    pub one_at_most : length found ≤ 1 → rows ≡ paged outs
    one_at_most short = grind (arith, nat_tests, length-map found out, alone_order outs a.ordered, same_rows)

-- what rows that bear rising numbers are ordered by, where that is the number
module _ {X : Type 0} (number : X → ℕ) (s : Scan) (out : X → Output) where
  abbrev cmp : Output → Output → Ordering
  cmp = output_cmp (query_of s)

  pub rises : ((x y : X) → number x < number y → cmp (out x) (out y) ≡ Less) → (xs : List X)
      → IsAscending (λ x y. number x < number y) xs → IsAscending (λ a b. cmp a b ≡ Less) (map out xs)
  rises below xs rising = grind (arith, nat_tests, ascending-map, ascending_weaker)

-- ---- rows that a list of numbers takes out of a table

module _ {X : Type 0} where
  filter_twice : (f g : X → Bool) (xs : List X)
      → filter (λ x. not (g x)) (filter (λ x. not (f x)) xs) ≡ filter (λ x. not (f x || g x)) xs
  filter_twice f g [] = refl
  filter_twice f g (x ∷ xs) = grind (arith, nat_tests, cases_Bool, filter_twice f g xs)

  -- one of the numbers is the row's
  abbrev pub is_named : (X → Row) → List ℤ → X → Bool
  is_named row ids x = list_any (λ id. has_rowid id (row x)) ids

  pub without_these : (row : X → Row) (ids : List ℤ) (xs : List X)
      → without_all (map row xs) ids ≡ map row (filter (λ x. not (is_named row ids x)) xs)
  without_these row [] xs = ap (map row) (sym (all_stay xs))
  without_these row (id ∷ ids) xs =
      ap (λ rows. without_all rows ids) (filter-map (λ r. not (has_rowid id r)) row xs)
      ∙ without_these row ids (filter (λ x. not (has_rowid id (row x))) xs)
      ∙ ap (map row) (filter_twice (λ x. has_rowid id (row x)) (is_named row ids) xs)
