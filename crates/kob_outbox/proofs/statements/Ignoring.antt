-- INSERT OR IGNORE of one row.
use Rattle.kob_outbox.proofs.statements.Words.{[], AllByRecursion, Among, AreConflicts, Bool, Clears, Command, Concludes, Database, Enforced, Err, Error, Escapes, Executes, Has, Ignore, InsertOr, Int, IsJudged, IsMisplaced, Judged, Keys, List, Mode, None, Ok, OnRows, OnTable, Option, Outcome, Refers, Refusal, Row, Schema, Some, Source, State, Table, Task, Term, Trees, Values, Written, accepts_terms, all_has, any_from_none, ap, arith, cast_row, conflicts, count_of, edit_of, edited, enumerate_from, false, fits_i64, id_in, if◌then◌else◌, inl, inr, length, list_any, map, mode_of, nat_tests, pos, refl, rowid, some_from, subst, suc, sym, true, understood, value_rows, ℕ, ◌++◌, ◌/◌, ◌<◌, ◌^◌, ◌∙◌, ◌∷◌, ◌≡◌}
use Rattle.kob_outbox.proofs.statements.Plain.{IsMemory, IsWhole, NeverFails, for_memory_or, same_value}
use Rattle.kob_outbox.proofs.statements.Values.{all_below, any_numbered, none_conflicts, one_conflicts, put_last, fits}
use Rattle.kob_outbox.proofs.statements.Steps.{IsAlone, KeepOthers, candidate, put, task_on, tried, uncounted, IsWriting, wrote}

-- nothing in the row alone speaks against it
abbrev pub IsSuited : Table → Row → Type 0
IsSuited table new = (why : Refusal) → ¬ (IsJudged (uncounted table) new (Some why))

-- as where a row passes each test on it
pub suits_by : (table : Table) (row : Row) → IsJudged (uncounted table) row None → IsSuited table row
suits_by table row fine why judged = grind (arith, nat_tests)

-- no table refers to another
abbrev pub ReferToNone : Schema → Type 0
ReferToNone schema = (among : Among) (db : Trees) → Refers among schema db

-- no row of such a table refers to a row
pub all_fine : (rows : List Row) → AllByRecursion (λ row. true ≡ true) rows
all_fine [] = tt
all_fine (row ∷ rows) = (refl, all_fine rows)

-- the statement may stand anywhere, and ends no transaction
module _ (at : ℕ) (from : Source) (old : State) where
  pub not_misplaced : (e : Error) → ¬ (IsMisplaced old (InsertOr at Ignore from []) e)
  not_misplaced e misplaced = grind (arith, nat_tests)

  pub not_escaping : ¬ (Escapes 0 old (InsertOr at Ignore from []))
  not_escaping escapes = grind (arith, nat_tests)

module _ (limit : Option ℕ) (keys : Keys) (schema : Schema) (table : Table) (params : Row) where
  abbrev Here : Task
  Here = task_on limit keys schema table params

  -- such a row goes in where none conflicts with it, and else nothing is done
  pub judged_clears : (new : Row) → IsSuited table new
      → (db : Trees) (out : Outcome Written) (verdict : Option Refusal) → IsJudged (uncounted table) new verdict
      → Judged Here Ignore [] new db verdict out
      → (found : List Row) × AreConflicts None schema.indexes (uncounted table) (db table.tree) new found
      × Clears Here Ignore new db found out
  judged_clears new suits db out verdict judged h = grind (arith, nat_tests)

  -- what ends a statement does not stop it
  never_concludes : ReferToNone schema → (mode : Mode) (w : Written) (stop : Option Error)
      → ¬ (Concludes Here mode None w (Err stop))
  never_concludes free mode w stop (inl h) = h.1.0 (free _ w.trees)
  never_concludes free mode w stop (inr (doubt, tested, inl h)) = let e = h.1 in cc
  never_concludes free mode w stop (inr (doubt, tested, inr h)) = let e = h.2 in cc

  -- where a row that conflicts is there, nothing stops the statement
  pub never_stops : ReferToNone schema
      → (alone : IsAlone schema keys table.tree) (at : ℕ) (terms : List Term) (width : ℕ) (source new : Row)
      (db : Trees) (mode : Mode) → value_rows (params ++ []) width (length terms / width) terms ≡ source ∷ []
      → limit ≡ None → accepts_terms terms (params ++ []) ≡ true
      → candidate limit keys schema table params alone Ignore db source ≡ new → fits_i64 (id_in (rowid new)) ≡ true
      → IsSuited table new → ¬ (AreConflicts None schema.indexes (uncounted table) (db table.tree) new [])
      → (stop : Option Error) → ¬ (OnRows Here mode None (InsertOr at Ignore (Values terms width) []) db (Err stop))
  never_stops free alone at terms width source new db mode is unlimited accepted row fits suits conflicting stop
      (inr (w, did, h)) = never_concludes free mode w stop h
  never_stops free alone at terms width source new db mode is unlimited accepted row fits suits conflicting stop (inl (why, did, same)) =
      grind (arith, nat_tests, conflicts, judged_clears, count_of, tried)

-- What such a statement does to a table that is numbered from 1 on: what is there already stays alone, and what is new
-- goes last.
pub record Ignored {X : Type 0} (schema : Schema) (table : Table) (row : ℕ × X → Row) (xs : List X) (x : X)
    (there : Bool) (db after : Trees) (count : ℕ) : Type 0 where
  pub fresh : there ≡ false → (count ≡ 1) × (after table.tree ≡ map row (enumerate_from 1 (xs ++ x ∷ [])))
  pub again : there ≡ true → (count ≡ 0) × (after table.tree ≡ map row (enumerate_from 1 xs))
  pub tables : KeepOthers table.tree db after schema.tables

all_same : (tree : ℕ) (db next : Trees) (tables : List Table) → next ≡ db → KeepOthers tree db next tables
all_same tree db next [] same = tt
all_same tree db next (t ∷ tables) same = grind (arith, nat_tests, all_same tree db next tables same)

module _ {schema : Schema} {text : List ℕ} {terms : List Term} {width at : ℕ} {table : Table}
    (write : IsWriting schema text (InsertOr at Ignore (Values terms width) []) at table)
    (alone : IsAlone schema Enforced table.tree) (params source : Row)
    (given : value_rows (params ++ []) width (length terms / width) terms ≡ source ∷ [])
    {X : Type 0} (row : ℕ × X → Row) (numbered : (p : ℕ × X) → rowid (row p) ≡ Int (pos p.0)) (same : X → X → Bool)
    (conflict : (p q : ℕ × X) → p.0 < q.0
    → conflicts None schema.indexes (uncounted table) (row q) (row p) ≡ same p.1 q.1) (old : State)
    (has : old.now.schema ≡ schema) (n : ℕ) (x : X) (xs : List X) (next : n ≡ suc (length xs))
    (holds : old.now.trees table.tree ≡ map row (enumerate_from 1 xs))
    (cast : cast_row (uncounted table) (row (n, x)) ≡ row (n, x))
    (tried_as : candidate old.step_limit Enforced schema table params alone Ignore old.now.trees source ≡ row (n, x))
    (suits : IsSuited table (row (n, x))) where
  abbrev db : Trees
  db = old.now.trees

  abbrev there : Bool
  there = list_any (λ y. same y x) xs

  abbrev task : Task
  task = task_on old.step_limit Enforced schema table params

  abbrev Found : List Row → Type 0
  Found = AreConflicts None schema.indexes (uncounted table) (db table.tree) (row (n, x))

  abbrev placed : List (ℕ × X)
  placed = enumerate_from 1 xs

  abbrev same_at : ℕ × X → Bool
  same_at p = same p.1 x

  conflict_at : (p : ℕ × X) → Has placed p
      → conflicts None schema.indexes (uncounted table) (row (n, x)) (row p) ≡ same_at p
  conflict_at p has = grind (arith, nat_tests, all_has, all_below)

  none_found : Found [] → there ≡ false
  none_found h = grind (arith, nat_tests, any_numbered, any_from_none, none_conflicts, conflict_at)

  some_found : (f : Row) (more : List Row) → Found (f ∷ more) → there ≡ true
  some_found f more h =
      let p = one_conflicts row placed (db table.tree) holds None schema (uncounted table) (row (n, x)) same_at
      conflict_at f more h in sym (any_numbered (λ y. same y x) 1 xs) ∙ some_from same_at placed p.0 p.2 p.1

  abbrev Left : Trees → ℕ → Type 0
  Left = Ignored schema table row xs x there db

  cleared : (one : Written) (found : List Row) → Found found → Clears task Ignore (row (n, x)) db found (Ok one)
      → Left one.trees (length one.rows)
  cleared one [] conf h =
      let applies = put old.step_limit Enforced schema table params alone (row (n, x)) db one h in
      let last = put_last row numbered n xs x next in let none = none_found conf in
      grind (arith, nat_tests, edit_of, edited)
  cleared one (f ∷ more) conf h = grind (arith, nat_tests, same_value, some_found, all_same)

  pub ignores : (new : State) (count : ℕ) → Executes text params old new (Ok count)
      → Ignored schema table row xs x there old.now.trees new.now.trees count × (new.now.schema ≡ schema)
      × (new.committed ≡ (if old.in_transaction then old.committed else new.now))
      × (new.in_transaction ≡ old.in_transaction)
  ignores new count h =
      let it = wrote write params old new has count h in
      let u = tried old.step_limit Enforced schema table params alone Ignore [] terms width source (row (n, x)) db
      it.written given tried_as it.does in
      let judged = judged_clears old.step_limit Enforced schema table params (row (n, x)) suits db (Ok u.one)
      u.verdict u.judged u.does in
      let after : new.now.trees ≡ u.one.trees = ap (λ (d : Database). d.trees) it.now ∙ u.trees in
      grind (arith, nat_tests, cleared)

  -- where it is there, nothing but want of memory stops the statement
  pub stopped_by_memory : ReferToNone schema → IsWhole (length params) text (understood schema text)
      → accepts_terms terms (params ++ []) ≡ true → n < 2 ^ 63 → there ≡ true → (new : State) (e : Error)
      → NeverFails old new → Executes text params old new (Err e) → IsMemory e
  stopped_by_memory free whole accepted low found new e never h =
      let putting : Command = InsertOr at Ignore (Values terms width) [] in
      let small = ap (λ v. fits_i64 (id_in v)) (numbered (n, x)) ∙ fits n low in
      elim (for_memory_or old new never text params schema has write.plain whole putting write.is refl
      (not_misplaced at (Values terms width) old) e h) [
        | inl memory ↦ memory
        | inr stopped ↦ absurd (
            never_stops old.step_limit Enforced schema table params free alone at terms width source (row (n, x)) db
            (mode_of old) given never.unlimited accepted tried_as small suits
            (λ conf. let no = sym found ∙ none_found conf in cc) stopped.1
            (rw write.found at (subst (λ s. OnTable old.step_limit (mode_of old) params
            (record old.now { schema = s }) at (λ task. OnRows task (mode_of old) None putting db) (Err stopped.1)) has
            stopped.2))
            )
      ]
