-- A run of a worker whose calls a journal served, along the journal: its moves and the entries, each at its pace.
use Rattle.kob_delivery.proofs.Words.{AllByRecursion, AreServed, Call, Contains, Entry, IsHistory, IsSameView, List, None, Option, Reply, Served, Some, Step, View, [], append-nil, append_assoc, arith, cases_Bool, cons_option, eqb-false, eqb-true, filter_map, inl, inr, nat_tests, of_each, refl, served_in, served_to, subst, ℕ, ◌++◌, ◌==◌, ◌∷◌, ◌≡◌, ◌⊎◌}

-- what was heard of a reply
abbrev pub Hears : Option Reply → Reply → Type 0
Hears heard reply = (heard ≡ None) ⊎ (heard ≡ Some reply)

-- no call was made, or nothing was heard of it
abbrev pub IsUnheard : Option Call → Type 0
IsUnheard None = Unit {0}
IsUnheard (Some c) = c.heard ≡ None

-- a call was made, which the entry served
abbrev pub IsServedBy : Entry → Option Call → Type 0
IsServedBy e None = ⊥
IsServedBy e (Some c) = (e.event.request ≡ c.request) × Hears c.heard e.reply

none_served : (o : Option Call) (cs : List Call) → AreServed (cons_option o cs) [] → IsUnheard o × AreServed cs []
none_served None cs a = (tt, a)
none_served (Some c) cs a = a

one_served : (o : Option Call) (cs : List Call) (e : Entry) (ss : List Served)
    → AreServed (cons_option o cs) (served_in e ∷ ss)
    → (IsUnheard o × AreServed cs (served_in e ∷ ss)) ⊎ (IsServedBy e o × AreServed cs ss)
one_served o cs e ss a = grind (arith, nat_tests)

-- moves of any kind that may be made one after another, and lead from one state to the other
abbrev pub IsRun : {S M : Type 0} → (S → M → Type 0) → (S → M → S) → S → List M → S → Type 0
IsRun May after s [] t = t ≡ s
IsRun May after s (m ∷ ms) t = May s m × IsRun May after (after s m) ms t

-- what moves add to a list
abbrev pub added : {S M A : Type 0} → (S → M → S) → (S → M → List A) → S → List M → List A
added after adds s [] = []
added after adds s (m ∷ ms) = adds s m ++ added after adds (after s m) ms

-- the entries lead, one after another, from what stands beside the run to what stands there at last
abbrev pub Passes : {B : Type 0} → (B → Entry → B → Type 0) → B → List Entry → B → Type 0
Passes Goes b [] end = end ≡ b
Passes {B} Goes b (e ∷ es) end = (c : B) × Goes b e c × Passes Goes c es end

-- What holds of what was added, of the state and of what stands beside them is kept by a move that no entry served, by
-- a move with the entry that served it, and by an entry of another worker: so it holds after all moves and entries.
module _ {S M A B : Type 0} (May : S → M → Type 0) (after : S → M → S) (call_of : M → Option Call)
    (adds : S → M → List A) (worker : ℕ) (Goes : B → Entry → B → Type 0) (K : List A → S → B → Type 0)
    (moves : (m : M) (xs : List A) (s : S) (b : B) → May s m → IsUnheard (call_of m) → K xs s b
    → K (xs ++ adds s m) (after s m) b)
    (serves : (m : M) (xs : List A) (s : S) (e : Entry) (b c : B) → May s m → IsServedBy e (call_of m)
    → e.worker ≡ worker → Goes b e c → K xs s b → K (xs ++ adds s m) (after s m) c)
    (others : (xs : List A) (s : S) (e : Entry) (b c : B) → (e.worker ≡ worker → ⊥) → Goes b e c → K xs s b → K xs s c)
    (t : S) (end : B) where
  abbrev Ends : List Served → List Entry → Type 0
  Ends ss es =
      (ms : List M) (s : S) (xs : List A) (b : B) → IsRun May after s ms t → AreServed (filter_map call_of ms) ss
      → Passes Goes b es end → K xs s b → K (xs ++ added after adds s ms) t end

  one_more : (m : M) (ms : List M) (s : S) (xs : List A)
      → K ((xs ++ adds s m) ++ added after adds (after s m) ms) t end → K (xs ++ added after adds s (m ∷ ms)) t end
  one_more m ms s xs k = subst (λ ys. K ys t end) (append_assoc xs (adds s m) (added after adds (after s m) ms)) k

  no_entry : Ends [] []
  no_entry [] s xs b run a p k = grind (arith, nat_tests, append-nil)
  no_entry (m ∷ ms) s xs b run a p k =
      let n = none_served (call_of m) (filter_map call_of ms) a in
      one_more m ms s xs (no_entry ms (after s m) (xs ++ adds s m) b run.1 n.1 p (moves m xs s b run.0 n.0 k))

  own_entry : (e : Entry) (es : List Entry) → Ends (served_to worker es) es → e.worker ≡ worker
      → Ends (served_in e ∷ served_to worker es) (e ∷ es)
  own_entry e es next own [] s xs b run a p k = absurd a
  own_entry e es next own (m ∷ ms) s xs b run a p k =
      one_more m ms s xs
      (elim (one_served (call_of m) (filter_map call_of ms) e (served_to worker es) a) [
        | inl n ↦
            own_entry e es next own ms (after s m) (xs ++ adds s m) b run.1 n.1 p (moves m xs s b run.0 n.0 k)
        | inr n ↦
            next ms (after s m) (xs ++ adds s m) p.0 run.1 n.1 p.2 (serves m xs s e b p.0 run.0 n.0 own p.1 k)
      ])

  along : (es : List Entry) → Ends (served_to worker es) es
  along [] ms s xs b run a p k = no_entry ms s xs b run a p k
  along (e ∷ es) ms s xs b run a p k =
      elim (cases_Bool (e.worker == worker)) [
        | inl own ↦ own_entry e es (along es) (eqb-true e.worker worker own) ms s xs b run (rw own at a) p k
        | inr other ↦
            along es ms s xs p.0 run (rw other at a) p.2 (others xs s e b p.0 (eqb-false e.worker worker other) p.1 k)
      ]

  pub kept_by_run : (ms : List M) (s : S) (es : List Entry) (b : B) → IsRun May after s ms t
      → AreServed (filter_map call_of ms) (served_to worker es) → Passes Goes b es end → K [] s b
      → K (added after adds s ms) t end
  kept_by_run ms s es b run a p k = along es ms s [] b run a p k

-- ---- what stands beside a run: views, by the steps of entries of which P holds, or nothing

abbrev pub StepsAs : (Entry → Type 0) → View → Entry → View → Type 0
StepsAs P v e w = P e × Step v e.event.request e.reply w

pub history_passes : (P : Entry → Type 0) (v end : View) (es : List Entry) → IsHistory v es end → AllByRecursion P es
    → (w : View) × Passes (StepsAs P) v es w × IsSameView end w
history_passes P v end [] history each = (v, refl, history)
history_passes P v end (e ∷ es) history each = grind (arith, nat_tests, history_passes P history.0 end es history.2 each.1)

abbrev pub IsOf : List Entry → Unit {0} → Entry → Unit {0} → Type 0
IsOf journal b e c = Contains journal e

pub all_pass : (journal : List Entry) → Passes (IsOf journal) tt journal tt
all_pass journal = go journal (of_each (Contains journal) journal (λ e there. there))
  where
    go : (es : List Entry) → AllByRecursion (Contains journal) es → Passes (IsOf journal) tt es tt
    go [] each = refl
    go (e ∷ es) each = (tt, each.0, go es each.1)
