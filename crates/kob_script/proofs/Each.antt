-- Values that are read in turn, by a loop over what they are read from.
use Rattle.kob_script.proofs.Imports.{None, Option, Some, result_err, Err, Fails, Fault, FaultKind, LineError, List, Memory, Ok, Result, [], ap, append-nil, append_assoc, arith, drop, drop_more, drop_of_length-le, get_or, length, map, nat_tests, refl, subst, sym, ℕ, ◌++◌, ◌+◌, ◌<◌, ◌>>=◌, ◌∙◌, ◌∷◌, ◌≡◌, ◌≤◌}
use Rattle.kob_script.specs.Words.{each}

-- values that stand before what is read
abbrev pub with_front : {A : Type 0} → List A → Result (List A) FaultKind → Result (List A) FaultKind
with_front front read = read >>= λ others. Ok (front ++ others)

-- one value more at the front
pub with_front_more : {A : Type 0} (front : List A) (x : A) (read : Result (List A) FaultKind)
    → with_front (front ++ x ∷ []) read ≡ with_front front (read >>= λ others. Ok (x ∷ others))
with_front_more front x (Ok xs) = ap Ok (append_assoc front (x ∷ []) xs)
with_front_more front x (Err kind) = refl

-- one value more, and then the rest
abbrev pub one_more : {A B : Type 0} → (A → Result B FaultKind) → List A → Result B FaultKind
    → Result (List B) FaultKind
one_more read rest r = r >>= λ first. each read rest >>= λ others. Ok (first ∷ others)

-- a loop that takes what is left apart
module _ {A B : Type 0} (read : A → Result B FaultKind) (all : Result (List B) FaultKind) (xs more : List A) (x : A)
    (front : List B) (kept : with_front front (each read xs) ≡ all) (split : xs ≡ x ∷ more) where
  front_is : with_front front (one_more read more (read x)) ≡ all
  unfolding each
  front_is = rw split at kept

  pub front_fails : (e : LineError) → Fails e (read x) → Fails e all
  front_fails (Memory e) fails = tt
  front_fails (Fault kind) fails = sym (rw fails at front_is)

  pub front_keeps : (y : B) → read x ≡ Ok y → with_front (front ++ y ∷ []) (each read more) ≡ all
  front_keeps y gives = with_front_more front y (each read more) ∙ (rw gives at front_is)

pub front_ends : {A B : Type 0} (read : A → Result B FaultKind) (all : Result (List B) FaultKind) (xs : List A)
    (front : List B) → with_front front (each read xs) ≡ all → xs ≡ [] → all ≡ Ok front
unfolding each
front_ends read all xs front kept none = grind (arith, nat_tests, append-nil)

-- the same by an index
pub value_at : {A : Type 0} (xs : List A) (i : ℕ) (d x : A) → i < length xs → x ≡ get_or xs i d
    → drop i xs ≡ x ∷ drop (i + 1) xs
value_at xs i d x below is = drop_more xs i d below ∙ ap (λ y. y ∷ drop (i + 1) xs) (sym is)

pub each_fails : {A B : Type 0} (read : A → Result B FaultKind) (xs : List A) (i : ℕ) (d x : A) (front : List B)
    (e : LineError)
    → with_front front (each read (drop i xs)) ≡ each read xs → i < length xs → x ≡ get_or xs i d → Fails e (read x)
    → Fails e (each read xs)
each_fails read xs i d x front e kept below is = front_fails read _ _ _ x front kept (value_at xs i d x below is) e

pub each_keeps : {A B : Type 0} (read : A → Result B FaultKind) (xs : List A) (i : ℕ) (d x : A) (front : List B) (y : B)
    → with_front front (each read (drop i xs)) ≡ each read xs → i < length xs → x ≡ get_or xs i d → read x ≡ Ok y
    → with_front (front ++ y ∷ []) (each read (drop (i + 1) xs)) ≡ each read xs
each_keeps read xs i d x front y kept below is = front_keeps read _ _ _ x front kept (value_at xs i d x below is) y

pub each_ends : {A B : Type 0} (read : A → Result B FaultKind) (xs : List A) (i : ℕ) (front : List B)
    → with_front front (each read (drop i xs)) ≡ each read xs → length xs ≤ i → each read xs ≡ Ok front
each_ends read xs i front kept past = front_ends read _ _ front kept (drop_of_length-le xs past)

-- what is read of values that are seen by a view
pub each_map : {X A B : Type 0} (read : A → Result B FaultKind) (view : X → A) (xs : List X)
    → each read (map view xs) ≡ each (λ x. read (view x)) xs
unfolding each
each_map read view [] = refl
each_map read view (x ∷ xs) = grind (arith, nat_tests, each_map read view xs)

pub each_fails_map : {X A B : Type 0} (read : A → Result B FaultKind) (view : X → A) (xs : List X) (e : LineError)
    → Fails e (each (λ x. read (view x)) xs) → Fails e (each read (map view xs))
each_fails_map read view xs e fails = subst (Fails e) (sym (each_map read view xs)) fails

-- the fault of values that are tested in turn
module _ {A B : Type 0} (read : A → Result B FaultKind) (xs more : List A) (x : A) (all : Option FaultKind)
    (kept : result_err (each read xs) ≡ all) (split : xs ≡ x ∷ more) where
  front_fault : result_err (one_more read more (read x)) ≡ all
  unfolding each
  front_fault = rw split at kept

  pub fault_found : (kind : FaultKind) → read x ≡ Err kind → Some kind ≡ all
  fault_found kind gives = rw gives at front_fault

  pub fault_behind : (y : B) → read x ≡ Ok y → result_err (each read more) ≡ all
  fault_behind y gives = by (each read more) (rw gives at front_fault)
    where
      by : (others : Result (List B) FaultKind) → result_err (others >>= λ ys. Ok (y ∷ ys)) ≡ all → result_err others ≡ all
      by (Ok ys) is = is
      by (Err kind) is = is

pub no_fault : {A B : Type 0} (read : A → Result B FaultKind) (xs : List A) (all : Option FaultKind)
    → result_err (each read xs) ≡ all → xs ≡ [] → None ≡ all
unfolding each
no_fault read xs all kept none = rw none at kept
