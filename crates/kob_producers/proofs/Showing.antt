-- What a table of producers and its rings show.
use Rattle.kob_producers.proofs.Words.{Bool, Buffer, CanAccept, Idem, IfSome, IsRing, IsSome, Judgement, List, None, Option, Recent, Sent, Some, TableKept, [], ap, arith, buffer, cond, eq_by_cmp_equiv, false, is_some, judge, judge_first, keep_last, lookup, ltb-true, map, memory_length, nat_cmp, nat_cmp_total, nat_eq, nat_lt, nat_tests, option_map, recent_after, recent_in, refl, sent_batch, sent_by, subst, sym, table_of, true, unsigned_tied, unwrap_or, ℕ, ◌&&◌, ◌++◌, ◌<◌, ◌||◌, ◌∙◌, ◌∷◌, ◌≡◌}
use Rattle.std.specs.FinMap as fin

abbrev items : Buffer Sent → List Sent
items ring = ring.items

found_is : (here : Bool) (ring : Buffer Sent) (o : Option (Buffer Sent)) (p : Option (List Sent))
    → p ≡ option_map items o → cond here (Some ring.items) p ≡ option_map items (cond here (Some ring) o)
found_is here ring o p is = grind (arith, nat_tests)

find_shown : (rings : List (ℕ × Buffer Sent)) (q : ℕ)
    → fin.find nat_cmp q (map (λ entry. (entry.0, entry.1.items)) rings) ≡ option_map items (lookup (nat_eq q) rings)
find_shown [] q = refl
find_shown (entry ∷ rings) q = grind (arith, nat_tests, nat_cmp, found_is, find_shown rings q)

pub get_shown : (rings : List (ℕ × Buffer Sent)) (q : ℕ)
    → fin.get (recent_in rings) q ≡ option_map items (lookup (nat_eq q) rings)
get_shown rings q =
    fin.get-from_entries nat_cmp_total (map (λ entry. (entry.0, entry.1.items)) rings) q ∙ find_shown rings q

pub sent_by_none : (rings : List (ℕ × Buffer Sent)) (q : ℕ) → lookup (nat_eq q) rings ≡ None
    → sent_by (recent_in rings) q ≡ []
sent_by_none rings q is = grind (arith, nat_tests, unwrap_or, option_map, get_shown)

pub sent_by_ring : (rings : List (ℕ × Buffer Sent)) (q : ℕ) (ring : Buffer Sent) → lookup (nat_eq q) rings ≡ Some ring
    → sent_by (recent_in rings) q ≡ ring.items
sent_by_ring rings q ring is = grind (arith, nat_tests, unwrap_or, option_map, get_shown)

-- tables with the same rings show the same
pub same_recent : (old new : List (ℕ × Buffer Sent)) → ((q : ℕ) → lookup (nat_eq q) new ≡ lookup (nat_eq q) old)
    → recent_in new ≡ recent_in old
same_recent old new same =
    fin.same_map nat_cmp_total fin.nat_cmp-IsAntisymmetric _ _ (λ q. grind (arith, nat_tests, get_shown, same q))

-- a ring that is written, or put in
pub written : (old new : List (ℕ × Buffer Sent)) (k : ℕ) (ring : Buffer Sent)
    → ((q : ℕ) → lookup (nat_eq q) new ≡ cond (nat_eq k q) (Some ring) (lookup (nat_eq q) old))
    → recent_in new ≡ fin.insert (recent_in old) k ring.items
written old new k ring is = fin.same_map nat_cmp_total fin.nat_cmp-IsAntisymmetric _ _ (λ q.
    get_shown new q ∙ ap (option_map items) (is q) ∙ sym (found_is (nat_eq k q) ring (lookup (nat_eq q) old) _ refl)
    ∙ ap (cond (nat_eq k q) (Some ring.items)) (sym (get_shown old q))
    ∙ ap (λ b. cond b (Some ring.items) (fin.get (recent_in old) q))
    (sym (unsigned_tied k q) ∙ (eq_by_cmp_equiv nat_cmp_total).symm k q)
    ∙ sym (fin.get-insert nat_cmp_total (recent_in old) k ring.items q))

-- what a ring is judged is what the table is
pub judged_by_ring : (rings : List (ℕ × Buffer Sent)) (recent : Recent) (idem : Idem) (count : ℕ) (ring : Buffer Sent)
    (j : Judgement) → recent_in rings ≡ recent → Some ring ≡ lookup (nat_eq idem.id) rings
    → j ≡ judge ring.items idem count → j ≡ judge (sent_by recent idem.id) idem count
judged_by_ring rings recent idem count ring j shown is judged =
    grind (arith, nat_tests, sent_by_ring rings idem.id ring (sym is))

pub judged_first : (rings : List (ℕ × Buffer Sent)) (recent : Recent) (idem : Idem) (count : ℕ) (j : Judgement)
    → recent_in rings ≡ recent → None ≡ lookup (nat_eq idem.id) rings
    → j ≡ judge_first idem.base → j ≡ judge (sent_by recent idem.id) idem count
judged_first rings recent idem count j shown is judged = grind (arith, nat_tests, sent_by_none)

pub reordered : (old new : List (ℕ × Buffer Sent)) (recent : Recent) → recent_in old ≡ recent
    → ((q : ℕ) → lookup (nat_eq q) new ≡ lookup (nat_eq q) old) → recent_in new ≡ recent
reordered old new recent shown same = same_recent old new same ∙ shown

-- a ring with one more batch is written, or put in
accepted_as : (old new : List (ℕ × Buffer Sent)) (recent : Recent) (idem : Idem) (count offset : ℕ)
    (before : List Sent) (ring : Buffer Sent) → recent_in old ≡ recent → sent_by (recent_in old) idem.id ≡ before
    → ring.items ≡ keep_last memory_length (before ++ sent_batch idem count offset ∷ [])
    → ((q : ℕ) → lookup (nat_eq q) new ≡ cond (nat_eq idem.id q) (Some ring) (lookup (nat_eq q) old))
    → recent_in new ≡ recent_after recent idem count offset
accepted_as old new recent idem count offset before ring shown was now is =
    written old new idem.id ring is
    ∙ ap (fin.insert (recent_in old) idem.id)
    (now ∙ ap (λ l. keep_last memory_length (l ++ sent_batch idem count offset ∷ [])) (sym was))
    ∙ ap (λ r. recent_after r idem count offset) shown

pub accepted_by_ring : (old new : List (ℕ × Buffer Sent)) (recent : Recent) (idem : Idem) (count offset : ℕ)
    (ring after : Buffer Sent) (s : Sent) → recent_in old ≡ recent → Some ring ≡ lookup (nat_eq idem.id) old
    → ring.capacity ≡ memory_length → s ≡ sent_batch idem count offset
    → after ≡ buffer (keep_last ring.capacity (ring.items ++ s ∷ [])) ring.capacity
    → ((q : ℕ) → lookup (nat_eq q) new ≡ cond (nat_eq idem.id q) (Some after) (lookup (nat_eq q) old))
    → recent_in new ≡ recent_after recent idem count offset
accepted_by_ring old new recent idem count offset ring after s shown at capacity told pushed is =
    accepted_as old new recent idem count offset ring.items after shown (sent_by_ring old idem.id ring (sym at))
    (ap items pushed ∙ ap (λ n. keep_last n (ring.items ++ s ∷ [])) capacity
    ∙ ap (λ x. keep_last memory_length (ring.items ++ x ∷ [])) told) is

pub accepted_first : (old new : List (ℕ × Buffer Sent)) (recent : Recent) (idem : Idem) (count offset : ℕ)
    (ring after : Buffer Sent) (s : Sent) → recent_in old ≡ recent → None ≡ lookup (nat_eq idem.id) old
    → ring ≡ buffer [] memory_length → s ≡ sent_batch idem count offset
    → after ≡ buffer (keep_last ring.capacity (ring.items ++ s ∷ [])) ring.capacity
    → ((q : ℕ) → lookup (nat_eq q) new ≡ cond (nat_eq idem.id q) (Some after) (lookup (nat_eq q) old))
    → recent_in new ≡ recent_after recent idem count offset
accepted_first old new recent idem count offset ring after s shown at fresh told pushed is =
    accepted_as old new recent idem count offset [] after shown (sent_by_none old idem.id (sym at))
    (ap items pushed ∙ ap (λ r. keep_last r.capacity (r.items ++ s ∷ [])) fresh
    ∙ ap (λ x. keep_last memory_length (x ∷ [])) told) is

by_ready : {b : Bool} (ready : Bool) → b ≡ true → (b || ready) ≡ true
by_ready ready is = ap (λ x. x || ready) is

-- a producer that has a ring can be put in, and one that has none only with a ring that is ready
pub can_accept : (rings : List (ℕ × Buffer Sent)) (kept : TableKept) (producer : ℕ) → recent_in rings ≡ kept.recent
    → is_some (lookup (nat_eq producer) rings) ≡ true → CanAccept kept producer
can_accept rings kept producer shown there = grind (arith, nat_tests, by_ready, is_some, get_shown)

none_accepted : (recent : Recent) (producer : ℕ) (o : Option (List Sent)) (ready : Bool) → fin.get recent producer ≡ o
    → o ≡ None → ready ≡ false → (is_some (fin.get recent producer) || ready) ≡ true → ⊥
none_accepted recent producer o ready is none unready can = grind (arith, nat_tests, is_some)

pub cannot_accept : (rings : List (ℕ × Buffer Sent)) (kept : TableKept) (producer : ℕ) → recent_in rings ≡ kept.recent
    → kept.ready ≡ false → None ≡ lookup (nat_eq producer) rings → CanAccept kept producer → ⊥
cannot_accept rings kept producer shown unready none can = grind (arith, nat_tests, none_accepted, get_shown)

pub empty_accepts_none : (kept : TableKept) (producer : ℕ) → kept ≡ table_of None → CanAccept kept producer → ⊥
empty_accepts_none kept producer none can =
    none_accepted kept.recent producer _ kept.ready
    (ap (λ k. fin.get k.recent producer) none ∙ fin.get-empty nat_cmp producer) refl (ap (λ k. k.ready) none) can

pub ring_capacity : (o : Option (Buffer Sent)) (ring : Buffer Sent) → IfSome o IsRing → Some ring ≡ o
    → ring.capacity ≡ memory_length
ring_capacity o ring is at = grind (arith, nat_tests)

pub fresh_is : (o : Option (Buffer Sent)) (ring : Buffer Sent) → IfSome o (λ r. r ≡ buffer [] memory_length)
    → Some ring ≡ o → ring ≡ buffer [] memory_length
fresh_is o ring is at = grind (arith, nat_tests)

pub some_is : (o : Option (Buffer Sent)) (ring : Buffer Sent) → Some ring ≡ o → IsSome o
some_is o ring at = subst (λ x. IsSome x) at refl

and_right : (a b : Bool) → (a && b) ≡ true → b ≡ true
and_right a b is = grind (arith, nat_tests)

-- a producer that has no ring can be put in only where there is room for one more
pub room_for : (rings : List (ℕ × Buffer Sent)) (kept : TableKept) (producer : ℕ) (there : Bool) (room : ℕ)
    → recent_in rings ≡ kept.recent → (there && nat_lt 0 room) ≡ kept.ready → None ≡ lookup (nat_eq producer) rings
    → CanAccept kept producer → 0 < room
room_for rings kept producer there room shown ready none can =
    grind (arith, nat_tests, is_some, get_shown, ltb-true, and_right)
