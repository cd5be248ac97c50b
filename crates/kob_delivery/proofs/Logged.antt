-- What the outbox of a service keeps of the rows that were recorded, and a partition's log of those routed there.
use Rattle.kob_delivery.proofs.Words.{AllByRecursion, Batch, Bool, Change, Contains, Contains-append_left, Contents, Dispatching, Event, Idem, IsGiven, IsRecordOf, IsRecordable, List, Next, None, Option, OutboxEvent, Place, Producer, Record, Repeat, Sent, Sequence, Some, [], after_record, after_use, ap, append-nil, append_assoc, arith, batch_of, bytes_eq, cases_Bool, empty, eq-eqb, eqb-true, false, filter, filter_keep, filter_map, filter_map-append, filter_skip, find, firsts, fold-append, get_or, get_or-drop, get_or_append_left, get_or_push, goes_to, history, history_from, id_text, ids_of, inl, inr, is_same, judge, judge_same, later_than, le-ltb, length, length-append, length-drop, length-map, length_push, list_any, lt-ltb, ltb-true, map-append, map_push, memory_length, nat_lt, nat_tests, next_seq, records_of, records_of_push, refl, routed_to, same_place, sent_batch, sent_in, sequence_of, slice_get, slice_get-get_or, stored_event, subst, sym, carried_id, true, with_new, with_sequence_for, without_sent, ℕ, ◌%◌, ◌++◌, ◌+◌, ◌<◌, ◌==◌, ◌∙◌, ◌∷◌, ◌≡◌, ◌≤◌}
use Rattle.kob_delivery.proofs.Lists.{AreAmong, any_same, bytes_turned, filter_twice, filter_all, all_last, all_weaker, any_last, none_in_filter, same_bytes, same_here, contains_more, places_are, same_some}
use Rattle.circular_buffer.specs.Buffer.{keep_last}
use Rattle.kob_producers.specs.Judge.{next_sequence}

-- numbered from n + 1 on, and none with an id that was seen before
abbrev pub InOrder : ℕ → List (List ℕ) → List Event → Type 0
InOrder n seen [] = Unit {0}
InOrder n seen (r ∷ rs) =
    (r.seq ≡ n + 1) × (list_any (bytes_eq r.id) seen ≡ false) × InOrder (n + 1) (seen ++ r.id ∷ []) rs

-- of the rows that were recorded these were sent, and these wait
pub record IsKept (rows : List Event) (c : Contents) (sent wait : List Event) : Type 0 where
  pub rows_are : rows ≡ sent ++ wait
  pub ids : c.ids ≡ ids_of rows
  pub mark : c.mark ≡ length sent
  pub waits : later_than c.mark c.events ≡ wait
  pub order : InOrder (length sent) (ids_of sent) wait

order_last : (n : ℕ) (seen : List (List ℕ)) (rs : List Event) (row : Event) → InOrder n seen rs
    → row.seq ≡ n + length rs + 1 → list_any (bytes_eq row.id) (seen ++ ids_of rs) ≡ false
    → InOrder n seen (rs ++ row ∷ [])
order_last n seen [] row h e new = (omega (arith, e), rw append-nil at new, tt)
order_last n seen (r ∷ rs) row h e new =
    (h.0, h.1, order_last (n + 1) (seen ++ r.id ∷ []) rs row h.2 (omega (arith, e)) (rw append_assoc new))

order_beyond : (m n : ℕ) (seen : List (List ℕ)) (rs : List Event) → m ≤ n → InOrder n seen rs
    → AllByRecursion (λ row. nat_lt m row.seq ≡ true) rs
order_beyond m n seen [] l h = tt
order_beyond m n seen (r ∷ rs) l h =
    (lt-ltb m r.seq (omega (arith, h.0)), order_beyond m (n + 1) (seen ++ r.id ∷ []) rs (omega arith) h.2)

pub kept_at_start : IsKept [] empty [] []
kept_at_start = record { rows_are = refl; ids = refl; mark = refl; waits = refl; order = tt }

-- the id of a row that may be recorded was never seen
pub is_fresh : (c : Contents) (change : Change) (event : OutboxEvent) → IsRecordable c change event
    → list_any (bytes_eq (id_text event.id)) c.ids ≡ false
is_fresh c change event may = grind (arith, nat_tests, any_same, bytes_turned)

pub kept_recorded : {rows : List Event} {c : Contents} {sent wait : List Event} (change : Change) (event : OutboxEvent)
    → IsRecordable c change event → IsKept rows c sent wait
    → IsKept (rows ++ stored_event (next_seq c) event ∷ []) (after_record c change event) sent
    (wait ++ stored_event (next_seq c) event ∷ [])
kept_recorded {rows} {c} {sent} {wait} change event may k = grind (arith, nat_tests, length-map, length-append, map-append, append_assoc, map_push, filter_keep, lt-ltb, order_last, is_fresh)

pub kept_swept : {rows : List Event} {c : Contents} {sent wait : List Event} → IsKept rows c sent wait
    → IsKept rows (without_sent c.mark c) sent wait
kept_swept {c = c} k = grind (arith, nat_tests, filter_twice)

-- the first row that waits is sent
pub kept_marked : {rows : List Event} {c : Contents} {sent rest : List Event} {r : Event}
    → IsKept rows c sent (r ∷ rest)
    → IsKept rows (record c { mark = r.seq }) (sent ++ r ∷ []) rest
kept_marked {c = c} {sent = sent} {rest = rest} {r = r} k =
    let more : (x : Event) → nat_lt r.seq x.seq ≡ true → nat_lt c.mark x.seq ≡ true =
    λ x h. lt-ltb c.mark x.seq (omega (arith, ltb-true r.seq x.seq h, k.mark, k.order.0)) in
    let beyond =
    order_beyond r.seq (length sent + 1) (ids_of sent ++ r.id ∷ []) rest (omega (arith, k.order.0)) k.order.2 in
    let tail : filter (λ row. nat_lt r.seq row.seq) (r ∷ rest) ≡ rest =
    rw (le-ltb r.seq r.seq (omega arith)) (filter_all (λ row. nat_lt r.seq row.seq) rest beyond) in
    record {
      rows_are = k.rows_are ∙ sym (append_assoc sent (r ∷ []) rest);
      ids = k.ids;
      mark = k.order.0 ∙ sym (length_push sent r);
      waits =
          sym (filter_twice (λ row. nat_lt r.seq row.seq) (λ row. nat_lt c.mark row.seq) more c.events)
          ∙ ap (filter (λ row. nat_lt r.seq row.seq)) k.waits
          ∙ tail;
      order = rw (length_push sent r, map_push (λ (row : Event). row.id) sent r) k.order.2;
    }

-- ---- what a partition's log holds of the rows that are routed there

-- what was given is still given once more is
pub given_later : {issued later : List ℕ} → AreAmong issued later → (o : Option Idem) → IsGiven issued o
    → IsGiven later o
given_later l None g = tt
given_later l (Some idem) g = l.each idem.id g

-- a batch of one record, which is what the route makes of a row for the place
pub record IsBatchOf (route : Dispatching) (q : Place) (row : Event) (message : Record) (issued : List ℕ)
    (b : Batch) : Type 0
  where
    pub tells : carried_id message ≡ Some row.id
    pub routed : route row ≡ Some (record { place = q; message = message })
    pub single : b.records ≡ message ∷ []
    pub given : IsGiven issued b.idem

module _ (route : Dispatching) (q : Place) where
  -- of the rows the log holds those up to some, and each batch is of a producer that was given its id
  pub record IsLogged (rows : List Event) (log : List Batch) (issued : List ℕ) (upto : List Event) : Type 0 where
    pub delivered : firsts bytes_eq (filter_map carried_id (records_of log)) ≡ ids_of (routed_to route q upto)
    pub each : AllByRecursion (IsRecordOf route q rows) (records_of log)
    pub given : AllByRecursion (λ (b : Batch). IsGiven issued b.idem) log

  pub logged_more_rows : {rows : List Event} {log : List Batch} {issued : List ℕ} {upto : List Event} (more : List Event)
      → IsLogged rows log issued upto → IsLogged (rows ++ more) log issued upto
  logged_more_rows {rows} {log} more k = grind (arith, nat_tests, all_weaker (IsRecordOf route q rows) (IsRecordOf route q (rows ++ more)) (λ x (r, at, e). (r, Contains-append_left rows more r at, e)) (records_of log) k.each)

  pub logged_later : {rows : List Event} {log : List Batch} {issued later : List ℕ} {upto : List Event}
      → AreAmong issued later → IsLogged rows log issued upto → IsLogged rows log later upto
  logged_later {log = log} {issued = issued} {later = later} l k = record {
    delivered = k.delivered;
    each = k.each;
    given = all_weaker (λ (b : Batch). IsGiven issued b.idem) (λ (b : Batch). IsGiven later b.idem)
        (λ b g. given_later l b.idem g) log k.given;
  }

  -- a row that is routed elsewhere
  pub logged_elsewhere : {rows : List Event} {log : List Batch} {issued : List ℕ} {upto : List Event} (row : Event)
      → goes_to q (route row) ≡ false → IsLogged rows log issued upto → IsLogged rows log issued (upto ++ row ∷ [])
  logged_elsewhere {upto = upto} row h k = grind (arith, nat_tests, filter_skip)

  -- what a log holds with one more batch
  appended : {rows : List Event} {log : List Batch} {issued : List ℕ} {upto : List Event} {row : Event} {x : Record}
      {b : Batch} (done : List Event) → Contains rows row → IsBatchOf route q row x issued b
      → with_new bytes_eq (ids_of (routed_to route q upto)) row.id ≡ ids_of (routed_to route q done)
      → IsLogged rows log issued upto → IsLogged rows (log ++ b ∷ []) issued done
  appended {rows} {log} {issued} {upto} {row} {x} {b} done at is e k = grind (arith, nat_tests, records_of_push, filter_map-append, fold-append, all_last)

  routed_last : (sent : List Event) (row : Event) (x : Record) → route row ≡ Some (record { place = q; message = x })
      → ids_of (routed_to route q (sent ++ row ∷ [])) ≡ ids_of (routed_to route q sent) ++ row.id ∷ []
  routed_last sent row x r = grind (arith, nat_tests, filter_keep, same_here, map_push)

  -- the first batch of a row
  pub logged_first : {rows : List Event} {log : List Batch} {issued : List ℕ} {sent : List Event} {row : Event} {x : Record}
      {b : Batch} → Contains rows row → IsBatchOf route q row x issued b
      → list_any (bytes_eq row.id) (ids_of sent) ≡ false
      → IsLogged rows log issued sent → IsLogged rows (log ++ b ∷ []) issued (sent ++ row ∷ [])
  logged_first {sent = sent} {row = row} {x = x} at is new k =
      appended (sent ++ row ∷ []) at is
      (rw (none_in_filter (bytes_eq row.id) (λ r. r.id) (λ r. goes_to q (route r)) sent new)
      (sym (routed_last sent row x is.routed))) k

  -- a further batch of the last row
  pub logged_again : {rows : List Event} {log : List Batch} {issued : List ℕ} {row : Event} {x : Record} {b : Batch}
      (sent : List Event) → Contains rows row → IsBatchOf route q row x issued b
      → IsLogged rows log issued (sent ++ row ∷ []) → IsLogged rows (log ++ b ∷ []) issued (sent ++ row ∷ [])
  logged_again {row = row} {x = x} sent at is k =
      appended (sent ++ row ∷ []) at is
      (rw (routed_last sent row x is.routed)
      (rw (any_last (bytes_eq row.id) (ids_of (routed_to route q sent)) row.id (same_bytes row.id)) refl)) k

-- The sequences of one producer on one partition, and how the broker judges its batches of one record.

-- the sequence of a producer's n-th record on a partition
abbrev pub wrapped : ℕ → ℕ
wrapped n = n % 2147483648

pub next_wrapped : (n : ℕ) → next_sequence (wrapped n) ≡ wrapped (n + 1)
next_wrapped n = omega arith

-- at most five apart, they differ
pub apart_wrapped : (j n : ℕ) → j < n → n ≤ j + 5 → wrapped j ≡ wrapped n → ⊥
apart_wrapped j n l h e = omega arith

-- the i-th batch of a producer, of one record
pub record IsNumber (p : Producer) (i : ℕ) (s : Sent) : Type 0 where
  pub epoch : s.epoch ≡ p.epoch
  pub base : s.base ≡ wrapped i
  pub single : s.count ≡ 1

-- all batches of the producer are of one record, and have the sequences from 0 on
abbrev pub AreCounted : Producer → List Sent → Type 0
AreCounted p sents = (i : ℕ) (d : Sent) → i < length sents → IsNumber p i (get_or sents i d)

pub counted_none : (p : Producer) → AreCounted p []
counted_none p i d h = absurd (omega arith)

pub counted_last : (p : Producer) (sents : List Sent) (s : Sent) → AreCounted p sents → IsNumber p (length sents) s
    → AreCounted p (sents ++ s ∷ [])
counted_last p sents s h n i d l = grind (arith, nat_tests, get_or_push, length_push, get_or_append_left)

-- the last of some batches is the one before their number
last_is : (x : Sent) (xs : List Sent) → slice_get (x ∷ xs) (length xs) ≡ Some (get_or (x ∷ xs) (length xs) x)
last_is x xs = slice_get-get_or (x ∷ xs) (length xs) x (omega arith)

-- a batch with the producer's epoch and this base
abbrev pub idem_of : Producer → ℕ → Idem
idem_of p base = record { id = p.id; epoch = p.epoch; base = base }

-- the judgement where the last batch has the producer's epoch
judged_same : (p : Producer) (base : ℕ) (x : Sent) (xs : List Sent) (n : ℕ) (l : Sent)
    → slice_get (x ∷ xs) (length xs) ≡ Some l
    → l.epoch ≡ p.epoch
    → judge (x ∷ xs) (idem_of p base) 1 ≡ judge_same
    (find (is_same (idem_of p base) 1) (keep_last memory_length (x ∷ xs)))
    base l
judged_same p base x xs n l at same = grind (arith, nat_tests)

-- a batch that comes next has the number of the batches as its sequence
pub next_base : (p : Producer) (sents : List Sent) (base : ℕ) → AreCounted p sents
    → judge sents (idem_of p base) 1 ≡ Next
    → base ≡ wrapped (length sents)
next_base p [] base h next = grind (arith, nat_tests, next)
next_base p (x ∷ xs) base h next = grind (arith, nat_tests, get_or (x ∷ xs) (length xs) x, h (length xs) x (omega arith), judged_same p base x xs (length xs) (get_or (x ∷ xs) (length xs) x) (last_is x xs) (h (length xs) x (omega arith)).epoch, last_is x xs)

-- what is found passes, and stands somewhere
found_at : {A : Type 0} (test : A → Bool) (xs : List A) (y : A) → find test xs ≡ Some y
    → Contains xs y × (test y ≡ true)
found_at test [] y h = cc
found_at test (x ∷ xs) y h =
    elim (cases_Bool (test x)) [
      | inl on ↦ let e : x ≡ y = same_some x y (rw on at h) in ((0, omega arith, e), ap test (sym e) ∙ on)
      | inr off ↦ let r = found_at test xs y (rw off at h) in (contains_more xs x y r.0, r.1)
    ]

repeat_found : (o : Option Sent) (base offset : ℕ) (l : Sent) → judge_same o base l ≡ Repeat offset → (s : Sent)
    × (o ≡ Some s)
repeat_found (Some s) base offset l h = (s, refl)
repeat_found None base offset l h = absurd (grind (arith, nat_tests, h))

-- a repeat has the sequence of one of the last five
pub repeat_base : (p : Producer) (sents : List Sent) (base offset : ℕ) → AreCounted p sents
    → judge sents (idem_of p base) 1 ≡ Repeat offset
    → (j : ℕ) × (j < length sents) × (length sents ≤ j + 5) × (base ≡ wrapped j)
repeat_base p sents base offset h again = grind (arith, nat_tests, judged_same, last_is, repeat_found, found_at, length-drop, get_or-drop)

-- the history with one more batch of the producer
history_last_from : (id start : ℕ) (log : List Batch) (b : Batch)
    → (offset : ℕ) × (history_from id start (log ++ b ∷ []) ≡ history_from id start log ++ sent_in id offset
    (length b.records) b.idem)
history_last_from id start [] b = (start, append-nil (sent_in id start (length b.records) b.idem))
history_last_from id start (c ∷ log) b = grind (arith, nat_tests, history_last_from id (start + length c.records) log b)

pub history_last : (p : Producer) (log : List Batch) (base : ℕ) (message : Record)
    → (offset : ℕ) × (history p.id (log ++ batch_of p base message ∷ [])
    ≡ history p.id log ++ sent_batch (idem_of p base) 1
    offset ∷ [])
history_last p log base message = grind (arith, nat_tests, history_last_from p.id 0 log (batch_of p base message), eq-eqb p.id p.id refl)

not_its : (id offset count : ℕ) (issued : List ℕ) → (Contains issued id → ⊥) → (o : Option Idem) → IsGiven issued o
    → sent_in id offset count o ≡ []
not_its id offset count issued new None h = refl
not_its id offset count issued new (Some idem) h =
    elim (cases_Bool (id == idem.id)) [
      | inl same ↦ absurd (new (subst (Contains issued) (sym (eqb-true id idem.id same)) h))
      | inr apart ↦ rw apart refl
    ]

-- a producer whose id was not given yet has sent nothing
pub no_history : (id : ℕ) (issued : List ℕ) → (Contains issued id → ⊥) → (log : List Batch)
    → AllByRecursion (λ (b : Batch). IsGiven issued b.idem) log
    → history id log ≡ []
no_history id issued new log h = go 0 log h
  where
    go : (start : ℕ) (log : List Batch) → AllByRecursion (λ (b : Batch). IsGiven issued b.idem) log
        → history_from id start log ≡ []
    go start [] h = refl
    go start (b ∷ log) h =
        ap (λ (xs : List Sent). xs ++ history_from id (start + length b.records) log)
        (not_its id start (length b.records) issued new b.idem h.0)
        ∙ go (start + length b.records) log h.1

pub sequence_used_here : (ss : List Sequence) (q : Place)
    → sequence_of (after_use ss q) q ≡ next_sequence (sequence_of ss q)
sequence_used_here [] q = rw (same_here q) refl
sequence_used_here (s ∷ ss) q = grind (arith, nat_tests, sequence_used_here ss q)

pub sequence_used_elsewhere : (ss : List Sequence) (p q : Place) → same_place p q ≡ false
    → sequence_of (after_use ss p) q ≡ sequence_of ss q
sequence_used_elsewhere [] p q h = rw h refl
sequence_used_elsewhere (s ∷ ss) p q h =
    let here : same_place s.place p ≡ true → same_place s.place q ≡ false =
    λ hit. ap (λ (x : Place). same_place x q) (places_are s.place p hit) ∙ h in
    grind (arith, nat_tests, here, sequence_used_elsewhere ss p q h)

pub sequence_prepared : (ss : List Sequence) (p q : Place) → sequence_of (with_sequence_for ss p) q ≡ sequence_of ss q
sequence_prepared [] p q = grind (arith, nat_tests)
sequence_prepared (s ∷ ss) p q = grind (arith, nat_tests, sequence_prepared ss p q)
