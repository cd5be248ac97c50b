-- How often a row stands on a partition: a batch that is the next under a producer id is of a row that has none there
-- under this id.
use Rattle.kob_delivery.proofs.Words.{AllByRecursion, Batch, Bool, Contains, Contains-append_right, Contents, Dispatching, Event, Hand, IsRecordOf, List, Next, Option, Place, Producer, Record, Sequence, Some, State, [], ap, arith, batch_of, bytes_eq, cases_Bool, false, filter, filter-append, filter_map, filter_map-append, history, ids_of, inl, inr, judge, later_than, length, length-append, length_push, list_any, list_any-append, map, map_push, nat_tests, records_of, refl, sequence_of, subst, sym, carried_id, true, true≢false, ℕ, ◌++◌, ◌+◌, ◌∙◌, ◌∷◌, ◌≡◌, ◌≤◌, ◌⊎◌}
use Rattle.kob_partition.proofs.Keeping.{records_of_push}
use Rattle.kob_delivery.specs.Repeats.{copies_of}
use Rattle.kob_delivery.proofs.Lists.{all_in, any_last, bytes_are, first_is, same_bytes, same_some}
use Rattle.kob_delivery.proofs.Logged.{InOrder, apart_wrapped, history_last, idem_of, next_base, wrapped}
use Rattle.kob_delivery.proofs.RouterKept.{Kept, TellsItsId, here, holding}

-- ---- copies in a log

-- how many records in a log carry the event id
abbrev pub copies : List ℕ → List Batch → ℕ
copies id log = copies_of id (records_of log)

copies_more : (id : List ℕ) (log : List Batch) (b : Batch)
    → copies id (log ++ b ∷ []) ≡ copies id log + copies_of id b.records
copies_more id log b =
    ap (copies_of id) (records_of_push log b)
    ∙ ap (λ ids. length (filter (bytes_eq id) ids)) (filter_map-append carried_id (records_of log) b.records)
    ∙ ap length (filter-append (bytes_eq id) (filter_map carried_id (records_of log)) (filter_map carried_id b.records))
    ∙ length-append (filter (bytes_eq id) (filter_map carried_id (records_of log)))
    (filter (bytes_eq id) (filter_map carried_id b.records))

one_copy : (id told : List ℕ) (x : Record) → carried_id x ≡ Some told → bytes_eq id told ≡ true
    → copies_of id (x ∷ []) ≡ 1
one_copy id told x tells on = rw (tells, on) refl

no_copy : (id told : List ℕ) (x : Record) → carried_id x ≡ Some told → bytes_eq id told ≡ false
    → copies_of id (x ∷ []) ≡ 0
no_copy id told x tells off = rw (tells, off) refl

-- a test that fails on all fails on each
fails_on_each : {A B : Type 0} (test : B → Bool) (f : A → B) (xs : List A) → list_any test (map f xs) ≡ false
    → AllByRecursion (λ x. test (f x) ≡ false) xs
fails_on_each test f [] h = tt
fails_on_each test f (x ∷ xs) h =
    elim (cases_Bool (test (f x))) [
      | inl on ↦ absurd (true≢false (rw on at h))
      | inr off ↦ (off, fails_on_each test f xs (rw off at h))
    ]

-- an id of no row is told by no record that is made of one
pub copies_none : (route : Dispatching) (q : Place) (rows : List Event) (id : List ℕ) (records : List Record)
    → AllByRecursion (TellsItsId route) rows → list_any (bytes_eq id) (ids_of rows) ≡ false
    → AllByRecursion (IsRecordOf route q rows) records → copies_of id records ≡ 0
copies_none route q rows id [] tells new each = refl
copies_none route q rows id (x ∷ records) tells new ((row, there, to), each) =
    let told : carried_id x ≡ Some row.id =
    all_in (TellsItsId route) rows row there tells (record { place = q; message = x }) to in
    let apart : bytes_eq id row.id ≡ false =
    all_in (λ (r : Event). bytes_eq id r.id ≡ false) rows row there
    (fails_on_each (bytes_eq id) (λ (r : Event). r.id) rows new) in
    rw (told, apart) (copies_none route q rows id records tells new each)

-- ---- rows that wait have ids of their own

any_more : (test : List ℕ → Bool) (xs ys : List (List ℕ)) → list_any test xs ≡ true → list_any test (xs ++ ys) ≡ true
any_more test xs ys h = rw (list_any-append test xs ys, h) refl

id_not_seen : (id other : List ℕ) (seen : List (List ℕ)) → list_any (bytes_eq id) seen ≡ true
    → list_any (bytes_eq other) seen ≡ false → bytes_eq id other ≡ false
id_not_seen id other seen is unseen =
    elim (cases_Bool (bytes_eq id other)) [
      | inl on ↦
          let same : list_any (bytes_eq id) seen ≡ list_any (bytes_eq other) seen =
          ap (λ (x : List ℕ). list_any (bytes_eq x) seen) (bytes_are id other on) in
          absurd (true≢false (sym is ∙ same ∙ unseen))
      | inr off ↦ off
    ]

seen_apart : (n : ℕ) (seen : List (List ℕ)) (rows : List Event) (id : List ℕ) → list_any (bytes_eq id) seen ≡ true
    → InOrder n seen rows → list_any (bytes_eq id) (ids_of rows) ≡ false
seen_apart n seen [] id is order = refl
seen_apart n seen (r ∷ rows) id is order =
    rw (id_not_seen id r.id seen is order.1)
    (seen_apart (n + 1) (seen ++ r.id ∷ []) rows id (any_more (bytes_eq id) seen (r.id ∷ []) is) order.2)

pub first_apart : (n : ℕ) (seen : List (List ℕ)) (row : Event) (rows : List Event) → InOrder n seen (row ∷ rows)
    → list_any (bytes_eq row.id) (ids_of rows) ≡ false
first_apart n seen row rows order =
    seen_apart (n + 1) (seen ++ row.id ∷ []) rows row.id (any_last (bytes_eq row.id) seen row.id (same_bytes row.id))
    order.2

-- ---- what a run of a router keeps

-- the rows past the mark
abbrev pub waiting : State → List Event
waiting s = later_than s.outbox.mark s.outbox.events

module _ (q : Place) where
  -- the row in hand has this id, and its batch under the present producer id is in the log
  pub record IsOwn (given : Option Producer) (ss : List Sequence) (held : Option Hand) (log : List Batch) (id : List ℕ) :
      Type 0 where
    pub producer : Producer
    pub hand : Hand
    pub before : ℕ
    pub has_producer : given ≡ Some producer
    pub has_hand : held ≡ Some hand
    pub its_id : hand.event.id ≡ id
    pub base : sequence_of ss q ≡ wrapped before
    pub one_more : length (history producer.id log) ≡ before + 1

  abbrev pub IsOwnIn : State → List Batch → List ℕ → Type 0
  IsOwnIn s log id = IsOwn s.producer s.sequences s.hand log id

  -- each id stands there at most once for each start of the router; and of a row that waits at most once for each
  -- earlier start, unless it has its batch under the present producer id
  pub record Few (s : State) (log : List Batch) (restarts : ℕ) : Type 0 where
    pub few : (id : List ℕ) → copies id log ≤ restarts + 1
    pub again : (id : List ℕ) → list_any (bytes_eq id) (ids_of (waiting s)) ≡ true
        → IsOwnIn s log id ⊎ (copies id log ≤ restarts)

  -- another state with the same rows that wait
  pub few_as : {s t : State} {log : List Batch} {restarts : ℕ} → waiting t ≡ waiting s
      → ((id : List ℕ) → IsOwnIn s log id → IsOwnIn t log id) → Few s log restarts → Few t log restarts
  few_as {s} {t} {log} {restarts} same own f = record {
    few = f.few;
    again = λ id there. by id (f.again id (rw same at there));
  }
    where
      by : (id : List ℕ) → IsOwnIn s log id ⊎ (copies id log ≤ restarts)
          → IsOwnIn t log id ⊎ (copies id log ≤ restarts)
      by id (inl o) = inl (own id o)
      by id (inr l) = inr l

  -- one more row, whose id is in no record
  pub few_recorded : {s t : State} {log : List Batch} {restarts : ℕ} (row : Event) → waiting t ≡ waiting s ++ row ∷ []
      → copies row.id log ≡ 0 → ((id : List ℕ) → IsOwnIn s log id → IsOwnIn t log id) → Few s log restarts
      → Few t log restarts
  few_recorded {s} {t} {log} {restarts} row more none own f = record {
    few = f.few;
    again = λ id there. by id (cases_Bool (list_any (bytes_eq id) (ids_of (waiting s))))
        (cases_Bool (bytes_eq id row.id)) there;
  }
    where
      by : (id : List ℕ)
          → (list_any (bytes_eq id) (ids_of (waiting s)) ≡ true) ⊎ (list_any (bytes_eq id) (ids_of (waiting s)) ≡ false)
          → (bytes_eq id row.id ≡ true) ⊎ (bytes_eq id row.id ≡ false)
          → list_any (bytes_eq id) (ids_of (waiting t)) ≡ true → IsOwnIn t log id ⊎ (copies id log ≤ restarts)
      by id (inl old) is there = elim (f.again id old) [ inl o ↦ inl (own id o) | inr l ↦ inr l ]
      by id (inr new) (inl on) there =
          let zero_there : copies id log ≡ 0 = ap (λ (x : List ℕ). copies x log) (bytes_are id row.id on) ∙ none in
          inr (omega arith)
      by id (inr new) (inr off) there = absurd (true≢false (sym there ∙ last_off id new off))
        where
          last_off : (id : List ℕ) → list_any (bytes_eq id) (ids_of (waiting s)) ≡ false → bytes_eq id row.id ≡ false
              → list_any (bytes_eq id) (ids_of (waiting t)) ≡ false
          last_off id new off = grind (arith, nat_tests, more, new, off, map_push, list_any-append)

  -- after a restart the present one was an earlier start
  pub few_restarted : {s t : State} {log : List Batch} {restarts : ℕ} → Few s log restarts → Few t log (restarts + 1)
  few_restarted f = record { few = λ id. let l = f.few id in omega (arith, l); again = λ id there. inr (f.few id) }

  -- the first row that waits is sent
  pub few_marked : {s t : State} {log : List Batch} {restarts : ℕ} (n : ℕ) (seen : List (List ℕ)) (h : Hand)
      (rest : List Event) → s.hand ≡ Some h → waiting s ≡ h.event ∷ rest → waiting t ≡ rest
      → InOrder n seen (h.event ∷ rest) → Few s log restarts → Few t log restarts
  few_marked {s} {t} {log} {restarts} n seen h rest held old now order f =
      record { few = f.few; again = λ id there. by id (rw now at there) }
    where
      apart : list_any (bytes_eq h.event.id) (ids_of rest) ≡ false
      apart = first_apart n seen h.event rest order

      was : (id : List ℕ) → list_any (bytes_eq id) (ids_of rest) ≡ true
          → list_any (bytes_eq id) (ids_of (waiting s)) ≡ true
      was id there = grind (arith, nat_tests, old, there)

      own : (id : List ℕ) → list_any (bytes_eq id) (ids_of rest) ≡ true → IsOwnIn s log id → ⊥
      own id there o =
          let same : h ≡ o.hand = same_some h o.hand (sym held ∙ o.has_hand) in
          let its : h.event.id ≡ id = ap (λ (x : Hand). x.event.id) same ∙ o.its_id in
          true≢false (sym there ∙ sym (ap (λ (x : List ℕ). list_any (bytes_eq x) (ids_of rest)) its) ∙ apart)

      by : (id : List ℕ) → list_any (bytes_eq id) (ids_of rest) ≡ true → IsOwnIn t log id ⊎ (copies id log ≤ restarts)
      by id there = elim (f.again id (was id there)) [ inl o ↦ absurd (own id there o) | inr l ↦ inr l ]

-- ---- a new batch of the row in hand

-- no batch of it was sent under the present producer id
not_own : (q : Place) (p : Producer) (ss : List Sequence) (h : Hand) (log : List Batch) (id : List ℕ)
    → sequence_of ss q ≡ wrapped (length (history p.id log)) → IsOwn q (Some p) ss (Some h) log id → ⊥
not_own q p ss h log id base o =
    let same : p ≡ o.producer = same_some p o.producer o.has_producer in
    let count : length (history p.id log) ≡ o.before + 1 =
    ap (λ (x : Producer). length (history x.id log)) same ∙ o.one_more in
    apart_wrapped o.before (length (history p.id log)) (omega arith) (omega arith) (sym o.base ∙ base)

pub few_after_batch : (route : Dispatching) (rows : List Event) (c : Contents) (p : Producer) (ss : List Sequence)
    (h : Hand) (log : List Batch) (issued : List ℕ) (x : Record) (restarts : ℕ)
    → Kept route h.place rows (holding c p ss h) log issued
    → route h.event ≡ Some (record { place = h.place; message = x })
    → judge (history p.id log) (idem_of p (sequence_of ss h.place)) 1 ≡ Next
    → Few h.place (holding c p ss h) log restarts
    → Few h.place (holding c p ss h) (log ++ batch_of p (sequence_of ss h.place) x ∷ []) restarts
few_after_batch route rows c p ss h log issued x restarts k to comes f = record {
  few = λ id. few_there id (cases_Bool (bytes_eq id h.event.id));
  again = λ id there. again_there id (cases_Bool (bytes_eq id h.event.id)) there;
}
  where
    s : State
    s = holding c p ss h

    b : Batch
    b = batch_of p (sequence_of ss h.place) x

    longer : List Batch
    longer = log ++ b ∷ []

    count : ℕ
    count = length (history p.id log)

    base : sequence_of ss h.place ≡ wrapped count
    base = next_base p (history p.id log) (sequence_of ss h.place) k.known.counted comes

    longer_count : length (history p.id longer) ≡ count + 1
    longer_count =
        let more = history_last p log (sequence_of ss h.place) x in ap length more.1 ∙ length_push (history p.id log) _

    front : (rest : List Event) × (here k.ahead ++ k.rest ≡ h.event ∷ rest)
    front = first_is (here k.ahead ++ k.rest) h.event k.held.holds.0

    waits : waiting s ≡ h.event ∷ front.0
    waits = k.held.kept.waits ∙ front.1

    told : carried_id x ≡ Some h.event.id
    told =
        let rows_are : rows ≡ k.sent ++ h.event ∷ front.0 =
        k.held.kept.rows_are ∙ ap (λ (ys : List Event). k.sent ++ ys) front.1 in
        let has : Contains rows h.event =
        rw rows_are (Contains-append_right k.sent (h.event ∷ front.0) h.event (0, omega arith, refl)) in
        all_in (TellsItsId route) rows h.event has k.tells (record { place = h.place; message = x }) to

    own : IsOwn h.place (Some p) ss (Some h) longer h.event.id
    own = record {
      producer = p;
      hand = h;
      before = count;
      has_producer = refl;
      has_hand = refl;
      its_id = refl;
      base = base;
      one_more = longer_count;
    }

    earlier : copies h.event.id log ≤ restarts
    earlier =
        let there : list_any (bytes_eq h.event.id) (ids_of (waiting s)) ≡ true =
        rw (waits, same_bytes h.event.id) refl in
        elim (f.again h.event.id there) [
          | inl o ↦ absurd (not_own h.place p ss h log h.event.id base o)
          | inr l ↦ l
        ]

    one : (id : List ℕ) → bytes_eq id h.event.id ≡ true → copies id longer ≡ copies id log + 1
    one id on = copies_more id log b ∙ ap (λ (n : ℕ). copies id log + n) (one_copy id h.event.id x told on)

    none : (id : List ℕ) → bytes_eq id h.event.id ≡ false → copies id longer ≡ copies id log
    none id off =
        let e = copies_more id log b ∙ ap (λ (n : ℕ). copies id log + n) (no_copy id h.event.id x told off) in
        let z : copies id log + 0 ≡ copies id log = omega arith in e ∙ z

    few_there : (id : List ℕ) → (bytes_eq id h.event.id ≡ true) ⊎ (bytes_eq id h.event.id ≡ false)
        → copies id longer ≤ restarts + 1
    few_there id (inl on) =
        let more = one id on in
        let same : copies id log ≡ copies h.event.id log =
        ap (λ (y : List ℕ). copies y log) (bytes_are id h.event.id on) in
        let l = earlier in omega (arith, more, same, l)
    few_there id (inr off) = rw (none id off) (f.few id)

    again_there : (id : List ℕ) → (bytes_eq id h.event.id ≡ true) ⊎ (bytes_eq id h.event.id ≡ false)
        → list_any (bytes_eq id) (ids_of (waiting s)) ≡ true
        → IsOwn h.place (Some p) ss (Some h) longer id ⊎ (copies id longer ≤ restarts)
    again_there id (inl on) there =
        inl (subst (IsOwn h.place (Some p) ss (Some h) longer) (sym (bytes_are id h.event.id on)) own)
    again_there id (inr off) there =
        elim (f.again id there) [
          | inl o ↦
              let same : h ≡ o.hand = same_some h o.hand o.has_hand in
              let its : h.event.id ≡ id = ap (λ (y : Hand). y.event.id) same ∙ o.its_id in
              absurd (true≢false (sym (same_bytes id) ∙ ap (bytes_eq id) (sym its) ∙ off))
          | inr l ↦ inr (rw (none id off) l)
        ]
