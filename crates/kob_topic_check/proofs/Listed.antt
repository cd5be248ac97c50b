-- What one record, row or line more adds.
use Rattle.std.proofs.Common.{Bool, Err, List, None, Ok, Option, Result, Some, [], ap, append_assoc, arith, bytes_eq, cond, drop, false, find, get_or, is_some, length, refl, reverse, sym, take, true, ℕ, ◌++◌, ◌+◌, ◌<◌, ◌==◌, ◌||◌, ◌∙◌, ◌∷◌, ◌≡◌}
use Rattle.std.specs.Option.{option_and_then, option_or}
use Rattle.std.proofs.lemmas.Bool.{eqb-true}
use Rattle.std.proofs.lemmas.Grind.{common_steps}
use Rattle.std.proofs.lemmas.List.{append-nil, drop_more, reverse-append, take_more}
use Rattle.std.proofs.lemmas.List.Folds.{find-append, list_any-append}
use Rattle.kob_topic_check.specs.Findings.{event_text, first_of, has_row, is_of, number_of, record_at, records_text, row_text, rows_text, sent_last}
use Rattle.kob_topic_check.specs.Lists.{items_from, then_more}
use Rattle.kob_topic_check.specs.declared.record.Record.{Record}
use Rattle.kob_topic_check.specs.declared.row.Row.{Row}

next_one : {A : Type 0} (xs : List A) (k : ℕ) (x : A) → k < length xs → x ≡ get_or xs k x
    → take (k + 1) xs ≡ take k xs ++ x ∷ []
next_one xs k x below is = take_more xs k x below ∙ ap (λ y. take k xs ++ y ∷ []) (sym is)

taken_more : {A : Type 0} (xs : List A) (k : ℕ) (x : A) → k < length xs → x ≡ get_or xs k x
    → reverse (take (k + 1) xs) ≡ x ∷ reverse (take k xs)
taken_more xs k x below is = ap reverse (next_one xs k x below is) ∙ reverse-append (take k xs) (x ∷ [])

rest_more : {A : Type 0} (xs : List A) (k : ℕ) (x : A) → k < length xs → x ≡ get_or xs k x
    → drop k xs ≡ x ∷ drop (k + 1) xs
rest_more xs k x below is = drop_more xs k x below ∙ ap (λ y. y ∷ drop (k + 1) xs) (sym is)

-- the first record

first_more : (id : ℕ) (records : List Record) (k : ℕ) (r : Record) → k < length records → r ≡ get_or records k r
    → first_of id (take (k + 1) records) ≡ option_or (first_of id (take k records)) (cond (is_of id r) (Some r) None)
first_more id records k r below is =
    ap (find (is_of id)) (next_one records k r below is) ∙ find-append (is_of id) (take k records) (r ∷ [])

put : (b : Bool) (r : Record) (was is : Option Record) → is ≡ cond b (Some r) was → (b ≡ true → is_some was ≡ false)
    → is ≡ option_or was (cond b (Some r) None)
put true r None is now none = now
put true r (Some x) is now none = absurd (let no = none refl in cc)
put false r None is now none = now
put false r (Some x) is now none = now

kept : (b : Bool) (r : Record) (was : Option Record) → (b ≡ true → is_some was ≡ true)
    → was ≡ option_or was (cond b (Some r) None)
kept true r None some = absurd (let no = some refl in cc)
kept true r (Some x) some = refl
kept false r None some = refl
kept false r (Some x) some = refl

pub first_is_put : (id other : ℕ) (records : List Record) (k : ℕ) (r : Record) (is : Option Record)
    → k < length records
    → r ≡ get_or records k r → other ≡ number_of r.id → is_some (first_of other (take k records)) ≡ false
    → is ≡ cond (other == id) (Some r) (first_of id (take k records)) → is ≡ first_of id (take (k + 1) records)
first_is_put id other records k r is below at_k named none now =
    put (other == id) r (first_of id (take k records)) is now
    (λ same. ap (λ n. is_some (first_of n (take k records))) (sym (eqb-true other id same)) ∙ none)
    ∙ ap (λ n. option_or (first_of id (take k records)) (cond (n == id) (Some r) None)) named
    ∙ sym (first_more id records k r below at_k)

pub first_is_kept : (id other : ℕ) (records : List Record) (k : ℕ) (r : Record) → k < length records
    → r ≡ get_or records k r → other ≡ number_of r.id → is_some (first_of other (take k records)) ≡ true
    → first_of id (take k records) ≡ first_of id (take (k + 1) records)
first_is_kept id other records k r below at_k named some =
    kept (other == id) r (first_of id (take k records))
    (λ same. ap (λ n. is_some (first_of n (take k records))) (sym (eqb-true other id same)) ∙ some)
    ∙ ap (λ n. option_or (first_of id (take k records)) (cond (n == id) (Some r) None)) named
    ∙ sym (first_more id records k r below at_k)

-- the ids of rows

either : (was one : Bool) → cond one true was ≡ (was || (one || false))
either true true = refl
either true false = refl
either false true = refl
either false false = refl

pub id_is_put : (id other : ℕ) (rows : List Row) (k : ℕ) (row : Row) (is : Bool) → k < length rows
    → row ≡ get_or rows k row
    → other ≡ number_of row.id → is ≡ cond (other == id) true (has_row id (take k rows))
    → is ≡ has_row id (take (k + 1) rows)
id_is_put id other rows k row is below at_k named now =
    now ∙ ap (λ n. cond (n == id) true (has_row id (take k rows))) named
    ∙ either (has_row id (take k rows)) (number_of row.id == id)
    ∙ sym (list_any-append (λ r. number_of r.id == id) (take k rows) (row ∷ []))
    ∙ ap (has_row id) (sym (next_one rows k row below at_k))

-- the last record of an event

pub seen_more : (id other : ℕ) (records : List Record) (k : ℕ) (r : Record) (is : Option Record) → k < length records
    → r ≡ get_or records k r → other ≡ number_of r.id
    → is ≡ cond (other == id) (Some r) (find (is_of id) (reverse (take k records)))
    → is ≡ find (is_of id) (reverse (take (k + 1) records))
seen_more id other records k r is below at_k named now =
    now ∙ ap (λ n. cond (n == id) (Some r) (find (is_of id) (reverse (take k records)))) named
    ∙ ap (find (is_of id)) (sym (taken_more records k r below at_k))

pub record_more : (rows : List Row) (records : List Record) (k : ℕ) (r : Record) (out now total : List ℕ)
    (known : Bool)
    (earlier : Option Record) → k < length records → r ≡ get_or records k r → known ≡ has_row (number_of r.id) rows
    → earlier ≡ find (is_of (number_of r.id)) (reverse (take k records)) → now ≡ out ++ event_text r known earlier
    → out ++ records_text rows (reverse (take k records)) (drop k records) ≡ total
    → now ++ records_text rows (reverse (take (k + 1) records)) (drop (k + 1) records) ≡ total
record_more rows records k r out now total known earlier below at_k knows found printed so_far =
    let before = reverse (take k records) in
    let rest = drop (k + 1) records in
    ap (λ text. text ++ records_text rows (reverse (take (k + 1) records)) rest) printed
    ∙ append_assoc out (event_text r known earlier) _
    ∙ ap (λ text. out ++ text)
    (ap (λ b. event_text r known earlier ++ records_text rows b rest) (taken_more records k r below at_k)
    ∙ ap (λ b. event_text r b earlier ++ records_text rows (r ∷ before) rest) knows
    ∙ ap (λ e. event_text r (has_row (number_of r.id) rows) e ++ records_text rows (r ∷ before) rest) found
    ∙ ap (records_text rows before) (sym (rest_more records k r below at_k)))
    ∙ so_far

-- the last row of a key

pub last_put : (key : List ℕ) (records : List Record) (before : List Row) (row : Row) (id : ℕ) (was is : Option ℕ)
    → id ≡ number_of row.id → is_some (first_of (number_of row.id) records) ≡ true
    → is ≡ cond (bytes_eq row.key key) (Some id) was → was ≡ sent_last key records before
    → is ≡ sent_last key records (row ∷ before)
last_put key records before row id was is named some now so_far = grind (arith, common_steps)

pub last_kept : (key : List ℕ) (records : List Record) (before : List Row) (row : Row)
    → first_of (number_of row.id) records ≡ None
    → sent_last key records before ≡ sent_last key records (row ∷ before)
last_kept key records before row none = grind (arith, common_steps)

same_at : (f g : ℕ → Option Record) → ((id : ℕ) → f id ≡ g id) → (event : Option ℕ)
    → option_and_then f event ≡ option_and_then g event
same_at f g same None = refl
same_at f g same (Some id) = same id

-- the record of what stands at a key
pub found_at : (get : ℕ → Option Record) (records : List Record) (result : Option Record) (event last : Option ℕ)
    → ((id : ℕ) → get id ≡ first_of id records) → result ≡ option_and_then get event → event ≡ last
    → result ≡ record_at records last
found_at get records result event last same found is =
    found ∙ same_at get (λ id. first_of id records) same event ∙ ap (record_at records) is

pub row_more : (records : List Record) (rows : List Row) (k : ℕ) (row : Row) (out now total : List ℕ)
    (first earlier : Option Record) → k < length rows → row ≡ get_or rows k row
    → first ≡ first_of (number_of row.id) records
    → row_text row first earlier
    ≡ row_text row first (record_at records (sent_last row.key records (reverse (take k rows))))
    → now ≡ out ++ row_text row first earlier
    → out ++ rows_text records (reverse (take k rows)) (drop k rows) ≡ total
    → now ++ rows_text records (reverse (take (k + 1) rows)) (drop (k + 1) rows) ≡ total
row_more records rows k row out now total first earlier below at_k is_first found printed so_far =
    let before = reverse (take k rows) in
    let rest = drop (k + 1) rows in
    let sent = record_at records (sent_last row.key records before) in
    ap (λ text. text ++ rows_text records (reverse (take (k + 1) rows)) rest) printed
    ∙ append_assoc out (row_text row first earlier) _
    ∙ ap (λ text. out ++ text)
    (ap (λ b. row_text row first earlier ++ rows_text records b rest) (taken_more rows k row below at_k)
    ∙ ap (λ text. text ++ rows_text records (row ∷ before) rest) found
    ∙ ap (λ f. row_text row f sent ++ rows_text records (row ∷ before) rest) is_first
    ∙ ap (rows_text records before) (sym (rest_more rows k row below at_k)))
    ∙ so_far

-- of the rows so far, the last one first
pub taken_rows : {A : Type 0} (xs : List A) (k : ℕ) (x : A) → k < length xs → x ≡ get_or xs k x
    → reverse (take (k + 1) xs) ≡ x ∷ reverse (take k xs)
taken_rows = taken_more

-- lines

-- items, and those behind them
abbrev pub behind_items : {A : Type 0} → List A → Result (List A) ℕ → Result (List A) ℕ
behind_items items (Ok more) = Ok (items ++ more)
behind_items items (Err number) = Err number

one_behind : {A : Type 0} (items : List A) (item : A) (number : ℕ) (more : Result (List A) ℕ)
    → behind_items (items ++ item ∷ []) more ≡ behind_items items (then_more number (Some item) more)
one_behind items item number (Ok more) = ap Ok (append_assoc items (item ∷ []) more)
one_behind items item number (Err later) = refl

pub line_more : {A : Type 0} (read : List ℕ → Option A) (items now : List A) (item : A) (number : ℕ) (line : List ℕ)
    (lines rest : List (List ℕ)) (total : Result (List A) ℕ) → lines ≡ line ∷ rest → Some item ≡ read line
    → now ≡ items ++ item ∷ [] → behind_items items (items_from read number lines) ≡ total
    → behind_items now (items_from read (number + 1) rest) ≡ total
line_more read items now item number line lines rest total split is_read pushed so_far =
    ap (λ all. behind_items all (items_from read (number + 1) rest)) pushed
    ∙ one_behind items item number (items_from read (number + 1) rest)
    ∙ ap (λ one. behind_items items (then_more number one (items_from read (number + 1) rest))) is_read
    ∙ ap (λ all. behind_items items (items_from read number all)) (sym split) ∙ so_far

pub line_stops : {A : Type 0} (read : List ℕ → Option A) (items : List A) (number : ℕ) (line : List ℕ)
    (lines rest : List (List ℕ)) (total : Result (List A) ℕ) → lines ≡ line ∷ rest → None ≡ read line
    → behind_items items (items_from read number lines) ≡ total → total ≡ Err number
line_stops read items number line lines rest total split none so_far =
    sym so_far ∙ ap (λ all. behind_items items (items_from read number all)) split
    ∙ ap (λ one. behind_items items (then_more number one (items_from read (number + 1) rest))) (sym none)

pub lines_end : {A : Type 0} (read : List ℕ → Option A) (items : List A) (number : ℕ) (lines : List (List ℕ))
    (total : Result (List A) ℕ) → lines ≡ [] → behind_items items (items_from read number lines) ≡ total
    → total ≡ Ok items
lines_end read items number lines total none so_far =
    sym so_far ∙ ap (λ all. behind_items items (items_from read number all)) none ∙ ap Ok (append-nil items)
