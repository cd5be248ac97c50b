-- The lines of blocks; what a line asks for, and what is left after it; one reading without `acl` lines.
use Rattle.kob_script.proofs.Each.{with_front}
use Rattle.kob_script.proofs.LineFaults.{who_asks}
use Rattle.kob_script.specs.Checks.{first_fault}
use Rattle.kob_script.proofs.Imports.{IsOk, counted, line_fault, lines_ask, lines_left, requests_on, rest_of, unless_found, AreWholeLines, Checking, ChecksLine, ChecksNext, CliArgs, Err, Event, Fails, Fault, FaultKind, HasNoAclLine, IfRead, IsAnswerTo, IsAnswerToLine, LineError, List, Memory, None, Ok, Option, ReadsAs, Result, Script, ScriptError, ThenLines, Word, [], answers_after, ap, append-nil, append_assoc, arith, asks_clap, concat, drop, drop-drop, drop_more, empty_script, eqb-true, false, fault_at, get_or, kept_answer, length, length-lines, length-take-le, line_len-bounds, line_words, lines-nil, lines-step, lines_in, lines_in_blocks, lines_of, list_all, map, nat_tests, not, refl, requests_of, result_unwrap_or, script_so_far, slice_index_or, subst, sym, then_lines, true, with_words, without_terminator, words_of, ℕ, ◌++◌, ◌+◌, ◌-◌, ◌<◌, ◌==◌, ◌>>=◌, ◌∙◌, ◌∷◌, ◌≡◌, ◌≤◌, Bool, Some, bytes_eq, codes, if◌then◌else◌, is_setting, is_some, ◌&&◌, Request}
use Rattle.kob_words.proofs.Choices.{both}
use Rattle.kob_script.specs.CommandLines.{AreRead, asked_by, events_of}
use Rattle.kob_names.specs.declared.settings.Settings.{Settings}
use Rattle.std.specs.Prelude.{IfOk}
use Rattle.std.specs.Result.{result_err}
use Rattle.kob_script.specs.Words.{HidesNoFault, LateSetting}
use Rattle.kob_script.specs.declared.requests.Blocks.{Blocks}
use Rattle.kob_script.specs.Script.{requests_in, with_events, with_line, with_setting, lines_from, script_of, LinesFrom}
use Rattle.kob_script.specs.declared.fault.Fault as fault
use Rattle.kob_script.specs.declared.fault.ScriptError.TheVariants as script_error

pub no_lines : lines_in [] ≡ []
no_lines = ap (map without_terminator) lines-nil

-- the line at the front, and how many bytes it takes
pub first_line_splits : (bytes whole text : List ℕ) (more : List (List ℕ)) → lines_of bytes ≡ whole ∷ more
    → text ≡ without_terminator whole
    → (length whole ≤ length bytes) × (lines_in bytes ≡ text ∷ lines_in (drop (length whole) bytes))
first_line_splits [] whole text more is text_is = grind (arith, nat_tests, lines-nil)
first_line_splits (b ∷ rest) whole text more is text_is =
    grind (arith, nat_tests, lines-step, line_len-bounds, length-take-le)

-- after a block that was read to its end
pub next_block : (rest block : List ℕ) (later more : List (List ℕ)) → rest ≡ [] → later ≡ block ∷ more
    → lines_in block ++ lines_in_blocks more ≡ lines_in rest ++ lines_in_blocks later
next_block rest block later more none split = rw (none, split, no_lines) refl

pub fewer_steps : (lines left : List (List ℕ)) (later : List (List ℕ)) (block : List ℕ) (more : List (List ℕ))
    → left ≡ lines → later ≡ block ∷ more → length left + length more < length lines + length later
fewer_steps lines left later block more same split = grind (arith, nat_tests)

-- bytes without lines are none
pub no_bytes : (bytes : List ℕ) → lines_in bytes ≡ [] → bytes ≡ []
no_bytes [] none = refl
no_bytes (b ∷ rest) none = grind (arith, nat_tests, lines-step)

-- after a line of the block at the front
pub rest_behind : (front next : List ℕ) (at size end : ℕ) → next ≡ front → end ≡ at + size
    → drop end next ≡ drop size (drop at front)
rest_behind front next at size end same place = rw (same, place) (sym (drop-drop size at front))

-- the lines from a block on
pub block_lines : (blocks : List (List ℕ)) (i : ℕ) (block : List ℕ) → i < length blocks → block ≡ get_or blocks i block
    → lines_in_blocks (drop i blocks) ≡ lines_in block ++ lines_in_blocks (drop (i + 1) blocks)
block_lines blocks i block below is = grind (arith, nat_tests, drop_more)

events_in : Result Script FaultKind → List Event
events_in (Ok s) = s.events
events_in (Err kind) = []

-- what words asked for, of which the script was read
module _ (s next : Script) (first : Word) (arguments : List Word) where
  set_asks : (late : Bool) (set : Result Settings FaultKind)
      → (if late then Err LateSetting else (set >>= λ settings. Ok (record { settings = settings; events = s.events }))) ≡ Ok next
      → next.events ≡ s.events
  unfolding events_in
  set_asks true set is = absurd cc
  set_asks false (Ok settings) is = sym (ap events_in is)
  set_asks false (Err kind) is = absurd cc

  asked_words : (setting : Bool) (fault : Option FaultKind) (told : Result (List Event) FaultKind)
      → (if setting then with_setting s first arguments
      else (unless_found fault told >>= λ events. Ok (record { settings = s.settings; events = s.events ++ events }))) ≡ Ok next
      → (asked : List Event) × ((if setting then Ok [] else told) ≡ Ok asked) × (next.events ≡ s.events ++ asked)
  unfolding events_in
  asked_words true fault told is = ([], refl, set_asks _ _ is ∙ sym (append-nil s.events))
  asked_words false None (Ok events) is = (events, refl, sym (ap events_in is))
  asked_words false None (Err kind) is = absurd cc
  asked_words false (Some kind) told is = absurd cc

words_ask : (answer : Option CliArgs) (s next : Script) (words : List Word) → with_words answer s words ≡ Ok next
    → (asked : List Event) × (requests_of answer words ≡ Ok asked) × (next.events ≡ s.events ++ asked)
unfolding events_in events_of
words_ask answer s next [] is = ([], refl, sym (ap events_in is) ∙ sym (append-nil s.events))
words_ask answer s next (first ∷ arguments) is =
    asked_words s next first arguments (is_setting first) (line_fault (first ∷ arguments)) (asked_by answer (first ∷ arguments)) is

-- words that clap is not asked about ask for the same by any answer
unasked_alike : (words : List Word) (one other : Option CliArgs) → asks_clap words ≡ false
    → requests_of one words ≡ requests_of other words
unfolding asked_by
unasked_alike (first ∷ host ∷ command ∷ arguments) one other unasked =
    by (is_setting first) (bytes_eq command.decoded (codes "acl")) _ _ _ unasked
  where
    by : (setting acl : Bool) (a b plain : Result (List Request) FaultKind)
        → is_some (if not setting && acl then Some arguments else None) ≡ false
        → (if setting then Ok [] else who_asks first host (if acl then a else plain))
        ≡ (if setting then Ok [] else who_asks first host (if acl then b else plain))
    by true acl a b plain none = refl
    by false true a b plain none = absurd cc
    by false false a b plain none = refl
unasked_alike _ one other unasked = refl

-- what is left to be asked behind what was asked
asked_more : {A : Type 0} (before asked all : List A) (others : Result (List A) FaultKind) → all ≡ before ++ asked
    → with_front before (others >>= λ more. Ok (asked ++ more)) ≡ with_front all others
asked_more before asked all (Ok more) is = ap Ok (sym (ap (λ front. front ++ more) is ∙ append_assoc before asked more))
asked_more before asked all (Err kind) is = refl

-- a line that was read asks, by the answer that was kept, for what comes after the events before it
line_asks : (answer : Option CliArgs) (s next : Script) (line : List ℕ) (lines : List (List ℕ))
    (others : List (Option CliArgs))
    → IsAnswerToLine (words_of line) answer → with_line answer s line ≡ Ok next
    → with_front s.events (requests_in (line ∷ lines) (kept_answer (line_words line) answer ++ others))
    ≡ with_front next.events (requests_in lines others)
unfolding with_line requests_in
line_asks answer s next line lines others is reads = by (words_of line) reads
  where
    by_words : (words : List Word) (asks : Bool) → asks_clap words ≡ asks → with_words answer s words ≡ Ok next
        → let kept = (if asks then answer ∷ [] else []) ++ others in
        with_front s.events (requests_of (slice_index_or kept 0 None) words
        >>= λ first. requests_in lines (if asks then drop 1 kept else kept) >>= λ more. Ok (first ++ more))
        ≡ with_front next.events (requests_in lines others)
    by_words words true asks reads =
        let (asked, told, all) = words_ask answer s next words reads in
        rw told (asked_more s.events asked next.events (requests_in lines others) all)
    by_words words false asks reads =
        let (asked, told, all) = words_ask answer s next words reads in
        rw (unasked_alike words (slice_index_or others 0 None) answer asks, told)
        (asked_more s.events asked next.events (requests_in lines others) all)

    by : (read : Result (List Word) FaultKind) → (read >>= with_words answer s) ≡ Ok next
        → with_front s.events
        (read >>= requests_of (slice_index_or (kept_answer (result_unwrap_or read []) answer ++ others) 0 None)
        >>= λ first. requests_in lines (answers_after (result_unwrap_or read []) (kept_answer (result_unwrap_or read []) answer ++ others))
        >>= λ more. Ok (first ++ more))
        ≡ with_front next.events (requests_in lines others)
    by (Ok words) reads = by_words words (asks_clap words) refl reads
    by (Err kind) reads = absurd cc

-- if requests are left and none was read, some lines are left
pub some_lines : (asked : List Event) (lines : List (List ℕ)) (answers : List (Option CliArgs)) (all : List Event) (n : ℕ)
    → asked ≡ [] → asked ++ result_unwrap_or (requests_in lines answers) [] ≡ all → 0 < length all → 0 < length lines + n
unfolding requests_in
some_lines asked [] answers all n none left some = grind (arith, nat_tests)
some_lines asked (line ∷ lines) answers all n none left some = omega arith

pub one_fewer : {A : Type 0} (left : ℕ) (x : A) (all more : List A) → left ≡ length all → all ≡ x ∷ more
    → left - 1 ≡ length more
one_fewer left x all more count split = grind (arith, nat_tests)

-- what is counted as nothing is nothing
pub nothing_at_zero : {A : Type 0} (items : List A) (count : ℕ) → count ≡ length items → (count == 0) ≡ true → items ≡ []
nothing_at_zero [] count counts zero = refl
nothing_at_zero (x ∷ more) count counts zero = grind (arith, nat_tests, eqb-true)

-- What lines ask for, of which none has a fault, is what the first asks for and what those behind it do.
module _ (text : List ℕ) (lines : List (List ℕ)) (answers : List (Option CliArgs)) where
  lines_asked : (first others : Result (List Event) FaultKind)
      → IsOk (first >>= λ asked. others >>= λ more. Ok (asked ++ more))
      → IsOk first × IsOk others × (IfOk first (λ asked. result_unwrap_or (first >>= λ asked. others >>= λ more. Ok (asked ++ more)) []
      ≡ asked ++ result_unwrap_or others []))
  lines_asked (Ok asked) (Ok more) ok = (refl, refl, refl)
  lines_asked (Ok asked) (Err kind) ok = absurd cc
  lines_asked (Err kind) others ok = absurd cc

  pub line_is_checked : IsOk (requests_in (text ∷ lines) answers) → IsOk (requests_on (slice_index_or answers 0 None) text)
  unfolding requests_in
  line_is_checked ok = (lines_asked _ _ ok).0

  pub lines_are_checked : IsOk (requests_in (text ∷ lines) answers) → IsOk (requests_in lines (answers_after (line_words text) answers))
  unfolding requests_in
  lines_are_checked ok = (lines_asked _ _ ok).1

  pub line_read : (read : Bool) (event : Option Event) (others : List Event) → IsOk (requests_in (text ∷ lines) answers)
      → IfOk (requests_on (slice_index_or answers 0 None) text) (AreRead read event others)
      → AreRead read event (others ++ result_unwrap_or (requests_in lines (answers_after (line_words text) answers)) [])
      (result_unwrap_or (requests_in (text ∷ lines) answers) [])
  unfolding requests_in
  line_read read event others ok is =
      by (requests_on (slice_index_or answers 0 None) text) read event is (lines_asked _ _ ok).2 ok
    where
      behind : List Event
      behind = result_unwrap_or (requests_in lines (answers_after (line_words text) answers)) []

      by : (first : Result (List Event) FaultKind) (read : Bool) (event : Option Event) → IfOk first (AreRead read event others)
          → IfOk first (λ asked. result_unwrap_or (first >>= λ asked. requests_in lines (answers_after (line_words text) answers) >>= λ more. Ok (asked ++ more)) [] ≡ asked ++ behind)
          → IsOk (first >>= λ asked. requests_in lines (answers_after (line_words text) answers) >>= λ more. Ok (asked ++ more))
          → AreRead read event (others ++ behind) (result_unwrap_or (first >>= λ asked. requests_in lines (answers_after (line_words text) answers) >>= λ more. Ok (asked ++ more)) [])
      by (Ok asked) true (Some event) is all ok = all ∙ ap (λ asked. asked ++ behind) is
      by (Ok asked) true None is all ok = is
      by (Ok asked) false event is all ok = all ∙ ap (λ asked. asked ++ behind) is
      by (Err kind) read event is all ok = absurd cc

-- a line of the block at the front, which is passed
module _ (blocks next : Blocks) (text : List ℕ) (size : ℕ) (answers kept : List (Option CliArgs))
    (split : lines_in (rest_of blocks) ≡ text ∷ lines_in (drop size (rest_of blocks))) (ok : IsOk (lines_ask blocks answers)) where
  lines_behind : List (List ℕ)
  lines_behind = lines_in (drop size (rest_of blocks)) ++ lines_in_blocks blocks.later.items

  here : lines_left blocks ≡ text ∷ lines_behind
  unfolding lines_behind
  here = ap (λ lines. lines ++ lines_in_blocks blocks.later.items) split

  whole : IsOk (requests_in (text ∷ lines_behind) answers)
  whole = subst (λ lines. IsOk (requests_in lines answers)) here ok

  pub line_ok : IsOk (requests_on (slice_index_or answers 0 None) text)
  line_ok = line_is_checked text lines_behind answers whole

  module _ (front : next.front ≡ blocks.front) (at : next.at ≡ blocks.at + size) (later : next.later ≡ blocks.later)
      (used : kept ≡ answers_after (line_words text) answers) where
    there : requests_in lines_behind (answers_after (line_words text) answers) ≡ lines_ask next kept
    unfolding lines_behind
    there =
        rw (rest_behind blocks.front next.front blocks.at size next.at front at, later, used) refl

    pub rest_ok : IsOk (lines_ask next kept)
    rest_ok = subst (λ told. IsOk told) there (lines_are_checked text lines_behind answers whole)

    pub asked_here : (read : Bool) (event : Option Event) (others : List Event)
        → IfOk (requests_on (slice_index_or answers 0 None) text) (AreRead read event others)
        → AreRead read event (others ++ result_unwrap_or (lines_ask next kept) []) (result_unwrap_or (lines_ask blocks answers) [])
    asked_here read event others is =
        subst (λ told. AreRead read event (others ++ result_unwrap_or (lines_ask next kept) []) (result_unwrap_or told []))
        (ap (λ lines. requests_in lines answers) (sym here))
        (subst (λ told. AreRead read event (others ++ result_unwrap_or told []) (result_unwrap_or (requests_in (text ∷ lines_behind) answers) []))
        there (line_read text lines_behind answers read event others whole is))

-- a line that is no `acl` line is read in one way, as clap's answer tells nothing of it
line_alike : (answer : Option CliArgs) (s : Script) (line : Result (List Word) FaultKind)
    → not (asks_clap (result_unwrap_or line [])) ≡ true
    → IsAnswerToLine line answer → (line >>= with_words answer s) ≡ (line >>= with_words None s)
line_alike answer s (Err kind) plain is = refl
line_alike answer s (Ok words) plain is = grind (arith, nat_tests)

then_alike : (number : ℕ) (lines : List (List ℕ)) (first : Result Script FaultKind) (read : Result Script fault.Fault)
    → ((next : Script) → LinesFrom next (number + 1) lines read → read ≡ lines_from next (number + 1) lines)
    → ThenLines number first (λ next. LinesFrom next (number + 1) lines read) read
    → read ≡ then_lines number first (λ next. lines_from next (number + 1) lines)
then_alike number lines (Ok next) read others may = others next may
then_alike number lines (Err kind) read others may = may

lines_alike : (s : Script) (number : ℕ) (lines : List (List ℕ)) (read : Result Script fault.Fault)
    → list_all (λ line. not (asks_clap (line_words line))) lines ≡ true → LinesFrom s number lines read
    → read ≡ lines_from s number lines
unfolding LinesFrom lines_from with_line
lines_alike s number [] read plain may = may
lines_alike s number (line ∷ lines) read plain (first, (answer, is, gives), others) =
    let here = both (not (asks_clap (line_words line))) (list_all (λ l. not (asks_clap (line_words l))) lines) plain in
    then_alike number lines (with_line None s line) read
    (λ next may. lines_alike next (number + 1) lines read here.1 may)
    (subst (λ (r : Result Script FaultKind). ThenLines number r (λ next. LinesFrom next (number + 1) lines read) read)
    (sym gives ∙ line_alike answer s (words_of line) here.0 is) others)

pub one_reading : (text : List ℕ) (read : Result Script fault.Fault) → HasNoAclLine text → ReadsAs text read
    → read ≡ script_of text
unfolding script_of
one_reading text read plain may = lines_alike empty_script 1 (lines_in text) read plain may

pub reads_plain : (text : List ℕ) (result : Result Script ScriptError) → IfRead result (ReadsAs text) → HasNoAclLine text
    → IfRead result (λ read. script_of text ≡ read)
reads_plain text (Ok script) may plain = sym (one_reading text (Ok script) plain may)
reads_plain text (Err (script_error.Memory e)) may plain = tt
reads_plain text (Err (script_error.Fault fault)) may plain = sym (one_reading text (Err fault) plain may)

-- what is kept of an answer, if clap was asked
pub keeps_one : (old : List (Option CliArgs)) (words : List Word) (answer : Option CliArgs) → asks_clap words ≡ true
    → old ++ answer ∷ [] ≡ old ++ kept_answer words answer
keeps_one old words answer asked = rw asked refl

pub no_setting : (answer : Option CliArgs) (s : Script) (words : List Word) (first : Word) → 1 ≤ length words
    → first ≡ get_or words 0 first → is_setting first ≡ false → with_words answer s words ≡ with_events answer s words
no_setting answer s (word ∷ words) first some is plain = grind (arith, nat_tests)
no_setting answer s [] first some is plain = absurd (omega (arith, some))

-- the first fault of words that are no setting is that of a line's words
pub no_setting_fault : (s : Script) (words : List Word) (first : Word) → 1 ≤ length words
    → first ≡ get_or words 0 first → is_setting first ≡ false → first_fault s words ≡ line_fault words
no_setting_fault s (word ∷ words) first some is plain = grind (arith, nat_tests)
no_setting_fault s [] first some is plain = absurd (omega (arith, some))

pub hides_none : (r : Result (Unit {0}) LineError) (fault : Option FaultKind) → fault ≡ None → HidesNoFault r fault
hides_none (Ok done) fault is = tt
hides_none (Err (Memory e)) fault is = is
hides_none (Err (Fault kind)) fault is = tt

-- words that ask for events have no fault
pub read_words_are_right : (answer : Option CliArgs) (words : List Word) (asked : List Event)
    → events_of answer words ≡ Ok asked → line_fault words ≡ None
unfolding events_of
read_words_are_right answer words asked is = found_none (line_fault words) (asked_by answer words) asked is
  where
    found_none : (fault : Option FaultKind) (told : Result (List Event) FaultKind) (events : List Event)
        → unless_found fault told ≡ Ok events → fault ≡ None
    found_none None told events is = refl
    found_none (Some kind) told events is = absurd cc

module _ (s : Script) (line : List ℕ) (new : Checking) (old kept : List (Option CliArgs)) where
  -- a line that was checked by clap's answer to its words
  pub line_checked : (words : List Word) (answer : Option CliArgs) → words_of line ≡ Ok words → IsAnswerTo words answer
      → kept ≡ old ++ kept_answer words answer → ChecksNext new (Ok tt) (with_words answer s words)
      → ChecksLine s line new old kept (Ok tt)
  unfolding with_line
  line_checked words answer has is keeps reads = rw has (answer, is, keeps, reads)

  pub words_fail : (words : List Word) (answer : Option CliArgs) (e : LineError) → words_of line ≡ Ok words
      → IsAnswerTo words answer → Fails e (with_words answer s words) → ChecksLine s line new old kept (Err e)
  unfolding with_line
  words_fail words answer (Memory e) has is fails = rw has refl
  words_fail words answer (Fault kind) has is fails = rw has (answer, is, fails)

  -- a line about which clap is not asked
  pub unasked_checked : (r : Result (Unit {0}) LineError) (words : List Word) → words_of line ≡ Ok words
      → asks_clap words ≡ false → ChecksNext new r (with_words None s words) → kept ≡ old → ChecksLine s line new old kept r
  unasked_checked (Ok done) words has unasked reads same =
      line_checked words None has (grind (arith, nat_tests)) (grind (arith, nat_tests, append-nil)) reads
  unasked_checked (Err e) words has unasked fails same = words_fail words None e has (grind (arith, nat_tests)) fails

  -- a line with an escape that is not whole
  pub line_fails : (e : LineError) → Fails e (words_of line)
      → HidesNoFault {A = Unit {0}} (Err e) (result_err (words_of line)) → ChecksLine s line new old kept (Err e)
  unfolding with_line
  line_fails (Memory e) fails hides = hides
  line_fails (Fault kind) fails hides = rw fails (None, tt, refl)

-- What was checked so far: the lines that are left may be read after it as all may be, and all ask
-- for its events and for what those that are left do, by answers after those that were kept.
pub record Stands (blocks : List (List ℕ)) (checking : Checking) (answers : List (Option CliArgs)) (number : ℕ)
    (rest : List (List ℕ)) : Type 0 where
  pub few : number + length rest ≤ length (concat blocks)
  pub events : List Event
  pub counts : checking.requests ≡ length events
  pub leads : (read : Result Script fault.Fault) → LinesFrom (script_so_far checking events) (number + 1) rest read
      → ReadsAs (concat blocks) read
  pub asks : (more : List (Option CliArgs))
      → requests_in (lines_in_blocks blocks) (answers ++ more) ≡ with_front events (requests_in rest more)

nothing_before : {A : Type 0} (read : Result (List A) FaultKind) → with_front [] read ≡ read
nothing_before (Ok items) = refl
nothing_before (Err kind) = refl

pub stands_first : (blocks : List (List ℕ)) (checking : Checking) (answers : List (Option CliArgs))
    → AreWholeLines blocks → checking.supers.items ≡ [] → checking.everyone ≡ false → checking.requests ≡ 0 → answers ≡ []
    → Stands blocks checking answers 0 (lines_in_blocks blocks)
stands_first blocks checking answers whole nobody closed none unanswered = grind (arith, nat_tests, length-lines, nothing_before)

-- at a line
module _ (blocks : List (List ℕ)) (checking new : Checking) (answers kept : List (Option CliArgs)) (number : ℕ)
    (rest : List (List ℕ)) (line : List ℕ) (others : List (List ℕ)) (stands : Stands blocks checking answers number rest)
    (split : rest ≡ line ∷ others) where
  pub stands_next : ((events : List Event) → checking.requests ≡ length events
      → ChecksLine (script_so_far checking events) line new answers kept (Ok tt))
      → Stands blocks new kept (number + 1) others
  unfolding LinesFrom
  stands_next checks =
      let (answer, is, keeps, (events, counts, reads)) = checks stands.events stands.counts in
      let before = script_so_far checking stands.events in
      let after = script_so_far new events in
      let mine = kept_answer (line_words line) answer in
      let count = ap length split in
      record {
        few = omega (arith, count, stands.few);
        events = events;
        counts = counts;
        leads = λ read may. stands.leads read (rw split (Ok after, (answer, is, reads), may));
        asks = λ more.
            rw (keeps, append_assoc answers mine more, stands.asks (mine ++ more), split)
            (line_asks answer before after line others more is reads);
      }

  pub stops : (e : LineError) → ((events : List Event) → checking.requests ≡ length events
      → ChecksLine (script_so_far checking events) line new answers kept (Err e))
      → IfRead (Err (fault_at (number + 1) e)) (ReadsAs (concat blocks))
  unfolding LinesFrom
  stops (Memory e) checks = tt
  stops (Fault kind) checks =
      let read : Result Script fault.Fault = Err (record { line = number + 1; kind = kind }) in
      stands.leads read (rw split (Err kind, checks stands.events stands.counts, refl))

-- after the last line
module _ (blocks : List (List ℕ)) (checking : Checking) (answers : List (Option CliArgs)) (number : ℕ)
    (rest : List (List ℕ)) (stands : Stands blocks checking answers number rest) (none : rest ≡ []) where
  all_asked : requests_in (lines_in_blocks blocks) answers ≡ Ok stands.events
  unfolding requests_in
  all_asked =
      ap (requests_in (lines_in_blocks blocks)) (sym (append-nil answers)) ∙ stands.asks []
      ∙ (rw none (ap Ok (append-nil stands.events)))

  pub all_counted : counted (requests_in (lines_in_blocks blocks) answers) ≡ Ok checking.requests
  all_counted = rw all_asked (ap Ok (sym stands.counts))

  pub all_read : (read : Script) (requests : List Event) → requests_in (lines_in_blocks blocks) answers ≡ Ok requests
      → read ≡ script_so_far checking requests → ReadsAs (concat blocks) (Ok read)
  unfolding LinesFrom
  all_read read requests asked is =
      let same : requests ≡ stands.events = ap (λ told. result_unwrap_or told []) (sym asked ∙ all_asked) in
      stands.leads (Ok read) (rw none (ap Ok (is ∙ ap (script_so_far checking) same)))
