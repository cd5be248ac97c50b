-- A scene is read line by line.
use Rattle.kob_scene_text.proofs.Words.{CliArgs, Err, Fault, IsAnswerTo, HasLines, IsAnswerToLine, LineError, List, MayRead, Memory, Ok, Option, ReadsAs, ReadsLine, ReadsNext, Result, Seen, StepError, Word, [], ap, append-nil, append_assoc, arith, as_scripts, false, fault_at, length, lines_in, nat_tests, refl, replicate, so_far, step_error, subst, sym, with_words, words_of, ℕ, ◌++◌, ◌+◌, ◌-◌, ◌>>>◌, ◌∙◌, ◌∷◌, ◌≡◌}
use Rattle.kob_script.specs.declared.fault.FaultKind as script_kind
use Rattle.kob_script.specs.declared.fault.LineError.TheVariants as line_error
use Rattle.kob_script.specs.Words.{Fails as ScriptFails}
use Rattle.kob_scene_text.specs.declared.fault.SceneFault as fault
use Rattle.kob_scene_text.specs.declared.reading.Reading as code
use Rattle.kob_scene_text.specs.Scenes.{LinesFollow, LinesFrom, with_line}

-- What the lines that are left may be read as, the text may be.
abbrev pub Leads : List ℕ → Seen → ℕ → List (List ℕ) → Type 0
Leads text s number rest = (read : Result Seen fault.SceneFault) → LinesFrom s number rest read → ReadsAs text read

module _ (s : Seen) (line : List ℕ) (reading : code.Reading) where
  -- a line that was read by clap's answer to its words
  pub line_read : (words : List Word) (answer : Option CliArgs) (result : Result (Unit {0}) StepError)
      → words_of line ≡ Ok words → IsAnswerTo words answer → ReadsNext reading result (with_words answer s words)
      → ReadsLine s line reading result
  unfolding with_line
  line_read words answer (Ok done) has is reads =
      subst (λ (read : Result (List Word) script_kind.FaultKind). (given : Option CliArgs) × IsAnswerToLine read given
      × ((as_scripts read >>> with_words given s) ≡ Ok (so_far reading))) (sym has) (answer, is, reads)
  line_read words answer (Err (Memory e)) has is reads = tt
  line_read words answer (Err (Fault kind)) has is reads =
      subst (λ (read : Result (List Word) script_kind.FaultKind). (given : Option CliArgs) × IsAnswerToLine read given
      × ((as_scripts read >>> with_words given s) ≡ Err kind)) (sym has) (answer, is, reads)

  -- a line with an escape that is not whole
  pub line_fails : (e : LineError) → ScriptFails e (words_of line) → ReadsLine s line reading (Err (step_error e))
  unfolding with_line
  line_fails (line_error.Memory e) fails = tt
  line_fails (line_error.Fault kind) fails = grind (arith, nat_tests)

module _ (text : List ℕ) (s : Seen) (number : ℕ) (rest : List (List ℕ)) (line : List ℕ) (more : List (List ℕ))
    (leads : Leads text s number rest) (split : rest ≡ line ∷ more) where
  pub line_keeps : (reading : code.Reading) → ReadsLine s line reading (Ok tt)
      → Leads text (so_far reading) (number + 1) more
  unfolding LinesFrom
  line_keeps reading reads =
      λ read others. leads read (subst (λ (lines : List (List ℕ)). LinesFrom s number lines read) (sym split)
      (Ok (so_far reading), reads, others))

  pub line_stops : (reading : code.Reading) (e : StepError) → ReadsLine s line reading (Err e)
      → MayRead text (Err (fault_at number e))
  unfolding LinesFrom
  line_stops reading (Memory e) reads = tt
  line_stops reading (Fault kind) reads =
      let read : Result Seen fault.SceneFault = Err (record { line = number; kind = kind }) in
      leads read (subst (λ (lines : List (List ℕ)). LinesFrom s number lines read) (sym split) (Err kind, reads, refl))

pub lines_end : (text : List ℕ) (s : Seen) (number : ℕ) (rest : List (List ℕ)) → Leads text s number rest
    → rest ≡ [] → ReadsAs text (Ok s)
unfolding LinesFrom
lines_end text s number rest leads empty = grind (arith, nat_tests)

pub lines_begin : (text : List ℕ) (reading : code.Reading) → reading.supers.items ≡ [] → reading.everyone ≡ false
    → reading.services.items ≡ [] → reading.consumers.items ≡ [] → reading.steps.items ≡ []
    → Leads text (so_far reading) 1 (lines_in text)
lines_begin text reading nobody closed unserved unread still = grind (arith, nat_tests)

-- What the lines that are left make a scene with its steps' lines, the text does.
abbrev pub LeadsOn : List ℕ → Seen → ℕ → List (List ℕ) → List ℕ → Type 0
LeadsOn text s number rest numbers =
    (read : Seen) (later : List ℕ) → LinesFollow s number rest read later → HasLines text read (numbers ++ later)

pub steps_follow : (text : List ℕ) (s : Seen) (number : ℕ) (rest : List (List ℕ)) (line : List ℕ) (more : List (List ℕ))
    (numbers then_numbers : List ℕ) (reading : code.Reading) → LeadsOn text s number rest numbers → rest ≡ line ∷ more
    → ReadsLine s line reading (Ok tt)
    → then_numbers ≡ numbers ++ replicate (length (so_far reading).steps - length s.steps) number
    → LeadsOn text (so_far reading) (number + 1) more then_numbers
unfolding LinesFollow
steps_follow text s number rest line more numbers then_numbers reading leads split reads added read later follows =
    let these = replicate (length (so_far reading).steps - length s.steps) number in
    subst (HasLines text read) (sym (append_assoc numbers these later) ∙ ap (λ front. front ++ later) (sym added))
    (leads read (these ++ later) (subst (λ (lines : List (List ℕ)). LinesFollow s number lines read (these ++ later))
    (sym split) (so_far reading, later, reads, follows, refl)))

pub steps_end : (text : List ℕ) (s : Seen) (number : ℕ) (rest : List (List ℕ)) (numbers : List ℕ)
    → LeadsOn text s number rest numbers → rest ≡ [] → HasLines text s numbers
unfolding LinesFollow
steps_end text s number rest numbers leads empty =
    subst (HasLines text s) (append-nil numbers)
    (leads s [] (subst (λ (lines : List (List ℕ)). LinesFollow s number lines s []) (sym empty) (refl, refl)))
