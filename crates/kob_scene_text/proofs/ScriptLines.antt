-- A script reads as the scene that it is.
use Rattle.kob_scene_text.proofs.Words.{Bool, Check, CliArgs, Consumer, Err, Event, Expect, HasNoWorkerLine, Head, Journal, LateSetting, Law, List, Of, Ok, Option, ReadsAs, Request, Result, SceneFaultKind, Script, Seen, Service, Setting, Settings, ThenLines, Unknown, Word, [], and_parts, ap, arith, as_line, as_scene, as_scripts, false, if◌then◌else◌, is_request, is_script_line, list_all, map-append, nat_lt, nat_tests, refl, rules, scene_of, suc, tests, true, with_head, with_setting, words_of, ℕ, ◌+◌, ◌==◌, ◌>>=◌, ◌>>>◌, ◌∙◌, ◌∷◌, ◌≡◌}
use Rattle.kob_script.specs.declared.fault.Fault as script_fault
use Rattle.kob_script.specs.declared.fault.FaultKind as script_kind
use Rattle.kob_script.specs.Script as script
use Rattle.kob_scene_text.specs.declared.fault.SceneFaultKind.TheVariants as kinds
use Rattle.kob_scene_text.specs.Scenes.{LinesFrom, with_line, with_words}

not_none : (n : ℕ) → (suc n == 0) ≡ false
not_none n = search (rules, tests)

some : (n : ℕ) → nat_lt 0 (suc n) ≡ true
some n = search (rules, tests)

late_alike : (early late : Bool) (x : Result Seen SceneFaultKind) (y : Result Script script_kind.FaultKind)
    → early ≡ false → late ≡ true
    → (if early then x else Err (kinds.Script LateSetting)) ≡ as_line (if late then Err LateSetting else y)
late_alike early late x y e l = rw (e, l) refl

setting_alike : (settings : Settings) (events : List Event) (first : Word) (arguments : List Word)
    → with_setting (scene_of (record { settings = settings; events = events })) first arguments
    ≡ as_line (script.with_setting (record { settings = settings; events = events }) first arguments)
setting_alike settings [] first arguments = grind (arith, nat_tests)
setting_alike settings (event ∷ events) first arguments = grind (arith, nat_tests, late_alike, not_none)

head_alike : (answer : Option CliArgs) (s : Script) (first : Word) (rest : List Word) (setting : Bool) (head : Head)
    → (if setting then true else is_request head) ≡ true
    → with_head answer (if setting then Setting else head) (scene_of s) first rest
    ≡ as_line (if setting then script.with_setting s first rest else script.with_events answer s (first ∷ rest))
head_alike answer s first rest true head plain = setting_alike s.settings s.events first rest
head_alike answer s first rest false Request plain = grind (arith, nat_tests, map-append)
head_alike answer s first rest false Setting plain = absurd cc
head_alike answer s first rest false Service plain = absurd cc
head_alike answer s first rest false Consumer plain = absurd cc
head_alike answer s first rest false Journal plain = absurd cc
head_alike answer s first rest false Law plain = absurd cc
head_alike answer s first rest false Check plain = absurd cc
head_alike answer s first rest false Expect plain = absurd cc
head_alike answer s first rest false (Of worker) plain = absurd cc
head_alike answer s first rest false Unknown plain = absurd cc

words_alike : (answer : Option CliArgs) (s : Script) (line : Result (List Word) script_kind.FaultKind)
    → is_script_line line ≡ true
    → (as_scripts line >>> with_words answer (scene_of s)) ≡ as_line (line >>= script.with_words answer s)
unfolding with_words
words_alike answer s (Err kind) plain = refl
words_alike answer s (Ok []) plain = refl
words_alike answer s (Ok (first ∷ rest)) plain = grind (arith, nat_tests, head_alike)

then_alike : (number : ℕ) (lines : List (List ℕ)) (first : Result Script script_kind.FaultKind)
    (read : Result Script script_fault.Fault)
    → ((next : Script) → script.LinesFrom next (number + 1) lines read
    → LinesFrom (scene_of next) (number + 1) lines (as_scene read))
    → script.ThenLines number first (λ next. script.LinesFrom next (number + 1) lines read) read
    → ThenLines number (as_line first) (λ next. LinesFrom next (number + 1) lines (as_scene read)) (as_scene read)
then_alike number lines (Ok next) read others may = others next may
then_alike number lines (Err kind) read others may = ap as_scene may

lines_alike : (s : Script) (number : ℕ) (lines : List (List ℕ)) (read : Result Script script_fault.Fault)
    → list_all (λ line. is_script_line (words_of line)) lines ≡ true → script.LinesFrom s number lines read
    → LinesFrom (scene_of s) number lines (as_scene read)
unfolding LinesFrom script.LinesFrom with_line script.with_line
lines_alike s number [] read plain may = ap as_scene may
lines_alike s number (line ∷ lines) read plain (first, (answer, is, gives), others) =
    let here = and_parts (is_script_line (words_of line)) (list_all (λ l. is_script_line (words_of l)) lines) plain in (
      as_line first,
      (answer, is, words_alike answer s (words_of line) here.0 ∙ ap as_line gives),
      then_alike number lines first read (λ next may. lines_alike next (number + 1) lines read here.1 may) others,
    )

pub script_is_scene : (text : List ℕ) (read : Result Script script_fault.Fault) → HasNoWorkerLine text
    → script.ReadsAs text read → ReadsAs text (as_scene read)
script_is_scene text read plain may = lines_alike script.empty_script 1 (script.lines_in text) read plain may
